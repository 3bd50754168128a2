use Rattle.std.proofs.Common.{◌≡◌, true, arith}
use Rattle.std.proofs.lemmas.Grind.{common_steps}
use Rattle.dbf_image.specs.Table.{has_memos}
use Rattle.office_run.specs.Closing.{memo_files}
use Rattle.office_run.proofs.PlanLaws.{planned_last, memos_named}
use Rattle.office_run.proofs.plan.plan_memos.Goals as goal

pub returns-in_ok-push : goal.returns-in_ok-push
returns-in_ok-push c =
    let has : has_memos c.args.closed.now.content.schema ≡ true = grind (arith, common_steps) in
    record { files = rw c.in_ok-push.ensures.items (planned_last _ _ (memo_files c.args.closed.now) (memos_named c.args.closed.now _ c.in_ok-name_with.ensures.value has)) }
