use Rattle.std.proofs.Common.{◌⊎◌, ◌++◌, subst, rules}
use Rattle.files_in_place.specs.Folder.{Name}
use Rattle.files_in_place.specs.System.{IsNoEntry, IsRefused, IsOpenAmong}
use Rattle.files_in_place.proofs.Each.{at_next}
use Rattle.files_in_place.proofs.Opened.{open_kept, no_entry_at}
use Rattle.files_in_place.proofs.system_syncs.open_each.Goals as goal

pub loop-name-preserved : goal.loop-name-preserved
loop-name-preserved g c =
    let said = g.R.SystemCalls.answers in
    let new : Name → Type 0 = λ name. IsOpenAmong said c.open_next.new.files.items (c.args.folder.now ++ name) in
    at_next new c.args.names.now c.loop-name.name-index c.name-item.result c.loop-name-test.true c.name-item.is
    (λ k d lt. open_kept said _ _ _ c.in_ok-open_next.ensures.kept (c.loop-name.invariant k d lt))
    (subst new c.as_slice.ensures.value c.in_ok-open_next.ensures.opened)

pub returns-in_err-open_next-clause-failed : goal.returns-in_err-open_next-clause-failed
returns-in_err-open_next-clause-failed g c failed =
    let said = g.R.SystemCalls.answers in
    let why : IsNoEntry c.as_slice.result.now ⊎ IsRefused said = search rules in
    no_entry_at said c.args.names.now c.loop-name.name-index c.name-item.result c.loop-name-test.true c.name-item.is
    (subst (λ (name : Name). IsNoEntry name ⊎ IsRefused said) c.as_slice.ensures.value why)

pub returns-clause-opened : goal.returns-clause-opened
returns-clause-opened g c k d lt = c.loop-name.invariant k d (search rules)
