use Rattle.std.proofs.Common.{refl, arith, ◌≡◌, ◌+◌}
use Rattle.office_run.proofs.PlanLaws.{answers_more, planned_last, after_more}
use Rattle.office_run.proofs.plan.plan_answers.Goals as goal

pub loop-answer-preserved : goal.loop-answer-preserved
loop-answer-preserved c =
    let at : c.loop-answer.station + 1 ≡ c.loop-answer.answer-index + 1 = grind arith in
    record {
      counted = at;
      files = after_more _ _ _ _ _ _ (rw c.in_ok-push.ensures.items (planned_last _ _ _ refl)) c.loop-answer.invariant.files
          (answers_more c.args.answers.now c.loop-answer.answer-index c.answer-item.result _ _ c.loop-answer-test.true c.answer-item.is c.in_ok-name_of_answers.ensures.value at);
    }
