use Rattle.office_run.proofs.PlanLaws.{indexes_more, after_more}
use Rattle.office_run.proofs.plan.plan_indexes.Goals as goal

pub loop-index-preserved : goal.loop-index-preserved
loop-index-preserved c =
    after_more _ _ _ _ _ _ c.in_ok-plan_index.ensures.files c.loop-index.invariant (indexes_more c.args.indexes.now c.loop-index.index-index c.index-item.result c.loop-index-test.true c.index-item.is)
