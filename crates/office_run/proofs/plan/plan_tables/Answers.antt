use Rattle.office_run.proofs.PlanLaws.{tables_more, after_more, not_blocked}
use Rattle.office_run.proofs.plan.plan_tables.Goals as goal

pub loop-closed-preserved : goal.loop-closed-preserved
loop-closed-preserved c = record {
  files = after_more _ _ _ _ _ _ c.in_ok-plan_table.ensures.files c.loop-closed.invariant.files (tables_more c.args.day.year c.args.day.month c.args.day.day c.args.tables.now c.loop-closed.closed-index c.closed-item.result c.loop-closed-test.true c.closed-item.is);
  blocks_fit = (not_blocked c.args.tables.now c.loop-closed.closed-index c.closed-item.result c.loop-closed-test.true c.closed-item.is c.loop-closed.invariant.blocks_fit).1;
}
