use Rattle.office_run.proofs.PlanLaws.{table_last}
use Rattle.office_run.proofs.plan.plan_table.Goals as goal

pub returns : goal.returns
returns c = record {
  files = table_last _ _ _ _ _ _ _ c.in_ok-plan_records.ensures.files c.in_ok-plan_memos.ensures.files (rw c.deref.ensures.value at c.in_ok-plan_indexes.ensures.files);
}
