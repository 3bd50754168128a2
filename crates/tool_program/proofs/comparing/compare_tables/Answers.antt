use Rattle.std.proofs.Common.{inr}
use Rattle.std.proofs.lemmas.Result.{IfErr-weaker, IfOk-weaker}
use Rattle.tool_program.proofs.comparing.compare_tables.Goals as goal

pub returns-clause-compared : goal.returns-clause-compared
returns-clause-compared g c =
    IfOk-weaker c.write_changes.result _ _
    (λ differ told. record {
      old_table = c.in_ok-old_table.old_table.table;
      new_table = c.in_ok-new_table.new_table.table;
      old_files = c.in_ok-old_table.ensures.table;
      new_files = rw c.loaded.ensures.kept at c.in_ok-new_table.ensures.table;
      told = told;
    })
    c.write_changes.ensures.told

pub returns-clause-fault : goal.returns-clause-fault
returns-clause-fault g c =
    IfErr-weaker c.write_changes.result _ _
    (λ fault untold. inr (inr (record {
      old_table = c.in_ok-old_table.old_table.table;
      new_table = c.in_ok-new_table.new_table.table;
      old_files = c.in_ok-old_table.ensures.table;
      new_files = rw c.loaded.ensures.kept at c.in_ok-new_table.ensures.table;
      untold = untold;
    })))
    c.write_changes.ensures.fault
