use Rattle.program_frame.proofs.InputDays.{table_found}
use Rattle.program_frame.proofs.inputs.is_open_beside_entry.Goals as goal

pub returns-in-Table-clause-found : goal.returns-in-Table-clause-found
returns-in-Table-clause-found g c =
    table_found (g.Y.Beside.answers c.args.system.now) _ _ _ _ c.is_open_beside_table.result c.in-Table.is (rw c.as_slice.ensures.value at c.is_open_beside_table.ensures.found)
