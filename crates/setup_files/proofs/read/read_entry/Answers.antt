use Rattle.setup_files.proofs.read.read_entry.Goals as goal

pub returns-in-Table-clause-read : goal.returns-in-Table-clause-read
returns-in-Table-clause-read g c = rw c.in-Table.is (c.read_table.ensures.read c.in-Table.name)

pub returns-in-Table-clause-loads : goal.returns-in-Table-clause-loads
returns-in-Table-clause-loads g c = rw c.in-Table.is (c.read_table.ensures.loads c.in-Table.name)

pub returns-in-Index-clause-read : goal.returns-in-Index-clause-read
returns-in-Index-clause-read g c = rw c.in-Index.is (c.read_index.ensures.read c.in-Index.table c.in-Index.name)

pub returns-in-Index-clause-loads : goal.returns-in-Index-clause-loads
returns-in-Index-clause-loads g c = rw c.in-Index.is (c.read_index.ensures.loads c.in-Index.table c.in-Index.name)
