use Rattle.office_run.proofs.close.write_content.Goals as goal

pub returns-in-Table-clause-wrote : goal.returns-in-Table-clause-wrote
returns-in-Table-clause-wrote g c = rw c.in-Table.is c.write_table.ensures.wrote

pub returns-in-Table-clause-front : goal.returns-in-Table-clause-front
returns-in-Table-clause-front g c = rw c.in-Table.is c.write_table.ensures.front
