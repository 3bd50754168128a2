use Rattle.tool_program.proofs.placing.place_table.Goals as goal

pub returns-clause-made : goal.returns-clause-made
returns-clause-made g c = rw c.in-Some.ensures.value at c.make_into.ensures.made

pub returns-clause-open_day : goal.returns-clause-open_day
returns-clause-open_day g c = rw c.in-Some.ensures.value at c.make_into.ensures.open_day
