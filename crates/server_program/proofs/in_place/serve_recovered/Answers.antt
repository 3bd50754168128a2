use Rattle.server_program.proofs.in_place.serve_recovered.Goals as goal

pub returns-clause-ends : goal.returns-clause-ends
returns-clause-ends g c = rw (c.work-ended.ensures.kept, c.requires.origin) at c.end_in_place.ensures.ends

pub returns-clause-fault : goal.returns-clause-fault
returns-clause-fault g c = rw c.work-ended.ensures.kept at c.end_in_place.ensures.fault
