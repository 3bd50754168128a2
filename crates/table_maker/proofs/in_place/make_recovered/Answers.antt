use Rattle.table_maker.proofs.in_place.make_recovered.Goals as goal

pub returns-clause-ends : goal.returns-clause-ends
returns-clause-ends g c = rw (c.work-ended.ensures.kept, c.requires.origin) at c.end_in_place.ensures.ends
