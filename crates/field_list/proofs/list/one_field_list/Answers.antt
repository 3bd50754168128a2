use Rattle.field_list.proofs.ReadLaws.{some_said, one_said}
use Rattle.field_list.proofs.list.one_field_list.Goals as goal

pub returns-clause-some : goal.returns-clause-some
returns-clause-some c = some_said

pub returns-clause-one : goal.returns-clause-one
returns-clause-one c = one_said
