use Rattle.office_run.proofs.NeverRefused.{never_refused}
use Rattle.office_run.proofs.OneOpening.{one_opening, opens_as_before}
use Rattle.office_run.proofs.opened_again.one_opening.Goals as goal

pub returns-clause-one : goal.returns-clause-one
returns-clause-one c = one_opening

pub returns-clause-still : goal.returns-clause-still
returns-clause-still c = opens_as_before

pub returns-clause-never_refused : goal.returns-clause-never_refused
returns-clause-never_refused c = never_refused
