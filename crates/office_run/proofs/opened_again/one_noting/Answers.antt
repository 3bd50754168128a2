use Rattle.office_run.proofs.NotedLaws.{notes_as_before}
use Rattle.office_run.proofs.opened_again.one_noting.Goals as goal

pub returns : goal.returns
returns c = record { still = notes_as_before }
