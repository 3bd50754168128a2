use Rattle.byte_io.specs.Laws.Sinks.{front_grown, on_err}
use Rattle.office_run.proofs.journal.write_journal.Goals as goal

pub returns-in_err-name-clause-front : goal.returns-in_err-name-clause-front
returns-in_err-name-clause-front g c = on_err _ (front_grown _ _)
