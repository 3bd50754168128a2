use Rattle.tool_program.proofs.RunAnswers.{answers_of_run, asks_for_its_own, never_called_none}
use Rattle.tool_program.proofs.law.answers_of_runs_are_shown.Goals as goal

pub returns : goal.returns
returns c = record { shown = answers_of_run; own = asks_for_its_own; never_none = never_called_none }
