use Rattle.live_program.proofs.Commands.{asked_in, bad_date, not_taken}
use Rattle.live_program.proofs.options.read_options.Goals as goal

pub returns-in-Some-clause-asked : goal.returns-in-Some-clause-asked
returns-in-Some-clause-asked g c =
    asked_in _ _ c.in_ok-matches.matches c.in-Some.options c.in_ok-command.ensures.app c.in_ok-matches.ensures.matches c.in-Some.ensures.asked

pub returns-in_err-matches-clause-fault : goal.returns-in_err-matches-clause-fault
returns-in_err-matches-clause-fault g c =
    not_taken c.from_residual-in_err-matches.result _ _ c.in_err-matches.field-0.0 c.from_residual-in_err-matches.ensures.1 c.in_ok-command.ensures.app
    c.in_err-matches.ensures.passes

pub returns-clause-fault : goal.returns-clause-fault
returns-clause-fault g c =
    bad_date _ _ c.in_ok-matches.matches c.in_ok-command.ensures.app c.in_ok-matches.ensures.matches (c.options_of.ensures.bad c.in-None.is)
