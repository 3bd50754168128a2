use Rattle.std.proofs.Common.{map, ap, Err}
use Rattle.program_frame.proofs.BesideDay.{said_open, unread_said}
use Rattle.server_program.proofs.Commands.{unread, unread_not_open, unserved}
use Rattle.server_program.proofs.running.run_program.Goals as goal

pub returns-in_err-options-clause-fault : goal.returns-in_err-options-clause-fault
returns-in_err-options-clause-fault g c =
    unread _ (g.S.Source.files c.args.source.now) (map g.T.AsStr.text c.args.words.now) _ c.from_residual.ensures.1 c.in_err-options.ensures.fault

pub returns-in_err-serve_options-clause-fault : goal.returns-in_err-serve_options-clause-fault
returns-in_err-serve_options-clause-fault g c =
    unserved _ (g.S.Source.files c.args.source.now) (map g.T.AsStr.text c.args.words.now) c.in_ok-options.options _
    c.from_residual-in_err-serve_options.ensures.1 c.in_ok-options.ensures.asked
    c.in_err-serve_options.ensures.fault

pub returns-clause-served : goal.returns-clause-served
returns-clause-served g c = record {
  options = c.in_ok-options.options;
  asked = c.in_ok-options.ensures.asked;
  inputs = c.in_ok-serve_options.ensures.inputs;
  put = c.in_ok-serve_options.ensures.served;
}

pub returns-in_err-options-clause-open_day : goal.returns-in_err-options-clause-open_day
returns-in_err-options-clause-open_day g c told =
    absurd (unread_said _ _ c.from_residual.ensures.1 (unread_not_open (map g.T.AsStr.text c.args.words.now) _ c.in_err-options.ensures.fault) told)

pub returns-in_err-serve_options-clause-open_day : goal.returns-in_err-serve_options-clause-open_day
returns-in_err-serve_options-clause-open_day g c told = record {
  options = c.in_ok-options.options;
  asked = c.in_ok-options.ensures.asked;
  day = c.in_err-serve_options.ensures.open_day (ap Err (said_open _ _ c.from_residual-in_err-serve_options.ensures.1 told));
}
