use Rattle.std.proofs.Common.{map, ap, Err}
use Rattle.program_frame.proofs.BesideDay.{said_open, unread_said}
use Rattle.audit_program.proofs.Commands.{unread, unread_not_open, unaudited}
use Rattle.audit_program.proofs.running.run_program.Goals as goal

pub returns-in_err-options-clause-fault : goal.returns-in_err-options-clause-fault
returns-in_err-options-clause-fault g c = unread _ (g.S.Source.files c.args.source.now) (map g.T.AsStr.text c.args.words.now) _ c.from_residual.ensures.1 c.in_err-options.ensures.fault

pub returns-in_err-run_options-clause-fault : goal.returns-in_err-run_options-clause-fault
returns-in_err-run_options-clause-fault g c =
    unaudited _ (g.S.Source.files c.args.source.now) (map g.T.AsStr.text c.args.words.now) c.in_ok-options.options _ c.from_residual-in_err-run_options.ensures.1 c.in_ok-options.ensures.asked c.in_err-run_options.ensures.fault

pub returns-clause-audited : goal.returns-clause-audited
returns-clause-audited g c = record {
  options = c.in_ok-options.options;
  asked = c.in_ok-options.ensures.asked;
  audited = c.in_ok-run_options.ensures.audited;
}

pub returns-in_err-options-clause-open_day : goal.returns-in_err-options-clause-open_day
returns-in_err-options-clause-open_day g c told =
    absurd (unread_said _ _ c.from_residual.ensures.1 (unread_not_open (map g.T.AsStr.text c.args.words.now) _ c.in_err-options.ensures.fault) told)

pub returns-in_err-run_options-clause-open_day : goal.returns-in_err-run_options-clause-open_day
returns-in_err-run_options-clause-open_day g c told = (
  c.in_ok-options.options,
  c.in_ok-options.ensures.asked,
  c.in_err-run_options.ensures.open_day
      (ap Err (said_open _ _ c.from_residual-in_err-run_options.ensures.1 told)),
)
