use Rattle.live_day.proofs.StopLaws.{told_err}
use Rattle.live_day.proofs.StoppedLaws.{run_entered}
use Rattle.live_day.proofs.day.Day.perform_meaning.Goals as goal

pub returns-in_err-perform-in-Run-clause-performed : goal.returns-in_err-perform-in-Run-clause-performed
returns-in_err-perform-in-Run-clause-performed g c =
    told_err _ c.from_residual.result _ c.from_residual.ensures.1
    (λ performed. run_entered c.args.meaning.now c.in-Run.command c.args.station c.args.self.now.history c.perform.new.self.history c.in-Run.is
    (c.in_err-perform-in-Run.ensures.performed performed))
