use Rattle.std.proofs.Common.{inl, inr, refl}
use Rattle.live_program.specs.Failures.{IsNameBeside}
use Rattle.live_program.proofs.DayLaws.{day_written}
use Rattle.live_program.proofs.FailureLaws.{told_end_of, unwritten_on}
use Rattle.live_program.proofs.closing.write_day.Goals as goal

pub returns-in_err-write_log-clause-fault : goal.returns-in_err-write_log-clause-fault
returns-in_err-write_log-clause-fault g c =
    told_end_of _ _ _ c.from_residual.ensures.1 (
      c.in_err-write_log.field-0.0,
      inl (unwritten_on _ (IsNameBeside c.args.catalogue.now.opened.stations) c.in_err-write_log.field-0.0 (λ name is. inr is) c.in_err-write_log.ensures.fault),
      refl,
    )

pub returns-clause-wrote : goal.returns-clause-wrote
returns-clause-wrote g c = day_written c.args.catalogue.now c.args.end _ _ (rw c.journal.ensures.entries at c.if-count-eq0.false) c.in_ok-write_files.ensures.wrote
