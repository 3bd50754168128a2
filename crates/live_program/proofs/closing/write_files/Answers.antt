use Rattle.std.proofs.Common.{ap, length, inl, inr, refl}
use Rattle.live_program.specs.Failures.{IsNameBeside}
use Rattle.live_program.proofs.DayLaws.{files_written}
use Rattle.live_program.proofs.FailureLaws.{table_named, told_end_of, unwritten_on}
use Rattle.live_program.proofs.closing.write_files.Goals as goal

pub returns-clause-wrote : goal.returns-clause-wrote
returns-clause-wrote g c =
    let h = c.args.catalogue.now in
    files_written h c.args.today _ _ _ _ _ _ c.in_ok-put_tables.ensures.wrote.1 (rw (c.journal-journal.ensures.entries, c.station_count.ensures.value) at c.in_ok-write_answers.ensures.wrote)
    (rw (c.journal-journal.ensures.entries, c.station_count.ensures.value) at c.in_ok-write_answers.ensures.bytes) c.in_ok-write_log.ensures.wrote c.in_ok-write_log.ensures.bytes
    (ap length c.journal-journal.ensures.entries)

pub returns-in_err-put_tables-clause-fault : goal.returns-in_err-put_tables-clause-fault
returns-in_err-put_tables-clause-fault g c =
    told_end_of _ _ _ c.from_residual.ensures.1 (
      c.in_err-put_tables.field-0.0,
      inr (
        c.journal-journal.ensures.legal,
        c.in_err-put_tables.ensures.fault,
        table_named c.args.catalogue.now c.args.today _ _ c.in_err-put_tables.field-0.0 c.in_err-put_tables.ensures.whole_before_fault,
      ),
      refl,
    )

pub returns-in_err-write_answers-clause-fault : goal.returns-in_err-write_answers-clause-fault
returns-in_err-write_answers-clause-fault g c =
    told_end_of _ _ _ c.from_residual-in_err-write_answers.ensures.1 (
      c.in_err-write_answers.field-0.0,
      inl (unwritten_on _ (IsNameBeside c.args.catalogue.now.opened.stations) c.in_err-write_answers.field-0.0 (λ name is. inl is)
          (rw c.station_count.ensures.value at c.in_err-write_answers.ensures.fault)),
      refl,
    )

pub returns-in_err-write_log-clause-fault : goal.returns-in_err-write_log-clause-fault
returns-in_err-write_log-clause-fault g c =
    told_end_of _ _ _ c.from_residual-in_err-write_log.ensures.1 (
      c.in_err-write_log.field-0.0,
      inl (unwritten_on _ (IsNameBeside c.args.catalogue.now.opened.stations) c.in_err-write_log.field-0.0 (λ name is. inr is) c.in_err-write_log.ensures.fault),
      refl,
    )
