use Rattle.std.proofs.Common.{inl, inr, refl}
use Rattle.program_frame.proofs.InPlaceLaws.{unplaced_load}
use Rattle.program_frame.proofs.InputDays.{place_day, place_refusal}
use Rattle.program_frame.specs.InputDays.{IsOpenBeside}
use Rattle.audit_program.specs.Program.{IsFailedBy, IsLoadFailure}
use Rattle.audit_program.proofs.AskingLaws.{no_audit_day}
use Rattle.audit_program.proofs.asking.refuse_open_run.Goals as goal

pub returns-in-Ok-clause-closed : goal.returns-in-Ok-clause-closed
returns-in-Ok-clause-closed g c =
    no_audit_day (g.B.Beside.answers c.args.system.now) (g.S.Source.files c.args.source.now) c.args.options.now c.refuse_open_setup.result
    (rw c.as_bytes.ensures.value at c.in-Ok.ensures.closed) c.refuse_open_setup.ensures.closed

pub returns-in-Ok-clause-open : goal.returns-in-Ok-clause-open
returns-in-Ok-clause-open g c told = inr (c.refuse_open_setup.ensures.open told)

pub returns-in-Err-clause-open : goal.returns-in-Err-clause-open
returns-in-Err-clause-open g c told =
    inl (place_day (g.B.Beside.answers c.args.system.now) (IsOpenBeside (g.B.Beside.answers c.args.system.now) c.args.options.now.journal.now) _ c.in-Err.fault
    c.from.result c.from.ensures (rw c.as_bytes.ensures.value at c.in-Err.ensures.refused) told)

pub returns-in-Err-clause-refused : goal.returns-in-Err-clause-refused
returns-in-Err-clause-refused g c =
    place_refusal (g.B.Beside.answers c.args.system.now) (IsOpenBeside (g.B.Beside.answers c.args.system.now) c.args.options.now.journal.now) _
    (IsFailedBy (g.S.Source.files c.args.source.now) c.args.options.now) c.in-Err.fault c.from.result c.from.ensures
    (rw c.as_bytes.ensures.value at c.in-Err.ensures.refused)

pub returns-in-Err-clause-failure : goal.returns-in-Err-clause-failure
returns-in-Err-clause-failure g c =
    unplaced_load _ (IsLoadFailure (g.S.Source.files c.args.source.now) c.args.options.now (g.S.Source.failures c.args.source.now)
    (g.S.Source.failures c.args.source.now)) _ c.in-Err.fault c.from.result c.from.ensures refl
