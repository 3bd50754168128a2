use Rattle.program_frame.proofs.Printing.{appends_then}
use Rattle.audit_program.proofs.failure.print_performed.Goals as goal

pub returns : goal.returns
returns g c = record { text = rw (← c.as_slice.ensures.value) (appends_then _ _ _ _ _ c.in_ok-write_all.ensures.bytes c.in_ok-print_shortened.ensures.text) }
