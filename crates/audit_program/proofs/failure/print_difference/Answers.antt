use Rattle.program_frame.proofs.Printing.{appends_then}
use Rattle.audit_program.proofs.failure.print_difference.Goals as goal

pub returns : goal.returns
returns g c = record { text = appends_then _ _ _ _ _ c.in_ok-print_entry.ensures.text (appends_then _ _ _ _ _ c.in_ok-print_told.ensures.text c.in_ok-print_performed.ensures.text) }
