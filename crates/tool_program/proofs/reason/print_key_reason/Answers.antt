use Rattle.tool_program.proofs.Printing.{appends_then}
use Rattle.tool_program.proofs.reason.print_key_reason.Goals as goal

pub returns : goal.returns
returns g c = record { text = appends_then _ _ _ _ _ c.in_ok-write_all.ensures.bytes c.in_ok-print_expression.ensures.text }
