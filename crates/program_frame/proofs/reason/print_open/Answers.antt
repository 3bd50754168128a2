use Rattle.program_frame.proofs.Printing.{appends_then}
use Rattle.program_frame.proofs.reason.print_open.Goals as goal

pub returns : goal.returns
returns g c = record {
  text = appends_then _ _ _ _ _ (rw c.open_name.ensures.value at c.in_ok-print_both.ensures.text) c.in_ok-print_open_place.ensures.text;
}
