use Rattle.program_frame.proofs.Printing.{appends_then}
use Rattle.program_frame.proofs.reason.print_unwritten.Goals as goal

pub returns : goal.returns
returns g c = record {
  text = appends_then _ _ _ _ _ c.in_ok-write_all.ensures.bytes
      (appends_then _ _ _ _ _ (rw c.as_slice.ensures.value at c.in_ok-write_all-2.ensures.bytes) c.in_ok-write_all-3.ensures.bytes);
}
