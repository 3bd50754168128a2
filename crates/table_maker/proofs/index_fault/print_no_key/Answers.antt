use Rattle.program_frame.proofs.Printing.{appends_then}
use Rattle.table_maker.proofs.index_fault.print_no_key.Goals as goal

pub returns : goal.returns
returns g c = record {
  text = appends_then _ _ _ _ _ (rw c.as_bytes.ensures.value at c.in_ok-write_all.ensures.bytes)
      (appends_then _ _ _ _ _ c.in_ok-write_all-2.ensures.bytes c.in_ok-print_on.ensures.text);
}
