use Rattle.std.proofs.Common.{◌≡◌, ◌+◌, ◌≤◌, ◌++◌, length, drop}
use Rattle.dbf_fields.specs.Faults.{first_fault}
use Rattle.dbf_fields.specs.Field.{widths}
use Rattle.dbf_image.specs.MemoNumbers.{cells_texts, all_texts, IsReading}
use Rattle.dbf_image.specs.BadTable.{record_memos_tests}
use Rattle.dbf_image.proofs.dbt.memos.read_cells.Given as goal

abbrev pub invariant-loop-index : goal.invariant-loop-index
invariant-loop-index l = record {
  reading : IsReading l.dbt l.memos;
  room : widths (drop l.index l.fields) ≤ length l.rest;
  texts : all_texts l.dbt l.memos ++ cells_texts l.dbt (drop l.index l.fields) l.rest
      ≡ all_texts l.dbt l.fn.memos ++ cells_texts l.dbt l.fields l.bytes;
  left : first_fault (record_memos_tests l.dbt l.record_number (l.index + 1) (drop l.index l.fields) l.rest) ≡ first_fault (record_memos_tests l.dbt l.record_number 1 l.fields l.bytes);
}
