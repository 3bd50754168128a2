use Rattle.std.proofs.Common.{◌≡◌, ◌+◌, ◌-◌, ◌*◌, ◌≤◌, ◌++◌, length}
use Rattle.std.specs.Prelude.{flat_map}
use Rattle.dbf_fields.specs.Faults.{first_fault}
use Rattle.dbf_image.specs.DbfText.{chunks}
use Rattle.dbf_image.specs.MemoNumbers.{row_texts, all_texts, IsReading}
use Rattle.dbf_image.specs.BadTable.{records_memos_tests}
use Rattle.dbf_image.proofs.dbt.memos.read_all.Given as goal

abbrev pub invariant-loop-earlier : goal.invariant-loop-earlier
invariant-loop-earlier l = record {
  reading : IsReading l.dbt l.memos;
  room : (l.count - l.earlier) * l.size ≤ length l.rest;
  texts : all_texts l.dbt l.memos ++ flat_map (row_texts l.dbt l.fields) (chunks l.size (l.count - l.earlier) l.rest) ≡ flat_map (row_texts l.dbt l.fields) (chunks l.size l.count l.bytes);
  left : first_fault (records_memos_tests l.dbt (l.earlier + 1) l.fields (chunks l.size (l.count - l.earlier) l.rest)) ≡ first_fault (records_memos_tests l.dbt 1 l.fields (chunks l.size l.count l.bytes));
}
