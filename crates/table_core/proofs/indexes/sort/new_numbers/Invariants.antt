use Rattle.std.proofs.Common.{◌≡◌, ◌+◌, ◌≤◌, length, take}
use Rattle.dbf_image.specs.Table.{kept_rows}
use Rattle.table_order.specs.Packing.{packed_numbers}
use Rattle.table_core.proofs.indexes.sort.new_numbers.Given as goal

abbrev pub invariant-loop-index : goal.invariant-loop-index
invariant-loop-index l = record {
  numbers : l.numbers.items ≡ packed_numbers 1 (take l.index l.records.table.rows);
  next : l.next ≡ 1 + length (kept_rows (take l.index l.records.table.rows));
  count_bounded : l.next ≤ l.index + 1;
}
