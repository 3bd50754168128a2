use Rattle.std.proofs.Common.{◌≡◌, length, take, option_copied, vec_len}
use Rattle.std.specs.List.{filter, range_with_len}
use Rattle.table_text.specs.Columns.{column_widths}
use Rattle.table_text.proofs.Among.{is_listed}
use Rattle.table_text.proofs.widths.column_widths.Given as goal

-- the columns are as wide as for the records so far that are shown
abbrev pub invariant-loop-place : goal.invariant-loop-place
invariant-loop-place l = record {
  whole : l.widths.items ≡ column_widths l.table (filter (is_listed l.table (option_copied l.order) l.selection) (take l.place (range_with_len 1 (length l.table.rows)))) l.memos;
  many : vec_len l.widths ≡ length l.table.schema;
}
