use Rattle.std.proofs.Common.{◌≡◌, ◌++◌, drop}
use Rattle.dbf_image.specs.Table.{row_at}
use Rattle.table_text.specs.Csv.{csv_fields}
use Rattle.table_diff.specs.DiffText.{value_words}
use Rattle.table_diff.proofs.records.append_values.Given as goal

-- the values that the line has and those that are left make the whole
abbrev pub invariant-loop-index : goal.invariant-loop-index
invariant-loop-index l =
    let text = value_words (row_at l.table.table l.number) in
    l.line.items ++ csv_fields text l.index (drop l.index l.fields) ≡ l.fn.line.items ++ csv_fields text 0 l.fields
