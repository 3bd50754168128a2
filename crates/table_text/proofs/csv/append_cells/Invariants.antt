use Rattle.std.proofs.Common.{◌≡◌, ◌++◌, drop}
use Rattle.table_text.specs.Csv.{csv_cell, csv_fields}
use Rattle.table_text.proofs.csv.append_cells.Given as goal

-- the fields that the line has and those that are left make the whole
abbrev pub invariant-loop-index : goal.invariant-loop-index
invariant-loop-index l =
    let text = csv_cell l.deleted_column l.table l.number in
    l.line.items ++ csv_fields text l.index (drop l.index l.fields) ≡ l.fn.line.items ++ csv_fields text 0 l.fields
