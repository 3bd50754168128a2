use Rattle.std.proofs.Common.{◌≡◌, drop}
use Rattle.csv.specs.Records.{fields_of}
use Rattle.dbf_image.specs.Table.{Row, blank_row, with_row}
use Rattle.table_loader.specs.Loading.{filled}
use Rattle.table_loader.proofs.record.add_filled.Given as goal

-- the last record has what the line says for the fields so far, and the rest makes the whole
abbrev pub invariant-loop-index : goal.invariant-loop-index
invariant-loop-index l = (row : Row) × (l.table.table ≡ with_row l.fn.table.table row)
    × (filled l.plan.form l.plan.heading l.line (fields_of l.cells) l.index (drop l.index l.fields) row
    ≡ filled l.plan.form l.plan.heading l.line (fields_of l.cells) 0 l.fields (blank_row l.fields))
