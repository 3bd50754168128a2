-- The line of a record in one of the two formats.
use Rattle.std.specs.Prelude.{◌≡◌, ℕ, List, length}
use Rattle.std.specs.List.{flat_map}
use Rattle.dbf_image.specs.Table.{Table}
use Rattle.table_text.specs.declared.lines.LineFormat.{LineFormat}
use Rattle.table_text.specs.declared.lines.LineFormat.TheVariants.{Columns, Csv}
use Rattle.table_text.specs.Csv.{csv_line}
use Rattle.table_text.specs.Records.{line_with}

abbrev pub line_in : LineFormat → Table → ℕ → List ℕ
line_in (Columns layout) table number = line_with layout.number_width layout.widths.items layout.memos table number
line_in (Csv deleted_column) table number = csv_line deleted_column table number

-- there is a width for each field
abbrev pub HasWidths : LineFormat → Table → Type 0
HasWidths (Columns layout) table = length layout.widths.items ≡ length table.schema
HasWidths (Csv deleted_column) table = Unit {0}

-- the lines of the records of these numbers
abbrev pub lines_in : LineFormat → Table → List ℕ → List ℕ
lines_in format table shown = flat_map (line_in format table) shown
