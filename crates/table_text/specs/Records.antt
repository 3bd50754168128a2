-- The text of a table: a line of headings, and a line for each record that is shown.
use Rattle.std.specs.Prelude.{ℕ, Bool, ◌&&◌, nat_lt, List, [], ◌∷◌, ◌++◌, length, codes, Option, if◌then◌else◌}
use Rattle.std.specs.List.{flat_map}
use Rattle.std.specs.Fmt.{decimal}
use Rattle.dbf_fields.specs.declared.field.Field.{Field}
use Rattle.dbf_fields.specs.declared.format.TheConstants.{ASTERISK, BLANK, NUMBER}
use Rattle.dbf_image.specs.Table.{Table, row_at}
use Rattle.table_text.specs.declared.format.TheConstants.{LF}
use Rattle.table_text.specs.declared.memo_form.MemoForm.{MemoForm}
use Rattle.table_text.specs.declared.selection.Selection.{Selection}
use Rattle.table_text.specs.Columns.{aligned, cell_shown, columns_text, column_widths, number_heading, number_width}
use Rattle.table_text.specs.Selection.{selected}

-- `*` for a record that is marked as deleted, and else a blank
abbrev pub mark_of : Bool → ℕ
mark_of deleted = if deleted then ASTERISK else BLANK

-- the headings, in columns of these widths: `Record#`, nothing over the marks, and the names of the fields
abbrev pub heading_with : ℕ → List ℕ → List Field → List ℕ
heading_with width widths fields =
    aligned NUMBER width number_heading ++ (BLANK ∷ BLANK ∷ (columns_text widths (λ _ f. f.name) 0 fields ++ LF ∷ []))

-- a record's line, in columns of these widths: its number, its mark and its cells
abbrev pub line_with : ℕ → List ℕ → MemoForm → Table → ℕ → List ℕ
line_with width widths memos table number =
    aligned NUMBER width (decimal number)
    ++ (BLANK ∷ mark_of (row_at table number).deleted ∷ (columns_text widths (cell_shown table memos number) 0 table.schema ++ LF ∷ []))

-- the line of headings of a table of which the records of these numbers are shown
abbrev pub heading_line : Table → List ℕ → MemoForm → List ℕ
heading_line table shown memos = heading_with (number_width table) (column_widths table shown memos) table.schema

-- the line of the record of a number
abbrev pub record_line : Table → List ℕ → MemoForm → ℕ → List ℕ
record_line table shown memos number = line_with (number_width table) (column_widths table shown memos) memos table number

-- the first record that is asked for comes after the last one of the table, and is not the first of all
abbrev pub is_beyond : Table → Selection → Bool
is_beyond table selection = nat_lt 1 selection.first && nat_lt (length table.rows) selection.first

-- the line that says how many records there are
abbrev pub count_line : ℕ → List ℕ
count_line count = codes "records of the table: " ++ (decimal count ++ LF ∷ [])

-- that line, where all records that are asked for come after the last one
abbrev pub beyond_text : Table → Selection → List ℕ
beyond_text table selection = if is_beyond table selection then count_line (length table.rows) else []

-- the text of a table: the headings, and the line of each record that is shown, in the order in which they are; or how many records
-- there are
abbrev pub records_text : Table → Option (List ℕ) → Selection → MemoForm → List ℕ
records_text table order selection memos =
    let shown = selected table order selection in
    (heading_line table shown memos ++ beyond_text table selection) ++ flat_map (record_line table shown memos) shown
