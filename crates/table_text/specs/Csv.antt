-- The records of a table as CSV.
use Rattle.std.specs.Prelude.{ℕ, ◌+◌, Bool, not, ◌&&◌, ◌||◌, ◌==◌, List, [], ◌∷◌, ◌++◌, length, codes, Option, if◌then◌else◌}
use Rattle.std.specs.List.{flat_map, list_any}
use Rattle.dbf_fields.specs.declared.field.Field.{Field}
use Rattle.dbf_fields.specs.declared.format.TheConstants.{MEMO, NUMBER}
use Rattle.dbf_fields.specs.Number.{trimmed}
use Rattle.dbf_image.specs.Table.{Table, row_at, cell_at}
use Rattle.table_text.specs.declared.format.TheConstants.{COMMA, CR, LF, QUOTE}
use Rattle.table_text.specs.declared.selection.Selection.{Selection}
use Rattle.table_text.specs.Shown.{trimmed_end}
use Rattle.table_text.specs.Selection.{selected}

-- a byte that may not stand in a field without quotes around it
abbrev pub wants_quotes : ℕ → Bool
wants_quotes byte = ((byte == COMMA || byte == QUOTE) || byte == CR) || byte == LF

-- a byte between quotes: a quote stands twice
abbrev pub quoted_byte : ℕ → List ℕ
quoted_byte byte = if byte == QUOTE then QUOTE ∷ QUOTE ∷ [] else byte ∷ []

-- A text as a field of CSV: between quotes if it has a byte that needs them, or is empty and alone in its line, which would be an
-- empty line; and else as it is.
unfoldable pub csv_field : Bool → List ℕ → List ℕ
csv_field alone text =
    if list_any wants_quotes text || (alone && (length text == 0)) then QUOTE ∷ (flat_map quoted_byte text ++ QUOTE ∷ []) else text

-- what stands of a cell, by the letter of its field's kind: all of a memo, a number without the blanks around it, and
-- of every other cell, as a date's eight digits, what stands before the blanks at its end
unfoldable pub csv_value : ℕ → List ℕ → List ℕ
csv_value kind cell =
    if kind == MEMO then cell else
    (if kind == NUMBER then trimmed cell else
    trimmed_end cell)

-- a comma before every field but the first
abbrev pub separator : ℕ → List ℕ
separator index = if index == 0 then [] else COMMA ∷ []

-- the text of each field from the one with this index on
abbrev pub csv_fields : (ℕ → Field → List ℕ) → ℕ → List Field → List ℕ
csv_fields text index [] = []
csv_fields text index (f ∷ fs) = separator index ++ (text index f ++ csv_fields text (index + 1) fs)

-- the only field of a line
abbrev pub is_alone : Bool → Table → Bool
is_alone deleted_column table = not deleted_column && (length table.schema == 1)

-- a record's cell as a field
abbrev pub csv_cell : Bool → Table → ℕ → ℕ → Field → List ℕ
csv_cell deleted_column table number index f = csv_field (is_alone deleted_column table) (csv_value f.kind (cell_at table number index))

-- what stands after the last field, where the column of marks is asked for
abbrev pub mark_heading : Bool → List ℕ
mark_heading deleted_column = if deleted_column then codes ",deleted" else []

abbrev pub mark_field : Bool → Bool → List ℕ
mark_field deleted_column deleted = if deleted_column then (if deleted then codes ",true" else codes ",false") else []

-- the first line: the names of the fields
abbrev pub csv_heading : Bool → Table → List ℕ
csv_heading deleted_column table = csv_fields (λ _ f. f.name) 0 table.schema ++ (mark_heading deleted_column ++ CR ∷ LF ∷ [])

-- a record's line of CSV
abbrev pub csv_line : Bool → Table → ℕ → List ℕ
csv_line deleted_column table number =
    csv_fields (csv_cell deleted_column table number) 0 table.schema ++ (mark_field deleted_column (row_at table number).deleted ++ CR ∷ LF ∷ [])

-- a table as CSV: the names of the fields, and a line for each record that is shown
abbrev pub csv_text : Table → Option (List ℕ) → Selection → Bool → List ℕ
csv_text table order selection deleted_column =
    csv_heading deleted_column table ++ flat_map (csv_line deleted_column table) (selected table order selection)
