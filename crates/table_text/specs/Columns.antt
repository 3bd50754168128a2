-- Texts in columns.
use Rattle.std.specs.Prelude.{ℕ, ◌+◌, ◌-◌, not, ◌&&◌, ◌==◌, max, codes, if◌then◌else◌}
use Rattle.std.specs.Prelude.{List, [], ◌∷◌, ◌++◌, length, replicate, slice_index}
use Rattle.std.specs.List.{fold}
use Rattle.std.specs.Fmt.{decimal}
use Rattle.dbf_fields.specs.declared.field.Field.{Field}
use Rattle.dbf_fields.specs.NumberText.{right_justified}
use Rattle.dbf_fields.specs.declared.format.TheConstants.{BLANK, NUMBER}
use Rattle.dbf_image.specs.Table.{Table, cell_at}
use Rattle.table_text.specs.declared.memo_form.MemoForm.{MemoForm}
use Rattle.table_text.specs.Shown.{shown_cell}

-- a text before as many blanks as fill the width
abbrev pub left_justified : ℕ → List ℕ → List ℕ
left_justified width text = text ++ replicate (width - length text) BLANK

-- a text in a column of a kind: a number's at the right, every other at the left
unfoldable pub aligned : ℕ → ℕ → List ℕ → List ℕ
aligned kind width text = if kind == NUMBER then right_justified width text else left_justified width text

-- texts in columns: the column of each field from the one with this index on, each after a blank
abbrev pub columns_text : List ℕ → (ℕ → Field → List ℕ) → ℕ → List Field → List ℕ
columns_text widths text index [] = []
columns_text widths text index (f ∷ fs) = BLANK ∷ (aligned f.kind (slice_index widths index) (text index f) ++ columns_text widths text (index + 1) fs)

-- what is shown of a record's cell in its field's column
abbrev pub cell_shown : Table → MemoForm → ℕ → ℕ → Field → List ℕ
cell_shown table memos number index f = shown_cell memos f.kind (cell_at table number index)

-- how wide the column of a field is: as its name, or as the widest text that is shown in it of the records of these numbers
abbrev pub column_width : Table → List ℕ → MemoForm → ℕ → Field → ℕ
column_width table shown memos index f =
    fold (λ width number. max width (length (cell_shown table memos number index f))) (length f.name) shown

-- the last column isn't filled up with blanks at its end
abbrev pub filled_width : Table → List ℕ → MemoForm → ℕ → Field → ℕ
filled_width table shown memos index f =
    if (index + 1 == length table.schema) && not (f.kind == NUMBER) then 0 else column_width table shown memos index f

-- the widths that the columns are filled up to, from the field with this index on
abbrev pub widths_from : Table → List ℕ → MemoForm → ℕ → List Field → List ℕ
widths_from table shown memos index [] = []
widths_from table shown memos index (f ∷ fs) = filled_width table shown memos index f ∷ widths_from table shown memos (index + 1) fs

abbrev pub column_widths : Table → List ℕ → MemoForm → List ℕ
column_widths table shown memos = widths_from table shown memos 0 table.schema

-- the heading of the column of record numbers
abbrev pub number_heading : List ℕ
number_heading = codes "Record#"

-- how wide that column is: as its heading, or as the number of the last record
abbrev pub number_width : Table → ℕ
number_width table = max (length number_heading) (length (decimal (length table.rows)))
