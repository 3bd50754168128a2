-- What an edit makes of a table and of the cursor, or the first refusal.
use Rattle.std.specs.Prelude.{ℕ, ◌+◌, Bool, true, false, nat_lt, ◌==◌, bytes_eq, List, [], length, slice_index_or, Option, Result, Ok}
use Rattle.std.specs.List.{position}
use Rattle.dbf_fields.specs.declared.field.Field.{Field}
use Rattle.dbf_fields.specs.declared.format.TheConstants.{MEMO}
use Rattle.dbf_fields.specs.declared.literal.Literal.{Literal}
use Rattle.dbf_fields.specs.Cell.{stored}
use Rattle.dbf_image.specs.declared.format.TheConstants.{MAX_RECORDS}
use Rattle.dbf_image.specs.Table.{with_row, with_cell, with_mark, packed, blank_row, is_memo_text}
use Rattle.table_core.specs.declared.cursor.Cursor.{Cursor}
use Rattle.table_core.specs.declared.edits.Edit.{Edit}
use Rattle.table_core.specs.declared.edits.Edit.TheVariants as asked
use Rattle.table_core.specs.declared.edits.planned.Target.{Target}
use Rattle.table_core.specs.declared.refusal.Refusal.{Refusal}
use Rattle.table_core.specs.declared.refusal.Refusal.TheVariants.{EndOfFile, NoSuchField, TypeMismatch, BadText, TableFull}
use Rattle.table_core.specs.CellFaults.{kept}
use Rattle.table_core.specs.Content.{Content, Indexed, record_count, with_index, with_table}
use Rattle.table_core.specs.EditValue.{EditValue, AppendBlank, Replace, Memo, Delete, Recall, Pack}
use Rattle.table_core.specs.Moves.{at_record, at_top, in_order_of}
use Rattle.table_core.specs.Outcomes.{found, granted, passed}

-- the index of the field of a name
abbrev pub field_named : Content → List ℕ → Option ℕ
field_named content name = position (λ f. bytes_eq f.name name) content.table.schema

-- the field of an index
abbrev pub field_at : Content → ℕ → Field
field_at content index = slice_index_or content.table.schema index (record { name = []; kind = 0; width = 0; decimals = 0 })

-- the field of a name in the record at the cursor
abbrev pub target : Content → Cursor → List ℕ → Result Target Refusal
target content cursor name =
    found cursor.at EndOfFile (λ number.
    found (field_named content name) NoSuchField (λ field. Ok (record { number = number; field = field })))

-- a last record of blanks
abbrev pub with_blank : Content → Content
with_blank content = with_table content (with_row content.table (blank_row content.table.schema))

-- a cell, or the text of a memo, is replaced
abbrev pub with_value : Content → Target → List ℕ → Content
with_value content t cell = with_table content (with_cell content.table t.number t.field cell)

-- a record is marked as deleted, or its mark is taken away
abbrev pub with_deleted : Content → ℕ → Bool → Content
with_deleted content number deleted = with_table content (with_mark content.table number deleted)

-- the records that are not marked, numbered anew
abbrev pub with_kept : Content → Content
with_kept content = with_table content (packed content.table)

-- APPEND BLANK
abbrev pub append_blank : Content → Cursor → Result (Content × Cursor) Refusal
append_blank content cursor =
    granted (nat_lt (record_count content) MAX_RECORDS) TableFull (
    Ok (with_blank content, at_record cursor (record_count content + 1)))

-- REPLACE
abbrev pub replace : Content → Cursor → List ℕ → Literal → Result (Content × Cursor) Refusal
replace content cursor name value =
    passed (target content cursor name) (λ t.
    kept (stored (field_at content t.field) value) (λ cell. Ok (with_value content t cell, cursor)))

-- MEMO
abbrev pub memo : Content → Cursor → List ℕ → List ℕ → Result (Content × Cursor) Refusal
memo content cursor name text =
    passed (target content cursor name) (λ t.
    granted ((field_at content t.field).kind == MEMO) TypeMismatch (
    granted (is_memo_text text) BadText (Ok (with_value content t text, cursor))))

-- DELETE and RECALL
abbrev pub mark : Content → Cursor → Bool → Result (Content × Cursor) Refusal
mark content cursor deleted = found cursor.at EndOfFile (λ number. Ok (with_deleted content number deleted, cursor))

-- PACK
abbrev pub pack : Content → Cursor → Result (Content × Cursor) Refusal
pack content cursor = Ok (with_kept content, at_top (with_kept content) cursor)

-- INDEX ON, where it is not refused: the table has one more index, and the cursor is at the top in its order
abbrev pub with_made_index : Content → Cursor → Indexed → Content × Cursor
with_made_index content cursor index =
    (with_index content index, at_top (with_index content index) (in_order_of cursor (length content.indexes + 1)))

-- the value for which an `Edit`, which borrows, stands: what it borrows is the value's own
abbrev pub edit_value : Edit → EditValue
edit_value asked.AppendBlank = AppendBlank
edit_value (asked.Replace field value) = Replace field.now value.now
edit_value (asked.Memo field text) = Memo field.now text.now
edit_value asked.Delete = Delete
edit_value asked.Recall = Recall
edit_value asked.Pack = Pack

-- what an edit makes of the table and the cursor, or its first refusal
abbrev pub edited : Content → Cursor → EditValue → Result (Content × Cursor) Refusal
edited content cursor AppendBlank = append_blank content cursor
edited content cursor (Replace name value) = replace content cursor name value
edited content cursor (Memo name text) = memo content cursor name text
edited content cursor Delete = mark content cursor true
edited content cursor Recall = mark content cursor false
edited content cursor Pack = pack content cursor

-- only PACK gives records other numbers
abbrev pub renumbers : EditValue → Bool
renumbers Pack = true
renumbers _ = false
