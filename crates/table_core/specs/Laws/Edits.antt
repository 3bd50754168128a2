-- After an edit the cursor of the edit is one of the table then, and so is every other that the table had, but
-- for PACK. No edit changes the fields or the indexes.
use Rattle.std.proofs.Common.{◌≡◌, ℕ, ◌+◌, ◌-◌, ◌≤◌, Bool, true, false, List, [], ◌∷◌, length, Option, Some, None, Result, Ok, Err, refl, sym, subst, arith}
use Rattle.std.specs.Prelude.{IfOk, nat_lt, ◌==◌}
use Rattle.std.proofs.lemmas.List.{length-set, length-append}
use Rattle.dbf_fields.specs.declared.format.TheConstants.{MEMO}
use Rattle.dbf_fields.specs.declared.literal.Literal.{Literal}
use Rattle.dbf_fields.specs.Cell.{stored}
use Rattle.dbf_image.specs.declared.format.TheConstants.{MAX_RECORDS}
use Rattle.dbf_image.specs.Table.{is_memo_text, row_at, row_with_cell, row_marked, blank_row}
use Rattle.table_core.specs.declared.cursor.Cursor.{Cursor}
use Rattle.table_core.specs.declared.edits.planned.Target.{Target}
use Rattle.table_core.specs.declared.refusal.Refusal.{Refusal}
use Rattle.table_core.specs.declared.refusal.Refusal.TheVariants.{EndOfFile, TypeMismatch, BadText, TableFull}
use Rattle.table_core.specs.CellFaults.{kept}
use Rattle.table_core.specs.Content.{Content, Indexed, record_count}
use Rattle.table_core.specs.Cursors.{IsCursorPlace, IsCursor}
use Rattle.table_core.specs.EditValue.{EditValue, AppendBlank, Replace, Memo, Delete, Recall, Pack}
use Rattle.table_core.specs.Edits.{with_blank, with_value, with_deleted, with_kept, field_at, target, append_blank, replace, memo, mark, edited, renumbers}
use Rattle.table_core.specs.Moves.{at_record, at_top}
use Rattle.table_core.specs.Outcomes.{granted}
use Rattle.table_core.specs.Laws.Numbers.{is_place}
use Rattle.table_core.specs.Laws.Outcomes.{of_found, of_granted, of_passed, of_kept}

-- the table after an edit has the fields and the indexes that it had, and the edit's cursor
pub record IsEdited (content : Content) (end : Content × Cursor) : Type 0 where
  pub fields : end.0.table.schema ≡ content.table.schema
  pub indexes : end.0.indexes ≡ content.indexes
  pub cursor : IsCursor end.0 end.1

-- it has at least as many records too
pub record IsGrown (content : Content) (end : Content × Cursor) : Type 0 where
  pub edited_is : IsEdited content end
  pub grown : record_count content ≤ record_count end.0

abbrev pub Grows : Content → Result (Content × Cursor) Refusal → Type 0
Grows content outcome = IfOk outcome (IsGrown content)

-- a place of a table is one of a table with as many records or more
place_grows : (content grown : Content) (o : Option ℕ) → record_count content ≤ record_count grown → IsCursorPlace content o → IsCursorPlace grown o
place_grows content grown None le h = tt
place_grows content grown (Some number) le h = (h.0, omega (arith, h.1))

pub cursor_grows : (content grown : Content) (cursor : Cursor) → grown.indexes ≡ content.indexes → record_count content ≤ record_count grown → IsCursor content cursor → IsCursor grown cursor
cursor_grows content grown cursor same le h = record {
  place = place_grows content grown cursor.at le h.place;
  order = subst (λ (indexes : List Indexed). cursor.order ≤ length indexes) (sym same) h.order;
}

-- other rows, as many
as_many : (content grown : Content) (cursor : Cursor) → grown.table.schema ≡ content.table.schema → grown.indexes ≡ content.indexes → record_count grown ≡ record_count content
    → IsCursor content cursor → IsGrown content (grown, cursor)
as_many content grown cursor fields same count h = record {
  edited_is = record { fields = fields; indexes = same; cursor = cursor_grows content grown cursor same (omega (arith, count)) h };
  grown = omega (arith, count);
}

blank_grows : (content : Content) (cursor : Cursor) → IsCursor content cursor → Grows content (append_blank content cursor)
blank_grows content cursor h =
    let count : record_count (with_blank content) ≡ record_count content + 1 = length-append content.table.rows (blank_row content.table.schema ∷ []) in
    let inside : (1 ≤ record_count content + 1) × (record_count content + 1 ≤ record_count (with_blank content)) = (omega arith, omega (arith, count)) in
    of_granted (IsGrown content) (nat_lt (record_count content) MAX_RECORDS) TableFull (Ok (with_blank content, at_record cursor (record_count content + 1)))
    (λ _. record { edited_is = record { fields = refl; indexes = refl; cursor = record { place = inside; order = h.order } }; grown = omega (arith, count) })

value_grows : (content : Content) (cursor : Cursor) (t : Target) (cell : List ℕ) → IsCursor content cursor → IsGrown content (with_value content t cell, cursor)
value_grows content cursor t cell h =
    as_many content (with_value content t cell) cursor refl refl (length-set content.table.rows (t.number - 1) (row_with_cell (row_at content.table t.number) t.field cell)) h

mark_grows : (content : Content) (cursor : Cursor) (deleted : Bool) → IsCursor content cursor → Grows content (mark content cursor deleted)
mark_grows content cursor deleted h =
    of_found (IsGrown content) cursor.at EndOfFile (λ number. Ok (with_deleted content number deleted, cursor)) (λ number _.
    as_many content (with_deleted content number deleted) cursor refl refl (length-set content.table.rows (number - 1) (row_marked (row_at content.table number) deleted)) h)

replace_grows : (content : Content) (cursor : Cursor) (name : List ℕ) (value : Literal) → IsCursor content cursor → Grows content (replace content cursor name value)
replace_grows content cursor name value h =
    of_passed (IsGrown content) (target content cursor name) (λ t. kept (stored (field_at content t.field) value) (λ cell. Ok (with_value content t cell, cursor))) (λ t _.
    of_kept (IsGrown content) (stored (field_at content t.field) value) (λ cell. Ok (with_value content t cell, cursor)) (λ cell. value_grows content cursor t cell h))

memo_grows : (content : Content) (cursor : Cursor) (name text : List ℕ) → IsCursor content cursor → Grows content (memo content cursor name text)
memo_grows content cursor name text h =
    of_passed (IsGrown content) (target content cursor name) (λ t.
    granted ((field_at content t.field).kind == MEMO) TypeMismatch (granted (is_memo_text text) BadText (Ok (with_value content t text, cursor)))) (λ t _.
    of_granted (IsGrown content) ((field_at content t.field).kind == MEMO) TypeMismatch (granted (is_memo_text text) BadText (Ok (with_value content t text, cursor))) (λ _.
    of_granted (IsGrown content) (is_memo_text text) BadText (Ok (with_value content t text, cursor)) (λ _. value_grows content cursor t text h)))

pack_edits : (content : Content) (cursor : Cursor) → IsCursor content cursor → IsEdited content (with_kept content, at_top (with_kept content) cursor)
pack_edits content cursor h = record {
  fields = refl;
  indexes = refl;
  cursor = record { place = is_place (with_kept content) cursor.order 0; order = h.order };
}

of_grown : (content : Content) (outcome : Result (Content × Cursor) Refusal) → Grows content outcome → IfOk outcome (IsEdited content)
of_grown content (Ok end) h = h.edited_is
of_grown content (Err refusal) h = tt

-- an edit that doesn't renumber leaves as many records or more
pub grows_edited : (content : Content) (cursor : Cursor) (edit : EditValue) → renumbers edit ≡ false → IsCursor content cursor → Grows content (edited content cursor edit)
grows_edited content cursor AppendBlank e h = blank_grows content cursor h
grows_edited content cursor (Replace name value) e h = replace_grows content cursor name value h
grows_edited content cursor (Memo name text) e h = memo_grows content cursor name text h
grows_edited content cursor Delete e h = mark_grows content cursor true h
grows_edited content cursor Recall e h = mark_grows content cursor false h
grows_edited content cursor Pack e h = absurd (Rattle.std.proofs.lemmas.Bool.false≢true (sym e))

-- the edit's cursor is one of the table then
pub is_edited : (content : Content) (cursor : Cursor) (edit : EditValue) → IsCursor content cursor → IfOk (edited content cursor edit) (IsEdited content)
is_edited content cursor AppendBlank h = of_grown content (append_blank content cursor) (blank_grows content cursor h)
is_edited content cursor (Replace name value) h = of_grown content (replace content cursor name value) (replace_grows content cursor name value h)
is_edited content cursor (Memo name text) h = of_grown content (memo content cursor name text) (memo_grows content cursor name text h)
is_edited content cursor Delete h = of_grown content (mark content cursor true) (mark_grows content cursor true h)
is_edited content cursor Recall h = of_grown content (mark content cursor false) (mark_grows content cursor false h)
is_edited content cursor Pack h = pack_edits content cursor h

-- after an edit that doesn't renumber, each cursor that the table had is one of the table
pub keeps_cursors : (content : Content) (cursor : Cursor) (edit : EditValue) → renumbers edit ≡ false → IsCursor content cursor
    → IfOk (edited content cursor edit) (λ end. (other : Cursor) → IsCursor content other → IsCursor end.0 other)
keeps_cursors content cursor edit same h = by (edited content cursor edit) (grows_edited content cursor edit same h)
  where
    by : (outcome : Result (Content × Cursor) Refusal) → Grows content outcome → IfOk outcome (λ end. (other : Cursor) → IsCursor content other → IsCursor end.0 other)
    by (Ok end) grown = λ other. cursor_grows content end.0 other grown.edited_is.indexes grown.grown
    by (Err refusal) grown = tt
