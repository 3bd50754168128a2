-- What an edit does to the records of a table: it puts one in the place of another, or a last one, or takes out those that are marked.
use Rattle.std.proofs.Common.{◌≡◌, ◌≢◌, ℕ, zero, suc, ◌-◌, Bool, true, false, cond, not, List, [], ◌∷◌, ◌++◌, length, take, slice_set, Some, Result, Ok, Err, refl, ap, subst, ◌∙◌}
use Rattle.std.specs.Prelude.{IfOk, slice_get, ◌==◌}
use Rattle.dbf_fields.specs.declared.cell.CellFault.{CellFault}
use Rattle.dbf_fields.specs.declared.format.TheConstants.{MEMO}
use Rattle.dbf_fields.specs.declared.literal.Literal.{Literal}
use Rattle.dbf_fields.specs.Cell.{stored}
use Rattle.dbf_image.specs.Table.{Row, row_at, row_with_cell, row_marked, kept_rows, is_memo_text}
use Rattle.table_core.specs.declared.cursor.Cursor.{Cursor}
use Rattle.table_core.specs.declared.edits.planned.Target.{Target}
use Rattle.table_core.specs.declared.refusal.Refusal.{Refusal}
use Rattle.table_core.specs.declared.refusal.Refusal.TheVariants.{EndOfFile, NoSuchField, TypeMismatch, BadText, BadDate, NumberTooWide}
use Rattle.table_core.specs.CellFaults.{kept, is_of_type, is_no_bad_date, cell_of}
use Rattle.table_core.specs.Content.{Content}
use Rattle.table_core.specs.EditValue.{EditValue, AppendBlank, Replace, Memo, Delete, Recall, Pack}
use Rattle.table_core.specs.Edits.{field_named, field_at, target, with_value, with_deleted, replace, memo, mark}
use Rattle.table_core.specs.Laws.Outcomes.{of_found, of_granted, of_passed}
use Rattle.table_core.specs.Outcomes.{found, granted}

-- ---- elements of lists

pub get_set_other : {X : Type 0} (xs : List X) (i j : ℕ) (y : X) → j ≢ i → slice_get (slice_set xs i y) j ≡ slice_get xs j
get_set_other [] i j y n = refl
get_set_other (x ∷ xs) zero zero y n = absurd (n refl)
get_set_other (x ∷ xs) zero (suc j) y n = refl
get_set_other (x ∷ xs) (suc i) zero y n = refl
get_set_other (x ∷ xs) (suc i) (suc j) y n = get_set_other xs i j y (λ e. n (ap suc e))

pub get_set_same : {X : Type 0} (xs : List X) (i : ℕ) (x y : X) → slice_get xs i ≡ Some x → slice_get (slice_set xs i y) i ≡ Some y
get_set_same [] i x y e = cc
get_set_same (z ∷ xs) zero x y e = refl
get_set_same (z ∷ xs) (suc i) x y e = get_set_same xs i x y e

pub get_append : {X : Type 0} (xs ys : List X) (i : ℕ) (x : X) → slice_get xs i ≡ Some x → slice_get (xs ++ ys) i ≡ Some x
get_append [] ys i x e = cc
get_append (z ∷ xs) ys zero x e = e
get_append (z ∷ xs) ys (suc i) x e = get_append xs ys i x e

pub get_last : {X : Type 0} (xs : List X) (x : X) → slice_get (xs ++ x ∷ []) (length xs) ≡ Some x
get_last [] x = refl
get_last (z ∷ xs) x = get_last xs x

-- ---- the record that a change of one record puts in the place of the one at the cursor

-- what is put in the place of the record of a number
abbrev pub WritesRow : Content → EditValue → ℕ → Row → Type 0
WritesRow content AppendBlank number row = ⊥
WritesRow content (Replace name value) number row =
    (field : ℕ) × (cell : List ℕ) × (field_named content name ≡ Some field) × (stored (field_at content field) value ≡ Ok cell) × (row ≡ row_with_cell (row_at content.table number) field cell)
WritesRow content (Memo name text) number row = (field : ℕ) × (field_named content name ≡ Some field) × (row ≡ row_with_cell (row_at content.table number) field text)
WritesRow content Delete number row = row ≡ row_marked (row_at content.table number) true
WritesRow content Recall number row = row ≡ row_marked (row_at content.table number) false
WritesRow content Pack number row = ⊥

pub record IsRowSet (content : Content) (cursor : Cursor) (by : EditValue) (e : Content × Cursor) : Type 0 where
  pub number : ℕ
  pub at : cursor.at ≡ Some number
  pub row : Row
  pub writes : WritesRow content by number row
  pub rows : e.0.table.rows ≡ slice_set content.table.rows (number - 1) row
  pub fields : e.0.table.schema ≡ content.table.schema

record IsTargeted (content : Content) (cursor : Cursor) (name : List ℕ) (t : Target) : Type 0 where
  at : cursor.at ≡ Some t.number
  named : field_named content name ≡ Some t.field

targets : (content : Content) (cursor : Cursor) (name : List ℕ) → IfOk (target content cursor name) (IsTargeted content cursor name)
targets content cursor name =
    of_found (IsTargeted content cursor name) cursor.at EndOfFile _ (λ number at.
    of_found (IsTargeted content cursor name) (field_named content name) NoSuchField _ (λ field named. record { at = at; named = named }))

-- what is true of a value that was given where it was asked of all
given : {Y : Type 0} (P : Y → Type 0) (r : Result Y Refusal) (y : Y) → IfOk r P → r ≡ Ok y → P y
given P (Ok z) y holds e = let same : z ≡ y = cc in subst P same holds
given P (Err refusal) y holds e = cc

kept_as : {Y : Type 0} (P : Y → Type 0) (cell : Result (List ℕ) CellFault) (act : List ℕ → Result Y Refusal) → ((c : List ℕ) → cell ≡ Ok c → IfOk (act c) P) → IfOk (kept cell act) P
kept_as P (Ok c) act does = does c refl
kept_as P (Err fault) act does =
    of_granted P (is_of_type (Err fault)) TypeMismatch (granted (is_no_bad_date (Err fault)) BadDate (found (cell_of (Err fault)) NumberTooWide act)) (λ _.
    of_granted P (is_no_bad_date (Err fault)) BadDate (found (cell_of (Err fault)) NumberTooWide act) (λ _. tt))

pub replace_sets : (content : Content) (cursor : Cursor) (name : List ℕ) (value : Literal) → IfOk (replace content cursor name value) (IsRowSet content cursor (Replace name value))
replace_sets content cursor name value =
    let P : Content × Cursor → Type 0 = IsRowSet content cursor (Replace name value) in
    of_passed P (target content cursor name) (λ t. kept (stored (field_at content t.field) value) (λ cell. Ok (with_value content t cell, cursor))) (λ t is.
    let there = given (IsTargeted content cursor name) (target content cursor name) t (targets content cursor name) is in
    kept_as P (stored (field_at content t.field) value) (λ cell. Ok (with_value content t cell, cursor)) (λ cell keeps.
    record {
      number = t.number;
      at = there.at;
      row = row_with_cell (row_at content.table t.number) t.field cell;
      writes = (t.field, cell, there.named, keeps, refl);
      rows = refl;
      fields = refl;
    }))

pub memo_sets : (content : Content) (cursor : Cursor) (name text : List ℕ) → IfOk (memo content cursor name text) (IsRowSet content cursor (Memo name text))
memo_sets content cursor name text =
    let P : Content × Cursor → Type 0 = IsRowSet content cursor (Memo name text) in
    of_passed P (target content cursor name) (λ t. granted ((field_at content t.field).kind == MEMO) TypeMismatch (granted (is_memo_text text) BadText (Ok (with_value content t text, cursor)))) (λ t is.
    let there = given (IsTargeted content cursor name) (target content cursor name) t (targets content cursor name) is in
    of_granted P ((field_at content t.field).kind == MEMO) TypeMismatch (granted (is_memo_text text) BadText (Ok (with_value content t text, cursor))) (λ _.
    of_granted P (is_memo_text text) BadText (Ok (with_value content t text, cursor)) (λ _.
    record {
      number = t.number;
      at = there.at;
      row = row_with_cell (row_at content.table t.number) t.field text;
      writes = (t.field, there.named, refl);
      rows = refl;
      fields = refl;
    })))

pub delete_sets : (content : Content) (cursor : Cursor) → IfOk (mark content cursor true) (IsRowSet content cursor Delete)
delete_sets content cursor =
    of_found (IsRowSet content cursor Delete) cursor.at EndOfFile (λ number. Ok (with_deleted content number true, cursor)) (λ number at.
    record { number = number; at = at; row = row_marked (row_at content.table number) true; writes = refl; rows = refl; fields = refl })

pub recall_sets : (content : Content) (cursor : Cursor) → IfOk (mark content cursor false) (IsRowSet content cursor Recall)
recall_sets content cursor =
    of_found (IsRowSet content cursor Recall) cursor.at EndOfFile (λ number. Ok (with_deleted content number false, cursor)) (λ number at.
    record { number = number; at = at; row = row_marked (row_at content.table number) false; writes = refl; rows = refl; fields = refl })

-- ---- PACK

-- a record that is not marked is kept, after those kept before it
pub get_kept : (rows : List Row) (i : ℕ) (row : Row) → slice_get rows i ≡ Some row → row.deleted ≡ false → slice_get (kept_rows rows) (length (kept_rows (take i rows))) ≡ Some row
get_kept [] i row e stays = cc
get_kept (x ∷ xs) zero row e stays =
    let same : x ≡ row = cc in
    by x.deleted refl (ap (λ (r : Row). r.deleted) same ∙ stays) same
  where
    by : (b : Bool) → x.deleted ≡ b → x.deleted ≡ false → x ≡ row → slice_get (cond (not x.deleted) (x ∷ kept_rows xs) (kept_rows xs)) 0 ≡ Some row
    by b _ f same = let h : not x.deleted ≡ true = ap not f in rw h (ap Some same)
get_kept (x ∷ xs) (suc i) row e stays = by (not x.deleted) (get_kept xs i row e stays)
  where
    by : (b : Bool) → slice_get (kept_rows xs) (length (kept_rows (take i xs))) ≡ Some row
        → slice_get (cond b (x ∷ kept_rows xs) (kept_rows xs)) (length (cond b (x ∷ kept_rows (take i xs)) (kept_rows (take i xs)))) ≡ Some row
    by true f = f
    by false f = f
