-- The tests of memos' cells and the layout say the same.
use Rattle.std.proofs.Common.{◌≡◌, ℕ, ◌*◌, ◌≤◌, true, false, eqb, leb, ltb, List, [], ◌∷◌, length, map, take, drop, Option, Some, None, refl, sym, ap, ◌∙◌, inl, inr, arith}
use Rattle.std.specs.Prelude.{is_some, unwrap_or, flat_map, slice_index}
use Rattle.std.proofs.lemmas.Bool.{eqb-true, eqb-false, ne_eqb, leb-true, le-leb, lt-ltb, ltb-true, and_parts, and_from, cases_Bool, cases_eq, eq-eqb}
use Rattle.dbf_fields.specs.declared.field.Field.{Field}
use Rattle.dbf_fields.specs.Faults.{first_fault}
use Rattle.dbf_fields.proofs.SchemaLaws.{passed, passes}
use Rattle.dbf_image.specs.declared.fault.ImageFault.TheVariants.{BadMemoNumber}
use Rattle.dbf_image.specs.Table.{Row}
use Rattle.dbf_image.specs.Memo.{memo_number, memo_at, HasText, EncodesMemo, EncodesCell, EncodesCells}
use Rattle.dbf_image.specs.DbfText.{EncodesRows}
use Rattle.dbf_image.specs.Reading.{is_block, text_tests, memo_tests, memo_text, cell_tests, cell_text, cells_tests, cells_read, row_tests, row_read}
use Rattle.dbf_fields.proofs.FaultLaws.{first_then, first_parts}
use Rattle.dbf_image.specs.declared.format.TheConstants.{BLOCK, DELETED, MAX_MEMO_BYTES}
use Rattle.dbf_fields.specs.declared.format.TheConstants.{MEMO}

-- ---- a text

pub text_ok : (dbt : List ℕ) (n : ℕ) → first_fault (text_tests dbt n) ≡ None → HasText dbt n (memo_at dbt n)
unfolding text_tests
text_ok dbt n h =
    let a = passed (is_block dbt n) _ _ h in
    let b = passed (leb (length (memo_at dbt n)) MAX_MEMO_BYTES) _ _ a.1 in
    let c = and_parts (ltb 0 n) (ltb (BLOCK * n) (length dbt)) a.0 in
    record { some = ltb-true _ _ c.0; inside = ltb-true _ _ c.1; short = leb-true _ _ b.0; text_is = refl }

pub ok_text : (dbt text : List ℕ) (n : ℕ) → HasText dbt n text → first_fault (text_tests dbt n) ≡ None
unfolding text_tests
ok_text dbt text n h =
    let a : is_block dbt n ≡ true = and_from (ltb 0 n) (ltb (BLOCK * n) (length dbt)) (lt-ltb _ _ h.some) (lt-ltb _ _ h.inside) in
    let short : length (memo_at dbt n) ≤ MAX_MEMO_BYTES = rw h.text_is h.short in
    let b = le-leb _ _ short in
    passes _ _ _ a (passes _ _ _ b refl)

-- ---- a memo's cell

pub some_is : (o : Option ℕ) → is_some o ≡ true → o ≡ Some (unwrap_or o 0)
some_is (Some k) h = refl
some_is None h = absurd cc

pub memo_ok : (dbt cell : List ℕ) → first_fault (memo_tests dbt cell) ≡ None → EncodesMemo dbt cell (memo_text dbt cell)
unfolding memo_tests memo_text
memo_ok dbt cell h =
    let n : ℕ = unwrap_or (memo_number cell) 0 in
    let p = passed (is_some (memo_number cell)) _ BadMemoNumber h in
    let is : memo_number cell ≡ Some n = some_is (memo_number cell) p.0 in
    elim (cases_eq n 0) [
      | inl none ↦ inl (is ∙ ap (λ (m : ℕ). Some m) none, rw (eq-eqb n 0 none) refl)
      | inr some ↦ inr (n, is, rw (ne_eqb n 0 some) (text_ok dbt n (rw (ne_eqb n 0 some) at p.1)))
    ]

pub ok_memo : (dbt cell text : List ℕ) → EncodesMemo dbt cell text → (first_fault (memo_tests dbt cell) ≡ None) × (memo_text dbt cell ≡ text)
unfolding memo_tests memo_text
ok_memo dbt cell text (inl h) = (rw h.0 refl, rw h.0 (sym h.1))
ok_memo dbt cell text (inr h) =
    let off : eqb h.0 0 ≡ false = ne_eqb h.0 0 (λ e. absurd (omega (arith, e, h.2.some))) in
    (rw (h.1, off) (ok_text dbt text h.0 h.2), rw (h.1, off) h.2.text_is)

-- ---- cells

cell_ok : (dbt : List ℕ) (f : Field) (cell : List ℕ) → first_fault (cell_tests dbt f cell) ≡ None → EncodesCell dbt f cell (cell_text dbt f cell)
unfolding cell_tests cell_text
cell_ok dbt f cell h = elim (cases_Bool (eqb f.kind MEMO)) [
  | inl e ↦ rw e (λ kind. memo_ok dbt cell (rw e at h), λ other. absurd (other (eqb-true f.kind MEMO e)))
  | inr e ↦ rw e (λ kind. absurd (eqb-false f.kind MEMO e kind), λ other. refl)
]

ok_cell : (dbt : List ℕ) (f : Field) (cell text : List ℕ) → EncodesCell dbt f cell text → (first_fault (cell_tests dbt f cell) ≡ None) × (cell_text dbt f cell ≡ text)
unfolding cell_tests cell_text
ok_cell dbt f cell text h = elim (cases_Bool (eqb f.kind MEMO)) [
  | inl e ↦ rw e (ok_memo dbt cell text (h.0 (eqb-true f.kind MEMO e)))
  | inr e ↦ rw e (refl, sym (h.1 (eqb-false f.kind MEMO e)))
]

pub cells_ok : (dbt : List ℕ) (fields : List Field) (bytes : List ℕ) → first_fault (cells_tests dbt fields bytes) ≡ None → EncodesCells dbt fields bytes (cells_read dbt fields bytes)
cells_ok dbt [] bytes h = tt
cells_ok dbt (f ∷ fs) bytes h =
    let p = first_parts (cell_tests dbt f (take f.width bytes)) (cells_tests dbt fs (drop f.width bytes)) h in
    (cell_ok dbt f (take f.width bytes) p.0, cells_ok dbt fs (drop f.width bytes) p.1)

pub ok_cells : (dbt : List ℕ) (fields : List Field) (bytes : List ℕ) (cells : List (List ℕ)) → EncodesCells dbt fields bytes cells → (first_fault (cells_tests dbt fields bytes) ≡ None) × (cells_read dbt fields bytes ≡ cells)
ok_cells dbt [] bytes [] h = (refl, refl)
ok_cells dbt [] bytes (c ∷ cs) h = absurd h
ok_cells dbt (f ∷ fs) bytes [] h = absurd h
ok_cells dbt (f ∷ fs) bytes (c ∷ cs) h =
    let here = ok_cell dbt f (take f.width bytes) c h.0 in
    let there = ok_cells dbt fs (drop f.width bytes) cs h.1 in
    (first_then (cell_tests dbt f (take f.width bytes)) (cells_tests dbt fs (drop f.width bytes)) here.0 ∙ there.0, rw (here.1, there.1) refl)

-- ---- records

pub rows_ok : (dbt : List ℕ) (fields : List Field) (ps : List (List ℕ)) → first_fault (flat_map (row_tests dbt fields) ps) ≡ None → EncodesRows dbt fields ps (map (row_read dbt fields) ps)
rows_ok dbt fields [] h = tt
rows_ok dbt fields (p ∷ ps) h =
    let q = first_parts (row_tests dbt fields p) (flat_map (row_tests dbt fields) ps) h in
    ((refl, cells_ok dbt fields (drop 1 p) q.0), rows_ok dbt fields ps q.1)

row_same : (dbt : List ℕ) (fields : List Field) (p : List ℕ) (r : Row) → r.deleted ≡ eqb (slice_index p 0) DELETED → cells_read dbt fields (drop 1 p) ≡ r.cells → row_read dbt fields p ≡ r
row_same dbt fields p r flag cells = rw (← flag, cells) refl

pub ok_rows : (dbt : List ℕ) (fields : List Field) (ps : List (List ℕ)) (rows : List Row) → EncodesRows dbt fields ps rows
    → (first_fault (flat_map (row_tests dbt fields) ps) ≡ None) × (map (row_read dbt fields) ps ≡ rows)
ok_rows dbt fields [] [] h = (refl, refl)
ok_rows dbt fields [] (r ∷ rs) h = absurd h
ok_rows dbt fields (p ∷ ps) [] h = absurd h
ok_rows dbt fields (p ∷ ps) (r ∷ rs) h =
    let here = ok_cells dbt fields (drop 1 p) r.cells h.0.1 in
    let there = ok_rows dbt fields ps rs h.1 in
    (first_then (row_tests dbt fields p) (flat_map (row_tests dbt fields) ps) here.0 ∙ there.0, rw (row_same dbt fields p r h.0.0 here.1, there.1) refl)
