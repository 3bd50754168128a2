-- Where records, cells and memos stand.
use Rattle.std.proofs.Common.{◌≡◌, ◌≢◌, ℕ, zero, suc, ◌+◌, ◌-◌, ◌*◌, ◌<◌, ◌≤◌, eqb, List, [], ◌∷◌, length, take, drop, get_or, refl, ap, ◌∙◌, arith, inl, inr}
use Rattle.std.proofs.lemmas.Bool.{eq-eqb, ne_eqb, cases_Bool}
use Rattle.std.proofs.lemmas.List.{drop-drop, drop-take, take-take, get_or-take, get_or-drop}
use Rattle.std.proofs.lemmas.List.Sums.{sum_by-cons}
use Rattle.dbf_fields.specs.declared.field.Field.{Field}
use Rattle.dbf_fields.specs.Field.{widths}
use Rattle.dbf_fields.specs.Layout.{width_of}
use Rattle.dbf_image.specs.Table.{Row, kind_at}
use Rattle.dbf_image.specs.DbfText.{chunks, AreRecords}
use Rattle.dbf_image.specs.Store.{memo_count, cells_with, row_with, rows_with, rows_of}
use Rattle.dbf_image.proofs.Rows.{length-chunks}
use Rattle.dbf_image.specs.declared.format.TheConstants.{DELETED}
use Rattle.dbf_fields.specs.declared.format.TheConstants.{MEMO}

-- a part of a part is a part of the whole
pub part_of_part : (w k size : ℕ) (xs : List ℕ) → k + w ≤ size → take w (drop k (take size xs)) ≡ take w (drop k xs)
part_of_part w k size xs le =
    let e : size ≡ k + (size - k) = omega arith in
    ap (λ (n : ℕ). take w (drop k (take n xs))) e ∙ ap (take w) (drop-take k (size - k) xs) ∙ take-take w (size - k) (drop k xs) (omega arith)

-- a chunk inside the first `count` chunks
pub chunk-inside : (size count i now : ℕ) → i < count → now ≡ count * size → i * size + size ≤ now
chunk-inside size count i now lt is =
    let k : count ≡ (i + 1) + (count - (i + 1)) = omega arith in
    let wide : now ≡ ((i + 1) + (count - (i + 1))) * size = is ∙ ap (λ (n : ℕ). n * size) k in
    omega (arith, wide)

pub chunk_here : (size n i : ℕ) (bytes d : List ℕ) → i < n → get_or (chunks size n bytes) i d ≡ take size (drop (i * size) bytes)
chunk_here size zero i bytes d lt = absurd (omega arith)
chunk_here size (suc n) zero bytes d lt =
    let k : 0 * size ≡ 0 = omega arith in
    rw k refl
chunk_here size (suc n) (suc i) bytes d lt =
    let k : suc i * size ≡ size + i * size = omega arith in
    rw (k, ← drop-drop (i * size) size bytes) (chunk_here size n i (drop size bytes) d (omega arith))

row_by : (fields : List Field) (ps memos : List (List ℕ)) (i : ℕ) (d : Row) (e : List ℕ) → i < length ps
    → get_or (rows_with fields ps memos) i d ≡ row_with fields (get_or ps i e) (drop (i * memo_count fields) memos)
row_by fields [] memos i d e lt = absurd (omega arith)
row_by fields (p ∷ ps) memos zero d e lt =
    let k : 0 * memo_count fields ≡ 0 = omega arith in
    rw k refl
row_by fields (p ∷ ps) memos (suc i) d e lt =
    let n : ℕ = memo_count fields in
    let k : suc i * n ≡ n + i * n = omega arith in
    rw (k, ← drop-drop (i * n) n memos) (row_by fields ps (drop n memos) i d e (omega arith))

-- the row of an index
pub row_here : (fields : List Field) (n i : ℕ) (bytes : List ℕ) (memos : List (List ℕ)) (d : Row) → i < n
    → get_or (rows_of fields n bytes memos) i d ≡ row_with fields (take (1 + widths fields) (drop (i * (1 + widths fields)) bytes)) (drop (i * memo_count fields) memos)
row_here fields n i bytes memos d lt =
    let size : ℕ = 1 + widths fields in
    let nothing : List ℕ = [] in
    let long = length-chunks size n bytes in
    row_by fields (chunks size n bytes) memos i d nothing (omega arith)
    ∙ ap (λ (p : List ℕ). row_with fields p (drop (i * memo_count fields) memos)) (chunk_here size n i bytes nothing lt)

-- ---- cells

pub cell_here : (fields : List Field) (j : ℕ) (bytes d : List ℕ) (memos : List (List ℕ)) → j < length fields → kind_at fields j ≢ MEMO
    → get_or (cells_with fields bytes memos) j d ≡ take (width_of fields j) (drop (widths (take j fields)) bytes)
cell_here [] j bytes d memos lt other = absurd (omega arith)
cell_here (f ∷ fs) zero bytes d memos lt other = rw (ne_eqb f.kind MEMO other) refl
cell_here (f ∷ fs) (suc j) bytes d memos lt other =
    let sum : widths (f ∷ take j fs) ≡ f.width + widths (take j fs) = sum_by-cons (λ (g : Field). g.width) f (take j fs) in
    rw (sum, ← drop-drop (widths (take j fs)) f.width bytes)
    (elim (cases_Bool (eqb f.kind MEMO)) [
      | inl e ↦ rw e (cell_here fs j (drop f.width bytes) d (drop 1 memos) (omega arith) other)
      | inr e ↦ rw e (cell_here fs j (drop f.width bytes) d memos (omega arith) other)
    ])

pub memo_here : (fields : List Field) (j : ℕ) (bytes d : List ℕ) (memos : List (List ℕ)) → j < length fields → kind_at fields j ≡ MEMO
    → get_or (cells_with fields bytes memos) j d ≡ get_or memos (memo_count (take j fields)) []
memo_here [] j bytes d memos lt kind = absurd (omega arith)
memo_here (f ∷ fs) zero bytes d [] lt kind = rw (eq-eqb f.kind MEMO kind) refl
memo_here (f ∷ fs) zero bytes d (t ∷ ts) lt kind = rw (eq-eqb f.kind MEMO kind) refl
memo_here (f ∷ fs) (suc j) bytes d memos lt kind =
    let next : 1 + memo_count (take j fs) ≡ suc (memo_count (take j fs)) = omega arith in
    elim (cases_Bool (eqb f.kind MEMO)) [
      | inl e ↦ rw e (memo_here fs j (drop f.width bytes) d (drop 1 memos) (omega arith) kind ∙ get_or-drop 1 memos (memo_count (take j fs)) [] ∙ ap (λ (n : ℕ). get_or memos n []) next)
      | inr e ↦ rw e (memo_here fs j (drop f.width bytes) d memos (omega arith) kind)
    ]

pub cell_within : (fields : List Field) (j : ℕ) → j < length fields → widths (take j fields) + width_of fields j ≤ widths fields
cell_within [] j lt = absurd (omega arith)
cell_within (f ∷ fs) zero lt =
    let sum : widths (f ∷ fs) ≡ f.width + widths fs = sum_by-cons (λ (g : Field). g.width) f fs in
    omega arith
cell_within (f ∷ fs) (suc j) lt =
    let front : widths (f ∷ take j fs) ≡ f.width + widths (take j fs) = sum_by-cons (λ (g : Field). g.width) f (take j fs) in
    let whole : widths (f ∷ fs) ≡ f.width + widths fs = sum_by-cons (λ (g : Field). g.width) f fs in
    omega (arith, cell_within fs j (omega arith))

pub memo_within : (fields : List Field) (j : ℕ) → j < length fields → kind_at fields j ≡ MEMO → memo_count (take j fields) < memo_count fields
memo_within [] j lt kind = absurd (omega arith)
memo_within (f ∷ fs) zero lt kind = rw (eq-eqb f.kind MEMO kind) (omega arith)
memo_within (f ∷ fs) (suc j) lt kind =
    let there = memo_within fs j (omega arith) kind in
    elim (cases_Bool (eqb f.kind MEMO)) [ inl e ↦ rw e (omega (arith, there)) | inr e ↦ rw e there ]

pub memo_count_le : (fields : List Field) → memo_count fields ≤ length fields
memo_count_le [] = omega arith
memo_count_le (f ∷ fs) =
    let there = memo_count_le fs in
    elim (cases_Bool (eqb f.kind MEMO)) [ inl e ↦ rw e (omega (arith, there)) | inr e ↦ rw e (omega (arith, there)) ]

-- the cell of a record and a field that is no memo
pub cell_read : (fields : List Field) (n i j : ℕ) (bytes : List ℕ) (memos : List (List ℕ)) (d : Row) → i < n → j < length fields → kind_at fields j ≢ MEMO
    → get_or (get_or (rows_of fields n bytes memos) i d).cells j [] ≡ take (width_of fields j) (drop (i * (1 + widths fields) + (1 + widths (take j fields))) bytes)
cell_read fields n i j bytes memos d lt inside other =
    let size : ℕ = 1 + widths fields in
    let from : ℕ = widths (take j fields) in
    let chunk : List ℕ = take size (drop (i * size) bytes) in
    let room = cell_within fields j inside in
    ap (λ (r : Row). get_or r.cells j []) (row_here fields n i bytes memos d lt)
    ∙ cell_here fields j (drop 1 chunk) [] (drop (i * memo_count fields) memos) inside other
    ∙ ap (take (width_of fields j)) (drop-drop from 1 chunk)
    ∙ part_of_part (width_of fields j) (1 + from) size (drop (i * size) bytes) (omega arith)
    ∙ ap (take (width_of fields j)) (drop-drop (1 + from) (i * size) bytes)

-- the memo of a record and a field
pub memo_read : (fields : List Field) (n i j : ℕ) (bytes : List ℕ) (memos : List (List ℕ)) (d : Row) → i < n → j < length fields → kind_at fields j ≡ MEMO
    → get_or (get_or (rows_of fields n bytes memos) i d).cells j [] ≡ get_or memos (i * memo_count fields + memo_count (take j fields)) []
memo_read fields n i j bytes memos d lt inside kind =
    let chunk : List ℕ = take (1 + widths fields) (drop (i * (1 + widths fields)) bytes) in
    ap (λ (r : Row). get_or r.cells j []) (row_here fields n i bytes memos d lt)
    ∙ memo_here fields j (drop 1 chunk) [] (drop (i * memo_count fields) memos) inside kind
    ∙ get_or-drop (i * memo_count fields) memos (memo_count (take j fields)) []

-- a record's mark
pub flag_read : (fields : List Field) (n i : ℕ) (bytes : List ℕ) (memos : List (List ℕ)) (d : Row) → i < n
    → (get_or (rows_of fields n bytes memos) i d).deleted ≡ eqb (get_or bytes (i * (1 + widths fields)) 0) DELETED
flag_read fields n i bytes memos d lt =
    let size : ℕ = 1 + widths fields in
    let k : i * size + 0 ≡ i * size = omega arith in
    ap (λ (r : Row). r.deleted) (row_here fields n i bytes memos d lt)
    ∙ ap (λ (b : ℕ). eqb b DELETED) (get_or-take size (drop (i * size) bytes) 0 0 (omega arith) ∙ get_or-drop (i * size) bytes 0 0 ∙ ap (λ (m : ℕ). get_or bytes m 0) k)

-- a cell's bytes stand inside the records, and a memo among the memos
pub cell-inside : (fields : List Field) (n i j start : ℕ) (bytes : List ℕ) → AreRecords fields n bytes → i < n → j < length fields
    → start ≡ i * (1 + widths fields) + (1 + widths (take j fields)) → start + width_of fields j ≤ length bytes
cell-inside fields n i j start bytes records lt inside is =
    omega (arith, chunk-inside (1 + widths fields) n i (length bytes) lt records.whole, cell_within fields j inside)

pub memo-inside : (fields : List Field) (n i j index many : ℕ) → many ≡ n * memo_count fields → i < n → j < length fields → kind_at fields j ≡ MEMO
    → index ≡ i * memo_count fields + memo_count (take j fields) → index < many
memo-inside fields n i j index many is lt inside kind at =
    omega (arith, chunk-inside (memo_count fields) n i many lt is, memo_within fields j inside kind)
