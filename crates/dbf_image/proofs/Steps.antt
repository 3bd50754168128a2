-- One more cell, and one more record, of those that are written from the next free block on.
use Rattle.std.proofs.lemmas.Bool.{cases_Bool, eq-eqb}
use Rattle.dbf_image.proofs.Edits.{cells_front}
use Rattle.std.proofs.Common.{◌≡◌, ℕ, suc, ◌+◌, ◌-◌, ◌*◌, ◌<◌, cond, eqb, List, [], ◌∷◌, ◌++◌, length, take, drop, get_or, refl, sym, ap, ◌∙◌, arith, inl, inr}
use Rattle.std.specs.Prelude.{flat_map}
use Rattle.std.proofs.lemmas.List.{drop_more, take-map, drop-map, take-append-drop, length-drop}
use Rattle.std.proofs.lemmas.List.Sums.{sum_by-cons}
use Rattle.dbf_fields.specs.declared.field.Field.{Field}
use Rattle.dbf_fields.specs.Field.{widths}
use Rattle.dbf_image.specs.MemoStore.{Texts}
use Rattle.dbf_image.specs.Table.{Row}
use Rattle.dbf_image.specs.DbfText.{chunks}
use Rattle.dbf_image.specs.Store.{text_of, texts_of, memo_count, first_memo, cells_with, row_with, rows_with, rows_of}
use Rattle.dbf_image.specs.Blocks.{cell_bytes, cell_blocks, cells_bytes, cells_blocks}
use Rattle.dbf_image.specs.Image.{row_bytes, rows_bytes}
use Rattle.dbf_fields.specs.declared.format.TheConstants.{MEMO}

-- ---- cells

-- the cell of the first field
abbrev pub first_cell : Field → List ℕ → Texts → List ℕ → List ℕ
first_cell f bytes texts numbers = cond (eqb f.kind MEMO) (first_memo (texts_of texts numbers)) bytes

-- where it is a memo's
pub first_is_memo : (f : Field) (bytes : List ℕ) (texts : Texts) (numbers : List ℕ) → f.kind ≡ MEMO → first_cell f bytes texts numbers ≡ first_memo (texts_of texts numbers)
first_is_memo f bytes texts numbers kind = rw (eq-eqb f.kind MEMO kind) refl

pub count_first : (f : Field) (fs : List Field) → memo_count (f ∷ fs) ≡ memo_count (f ∷ []) + memo_count fs
count_first f fs = elim (cases_Bool (eqb f.kind MEMO)) [ inl e ↦ rw e (omega arith) | inr e ↦ rw e (omega arith) ]

pub bytes_first : (f : Field) (fs : List Field) (rest : List ℕ) (texts : Texts) (numbers : List ℕ) (next : ℕ)
    → cells_bytes next (f ∷ fs) (cells_with (f ∷ fs) rest (texts_of texts numbers))
    ≡ cell_bytes next f (first_cell f (take f.width rest) texts (take (memo_count (f ∷ [])) numbers))
    ++ cells_bytes (next + cell_blocks f (first_cell f (take f.width rest) texts (take (memo_count (f ∷ [])) numbers))) fs (cells_with fs (drop f.width rest) (texts_of texts (drop (memo_count (f ∷ [])) numbers)))
bytes_first f fs rest texts [] next = elim (cases_Bool (eqb f.kind MEMO)) [ inl e ↦ rw e (rw e refl) | inr e ↦ rw e (rw e refl) ]
bytes_first f fs rest texts (n ∷ ns) next = elim (cases_Bool (eqb f.kind MEMO)) [ inl e ↦ rw e (rw e refl) | inr e ↦ rw e (rw e refl) ]

blocks_first : (f : Field) (fs : List Field) (rest : List ℕ) (texts : Texts) (numbers : List ℕ)
    → cells_blocks (f ∷ fs) (cells_with (f ∷ fs) rest (texts_of texts numbers))
    ≡ cell_blocks f (first_cell f (take f.width rest) texts (take (memo_count (f ∷ [])) numbers))
    + cells_blocks fs (cells_with fs (drop f.width rest) (texts_of texts (drop (memo_count (f ∷ [])) numbers)))
blocks_first f fs rest texts [] = elim (cases_Bool (eqb f.kind MEMO)) [ inl e ↦ rw e (rw e refl) | inr e ↦ rw e (rw e refl) ]
blocks_first f fs rest texts (n ∷ ns) = elim (cases_Bool (eqb f.kind MEMO)) [ inl e ↦ rw e (rw e refl) | inr e ↦ rw e (rw e refl) ]

-- what is left of the cells and of their blocks
abbrev pub left_bytes : ℕ → List Field → List ℕ → Texts → List ℕ → List ℕ
left_bytes next fields rest texts numbers = cells_bytes next fields (cells_with fields rest (texts_of texts numbers))

abbrev pub left_blocks : List Field → List ℕ → Texts → List ℕ → ℕ
left_blocks fields rest texts numbers = cells_blocks fields (cells_with fields rest (texts_of texts numbers))

module _ (fields : List Field) (i : ℕ) (f : Field) (lt : i < length fields) (is : f ≡ get_or fields i f) where
  pub here : drop i fields ≡ f ∷ drop (i + 1) fields
  here = drop_more fields i f lt ∙ ap (λ (g : Field). g ∷ drop (i + 1) fields) (sym is)

  pub widths-next : widths (drop i fields) ≡ f.width + widths (drop (i + 1) fields)
  widths-next = rw here (sum_by-cons (λ (g : Field). g.width) f (drop (i + 1) fields))

  pub count-next : memo_count (drop i fields) ≡ memo_count (f ∷ []) + memo_count (drop (i + 1) fields)
  count-next = rw here (count_first f (drop (i + 1) fields))

  pub bytes-next : (rest : List ℕ) (texts : Texts) (numbers : List ℕ) (next : ℕ) (cell : List ℕ) → cell ≡ first_cell f (take f.width rest) texts (take (memo_count (f ∷ [])) numbers)
      → left_bytes next (drop i fields) rest texts numbers
      ≡ cell_bytes next f cell ++ left_bytes (next + cell_blocks f cell) (drop (i + 1) fields) (drop f.width rest) texts (drop (memo_count (f ∷ [])) numbers)
  bytes-next rest texts numbers next cell c = rw (here, c) (bytes_first f (drop (i + 1) fields) rest texts numbers next)

  pub blocks-next : (rest : List ℕ) (texts : Texts) (numbers : List ℕ) (next : ℕ) (cell : List ℕ) → cell ≡ first_cell f (take f.width rest) texts (take (memo_count (f ∷ [])) numbers)
      → next + left_blocks (drop i fields) rest texts numbers
      ≡ (next + cell_blocks f cell) + left_blocks (drop (i + 1) fields) (drop f.width rest) texts (drop (memo_count (f ∷ [])) numbers)
  blocks-next rest texts numbers next cell c =
      let step = blocks_first f (drop (i + 1) fields) rest texts numbers in
      rw (here, c) (omega (arith, step))

-- ---- cells without memos are the bytes as they are

pub plain_bytes : (fields : List Field) (bytes : List ℕ) (memos : List (List ℕ)) (next : ℕ) → memo_count fields ≡ 0 → length bytes ≡ widths fields
    → cells_bytes next fields (cells_with fields bytes memos) ≡ bytes
plain_bytes [] [] memos next none long = refl
plain_bytes [] (b ∷ bs) memos next none long = absurd (omega arith)
plain_bytes (f ∷ fs) bytes memos next none long = elim (cases_Bool (eqb f.kind MEMO)) [
  | inl e ↦
      let some : suc (memo_count fs) ≡ 0 = rw e at none in
      absurd (omega (arith, some))
  | inr e ↦
      let sum : widths (f ∷ fs) ≡ f.width + widths fs = sum_by-cons (λ (g : Field). g.width) f fs in
      let there = plain_bytes fs (drop f.width bytes) memos (next + 0) (rw e at none) (omega (arith, length-drop f.width bytes, sum)) in
      rw e (rw e (rw there (take-append-drop f.width bytes)))
]

pub plain_blocks : (fields : List Field) (bytes : List ℕ) (memos : List (List ℕ)) → memo_count fields ≡ 0 → cells_blocks fields (cells_with fields bytes memos) ≡ 0
plain_blocks [] bytes memos none = refl
plain_blocks (f ∷ fs) bytes memos none = elim (cases_Bool (eqb f.kind MEMO)) [
  | inl e ↦
      let some : suc (memo_count fs) ≡ 0 = rw e at none in
      absurd (omega (arith, some))
  | inr e ↦
      let there = plain_blocks fs (drop f.width bytes) memos (rw e at none) in
      rw e (rw e (omega (arith, there)))
]

-- ---- records

-- what is left of the records
abbrev pub left_rows : ℕ → List Field → ℕ → ℕ → List ℕ → Texts → List ℕ → List ℕ
left_rows next fields size n rest texts numbers = flat_map (λ bytes. bytes) (rows_bytes next fields (rows_with fields (chunks size n rest) (texts_of texts numbers)))

-- the first of the records that are left, and the others
pub rows_more : (fields : List Field) (size n i : ℕ) (rest : List ℕ) (texts : Texts) (numbers : List ℕ) → i < n
    → rows_with fields (chunks size (n - i) rest) (texts_of texts numbers)
    ≡ row_with fields (take size rest) (texts_of texts (take (memo_count fields) numbers))
    ∷ rows_with fields (chunks size (n - (i + 1)) (drop size rest)) (texts_of texts (drop (memo_count fields) numbers))
rows_more fields size n i rest texts numbers lt =
    let k : n - i ≡ suc (n - (i + 1)) = omega arith in
    let m : ℕ = memo_count fields in
    let taken : texts_of texts (take m numbers) ≡ take m (texts_of texts numbers) = sym (take-map (text_of texts) m numbers) in
    let left : texts_of texts (drop m numbers) ≡ drop m (texts_of texts numbers) = sym (drop-map (text_of texts) m numbers) in
    rw (k, taken, left, cells_front fields (drop 1 (take size rest)) (texts_of texts numbers)) refl

pub rows-next : (fields : List Field) (size n i : ℕ) (rest : List ℕ) (texts : Texts) (numbers : List ℕ) (next : ℕ) → i < n
    → left_rows next fields size (n - i) rest texts numbers
    ≡ row_bytes next fields (row_with fields (take size rest) (texts_of texts (take (memo_count fields) numbers)))
    ++ left_rows (next + cells_blocks fields (row_with fields (take size rest) (texts_of texts (take (memo_count fields) numbers))).cells) fields size (n - (i + 1)) (drop size rest) texts (drop (memo_count fields) numbers)
rows-next fields size n i rest texts numbers next lt =
    ap (λ (rows : List Row). flat_map (λ (b : List ℕ). b) (rows_bytes next fields rows)) (rows_more fields size n i rest texts numbers lt)

pub less-next : (n i m : ℕ) → i < n → (n - i) * m ≡ m + (n - (i + 1)) * m
less-next n i m lt =
    let k : n - i ≡ (n - (i + 1)) + 1 = omega arith in
    rw k (omega arith)

-- all records, as they are kept
pub rows_same : (fields : List Field) (rows : List Row) (size count : ℕ) (bytes : List ℕ) (texts : Texts) (numbers : List ℕ) → rows ≡ rows_of fields (length rows) bytes (texts_of texts numbers)
    → size ≡ 1 + widths fields → count ≡ length rows → left_rows 1 fields size count bytes texts numbers ≡ flat_map (λ bytes. bytes) (rows_bytes 1 fields rows)
rows_same fields rows size count bytes texts numbers given wide n =
    rw (wide, n) (ap (λ (rs : List Row). flat_map (λ (b : List ℕ). b) (rows_bytes 1 fields rs)) (sym given))
