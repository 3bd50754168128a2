-- The rows of a table's store: how many there are, and that they fit the fields.
use Rattle.std.proofs.Common.{◌≡◌, ℕ, zero, suc, ◌+◌, ◌*◌, ◌≤◌, true, eqb, List, [], ◌∷◌, length, take, drop, refl, ap, ◌∙◌, add-one, arith, inl, inr}
use Rattle.std.specs.List.{AllByRecursion}
use Rattle.std.proofs.lemmas.Bool.{eqb-true, eqb-false, cases_Bool}
use Rattle.std.proofs.lemmas.List.{take-take, drop-take, length-take, length-drop, length-take-le}
use Rattle.std.proofs.lemmas.List.Sums.{sum_by-cons}
use Rattle.dbf_fields.specs.declared.field.Field.{Field}
use Rattle.dbf_fields.specs.Field.{widths}
use Rattle.dbf_fields.specs.Schema.{IsSchema}
use Rattle.dbf_image.specs.MemoStore.{Texts}
use Rattle.dbf_image.specs.Table.{IsRow, AreCells, IsTable, is_memo_text}
use Rattle.dbf_image.specs.DbfText.{chunks}
use Rattle.dbf_image.specs.Store.{texts_of, IsMemo, first_memo, memo_count, cells_with, rows_with, rows_of, IsStore}
use Rattle.dbf_fields.specs.declared.format.TheConstants.{MEMO}

pub length-chunks : (size n : ℕ) (bytes : List ℕ) → length (chunks size n bytes) ≡ n
length-chunks size zero bytes = refl
length-chunks size (suc n) bytes = ap suc (length-chunks size n (drop size bytes))

pub length-rows : (fields : List Field) (ps memos : List (List ℕ)) → length (rows_with fields ps memos) ≡ length ps
length-rows fields [] memos = refl
length-rows fields (p ∷ ps) memos = ap suc (length-rows fields ps (drop (memo_count fields) memos))

pub length-rows_of : (fields : List Field) (n : ℕ) (bytes : List ℕ) (memos : List (List ℕ)) → length (rows_of fields n bytes memos) ≡ n
length-rows_of fields n bytes memos = length-rows fields (chunks (1 + widths fields) n bytes) memos ∙ length-chunks (1 + widths fields) n bytes

-- the bytes of the first records, and what stands after them
pub chunks_take : (size n : ℕ) (bytes : List ℕ) → chunks size n (take (n * size) bytes) ≡ chunks size n bytes
chunks_take size zero bytes = refl
chunks_take size (suc n) bytes =
    let k : suc n * size ≡ size + n * size = omega arith in
    rw (k, take-take size (size + n * size) bytes (omega arith), drop-take size (n * size) bytes, chunks_take size n (drop size bytes)) refl

-- ---- rows that fit

-- each of the texts is one that a memo may have
abbrev pub AreTexts : List (List ℕ) → Type 0
AreTexts memos = AllByRecursion (λ t. is_memo_text t ≡ true) memos

first_text : (memos : List (List ℕ)) → AreTexts memos → is_memo_text (first_memo memos) ≡ true
first_text [] h = refl
first_text (t ∷ ts) h = h.0

pub all_drop : {X : Type 0} (P : X → Type 0) (xs : List X) (n : ℕ) → AllByRecursion P xs → AllByRecursion P (drop n xs)
all_drop P xs zero h = h
all_drop P [] (suc n) h = tt
all_drop P (x ∷ xs) (suc n) h = all_drop P xs n h.1

pub all_take : {X : Type 0} (P : X → Type 0) (xs : List X) (n : ℕ) → AllByRecursion P xs → AllByRecursion P (take n xs)
all_take P xs zero h = tt
all_take P [] (suc n) h = tt
all_take P (x ∷ xs) (suc n) h = (h.0, all_take P xs n h.1)

pub cells_fit : (fields : List Field) (bytes : List ℕ) (memos : List (List ℕ)) → widths fields ≤ length bytes → AreTexts memos → AreCells fields (cells_with fields bytes memos)
cells_fit [] bytes memos room texts = tt
cells_fit (f ∷ fs) bytes memos room texts =
    let sum : widths (f ∷ fs) ≡ f.width + widths fs = sum_by-cons (λ (g : Field). g.width) f fs in
    let here : length (take f.width bytes) ≡ f.width = length-take-le f.width bytes (omega arith) in
    let left : widths fs ≤ length (drop f.width bytes) = omega (arith, length-drop f.width bytes) in
    elim (cases_Bool (eqb f.kind MEMO)) [
      | inl e ↦ rw e ((λ kind. first_text memos texts, λ other. absurd (other (eqb-true f.kind MEMO e))), cells_fit fs (drop f.width bytes) (drop 1 memos) left (all_drop _ memos 1 texts))
      | inr e ↦ rw e ((λ kind. absurd (eqb-false f.kind MEMO e kind), λ other. here), cells_fit fs (drop f.width bytes) memos left texts)
    ]

pub rows_fit : (fields : List Field) (size n : ℕ) (bytes : List ℕ) (memos : List (List ℕ)) → size ≡ 1 + widths fields → n * size ≤ length bytes → AreTexts memos
    → AllByRecursion (IsRow fields) (rows_with fields (chunks size n bytes) memos)
rows_fit fields size zero bytes memos wide room texts = tt
rows_fit fields size (suc n) bytes memos wide room texts =
    let room' : (n + 1) * size ≤ length bytes = rw add-one room in
    let left = length-drop size bytes in
    let long = length-take size bytes in
    let here = cells_fit fields (drop 1 (take size bytes)) memos (omega (arith, length-drop 1 (take size bytes))) texts in
    (here, rows_fit fields size n (drop size bytes) (drop (memo_count fields) memos) wide (omega arith) (all_drop _ memos (memo_count fields) texts))

pub store_texts : (texts : Texts) (numbers : List ℕ) → AllByRecursion (IsMemo texts) numbers → AreTexts (texts_of texts numbers)
store_texts texts [] h = tt
store_texts texts (n ∷ ns) h = (h.0.text, store_texts texts ns h.1)

-- the rows of a store are those of a table
pub store_table : (fields : List Field) (n : ℕ) (bytes : List ℕ) (texts : Texts) (numbers : List ℕ) → IsSchema fields → IsStore fields n bytes texts numbers
    → IsTable (record { schema = fields; rows = rows_of fields n bytes (texts_of texts numbers) })
store_table fields n bytes texts numbers schema store = record {
  fields = schema;
  count_bounded = rw (length-rows_of fields n bytes (texts_of texts numbers)) store.records.count_bounded;
  fit = rows_fit fields (1 + widths fields) n bytes (texts_of texts numbers) refl (omega (arith, store.records.whole)) (store_texts texts numbers store.each);
}
