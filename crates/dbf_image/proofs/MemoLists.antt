-- What a change of a table's store makes of its memos' numbers.
use Rattle.std.proofs.Common.{◌≡◌, ℕ, zero, suc, ◌+◌, ◌*◌, ◌<◌, List, [], ◌∷◌, ◌++◌, length, replicate, get_or, set, nat_eq, refl, ap, ◌∙◌, arith}
use Rattle.std.specs.List.{AllByRecursion, list_any}
use Rattle.std.specs.FinMap.{retain_keys}
use Rattle.std.proofs.lemmas.List.{length-append, length-set, length-replicate, map-append, map-set}
use Rattle.dbf_fields.specs.declared.field.Field.{Field}
use Rattle.dbf_fields.specs.Field.{widths}
use Rattle.dbf_image.specs.declared.format.TheConstants.{MAX_RECORDS}
use Rattle.dbf_image.specs.MemoNumbers.{KeepsMemos}
use Rattle.dbf_image.specs.MemoStore.{Texts}
use Rattle.dbf_image.specs.Store.{text_of, texts_of, IsMemo, memo_count, IsStore}
use Rattle.dbf_image.proofs.Edits.{records_push}
use Rattle.dbf_image.proofs.MemoNumbers.{none_fits, texts_kept, memos_kept, dropped_keeps}

-- ---- each of a list

pub all_append : {X : Type 0} (P : X → Type 0) (xs ys : List X) → AllByRecursion P xs → AllByRecursion P ys → AllByRecursion P (xs ++ ys)
all_append P [] ys h k = k
all_append P (x ∷ xs) ys h k = (h.0, all_append P xs ys h.1 k)

pub all_replicate : {X : Type 0} (P : X → Type 0) (n : ℕ) (x : X) → P x → AllByRecursion P (replicate n x)
all_replicate P zero x h = tt
all_replicate P (suc n) x h = (h, all_replicate P n x h)

all_set : {X : Type 0} (P : X → Type 0) (xs : List X) (i : ℕ) (y : X) → AllByRecursion P xs → P y → AllByRecursion P (set xs i y)
all_set P [] i y h k = tt
all_set P (x ∷ xs) zero y h k = (k, h.1)
all_set P (x ∷ xs) (suc i) y h k = (h.0, all_set P xs i y h.1 k)

-- ---- one memo of a list

-- outside the list there is no memo
pub text_at : (texts : Texts) (numbers : List ℕ) (i : ℕ) → get_or (texts_of texts numbers) i [] ≡ text_of texts (get_or numbers i 0)
text_at texts [] i = refl
text_at texts (n ∷ ns) zero = refl
text_at texts (n ∷ ns) (suc i) = text_at texts ns i

pub memo_fits : (texts : Texts) (numbers : List ℕ) (i : ℕ) → AllByRecursion (IsMemo texts) numbers → IsMemo texts (get_or numbers i 0)
memo_fits texts [] i h = none_fits texts
memo_fits texts (n ∷ ns) zero h = h.0
memo_fits texts (n ∷ ns) (suc i) h = memo_fits texts ns i h.1

-- one number is that of a new text
pub texts_put : (old new : Texts) (text numbers : List ℕ) (i number : ℕ) → KeepsMemos old new → AllByRecursion (IsMemo old) numbers → text_of new number ≡ text
    → texts_of new (set numbers i number) ≡ set (texts_of old numbers) i text
texts_put old new text numbers i number keeps h is =
    map-set (text_of new) numbers i number
    ∙ ap (λ (ts : List (List ℕ)). set ts i (text_of new number)) (texts_kept old new numbers keeps h)
    ∙ ap (set (texts_of old numbers) i) is

pub store_put : (fields : List Field) (n : ℕ) (bytes : List ℕ) (old new : Texts) (numbers : List ℕ) (i number : ℕ) → IsStore fields n bytes old numbers → KeepsMemos old new → IsMemo new number
    → IsStore fields n bytes new (set numbers i number)
store_put fields n bytes old new numbers i number store keeps fits = record {
  records = store.records;
  many = length-set numbers i number ∙ store.many;
  each = all_set (IsMemo new) numbers i number (memos_kept old new numbers keeps store.each) fits;
}

-- ---- one more record

-- its memos have no text yet
texts_none : (texts : Texts) (k : ℕ) → texts_of texts (replicate k 0) ≡ replicate k []
texts_none texts zero = refl
texts_none texts (suc k) = ap (λ (x : List (List ℕ)). [] ∷ x) (texts_none texts k)

pub texts_push : (texts : Texts) (numbers : List ℕ) (k : ℕ) → texts_of texts (numbers ++ replicate k 0) ≡ texts_of texts numbers ++ replicate k []
texts_push texts numbers k = map-append (text_of texts) numbers (replicate k 0) ∙ ap (λ (x : List (List ℕ)). texts_of texts numbers ++ x) (texts_none texts k)

-- a record with memos of its own
pub store_add : (fields : List Field) (n : ℕ) (bytes row : List ℕ) (texts : Texts) (numbers own : List ℕ) → IsStore fields n bytes texts numbers → length row ≡ 1 + widths fields → length own ≡ memo_count fields → AllByRecursion (IsMemo texts) own → n < MAX_RECORDS
    → IsStore fields (n + 1) (bytes ++ row) texts (numbers ++ own)
store_add fields n bytes row texts numbers own store long many each count_bounded =
    let k : ℕ = memo_count fields in
    let wide : (n + 1) * k ≡ n * k + k = omega arith in
    record {
      records = records_push fields n bytes row store.records long count_bounded;
      many = omega (arith, length-append numbers own, store.many);
      each = all_append (IsMemo texts) numbers own store.each each;
    }

pub store_push : (fields : List Field) (n : ℕ) (bytes row : List ℕ) (texts : Texts) (numbers : List ℕ) → IsStore fields n bytes texts numbers → length row ≡ 1 + widths fields → n < MAX_RECORDS
    → IsStore fields (n + 1) (bytes ++ row) texts (numbers ++ replicate (memo_count fields) 0)
store_push fields n bytes row texts numbers store long count_bounded =
    let k : ℕ = memo_count fields in
    store_add fields n bytes row texts numbers (replicate k 0) store long (length-replicate k 0) (all_replicate (IsMemo texts) k 0 (none_fits texts)) count_bounded

-- ---- the texts of all other numbers are dropped

pub store_drop : (fields : List Field) (n : ℕ) (bytes : List ℕ) (old new : Texts) (numbers : List ℕ) → new ≡ retain_keys old (λ q. list_any (nat_eq q) numbers) → IsStore fields n bytes old numbers
    → IsStore fields n bytes new numbers
store_drop fields n bytes old new numbers e store = record { records = store.records; many = store.many; each = (dropped_keeps old new numbers e store.each).each }
