-- Numbers of memos in stores that keep them.
use Rattle.std.proofs.Common.{◌≡◌, ◌≢◌, ℕ, ◌<◌, Bool, ◌||◌, true, false, cond, List, [], ◌∷◌, length, Option, Some, None, IsSome, nat_eq, refl, ap, ap₂, sym, subst, ◌∙◌, true≢false, is_some, ne_eqb, ⊎_elim, arith}
use Rattle.std.proofs.lemmas.Bool.{cases_eq}
use Rattle.std.specs.Prelude.{unwrap_or}
use Rattle.std.specs.List.{AllByRecursion, list_any}
use Rattle.std.specs.FinMap.{get, insert, retain_keys}
use Rattle.dbf_image.specs.MemoNumbers.{KeepsMemos}
use Rattle.dbf_image.specs.MemoStore.{Texts, get_text}
use Rattle.dbf_image.specs.Store.{text_of, texts_of, IsMemo}
use Rattle.dbf_image.specs.Table.{is_memo_text}
use Rattle.dbf_image.specs.Laws.MemoCallers.{other_put, each_drop, first_listed}

-- no memo
pub none_fits : (texts : Texts) → IsMemo texts 0
none_fits texts = record { held = λ h. absurd (h refl); text = refl }

-- the texts of numbers that are kept
pub texts_kept : (old new : Texts) (numbers : List ℕ) → KeepsMemos old new → AllByRecursion (IsMemo old) numbers → texts_of new numbers ≡ texts_of old numbers
texts_kept old new [] keeps h = refl
texts_kept old new (n ∷ ns) keeps h = rw ((keeps n h.0).1, texts_kept old new ns keeps h.1) refl

pub memos_kept : (old new : Texts) (numbers : List ℕ) → KeepsMemos old new → AllByRecursion (IsMemo old) numbers → AllByRecursion (IsMemo new) numbers
memos_kept old new [] keeps h = tt
memos_kept old new (n ∷ ns) keeps h = ((keeps n h.0).0, memos_kept old new ns keeps h.1)

pub kept_again : (a b c : Texts) → KeepsMemos a b → KeepsMemos b c → KeepsMemos a c
kept_again a b c first second number fits = ((second number (first number fits).0).0, (second number (first number fits).0).1 ∙ (first number fits).1)

-- a number other than 0
pub some_text : (texts : Texts) (number : ℕ) → number ≢ 0 → text_of texts number ≡ unwrap_or (get_text texts number) []
some_text texts number some = rw (ne_eqb number 0 some) refl

-- a number that has still what it had is a memo still, of the same text
pub same_text : (old new : Texts) (number : ℕ) → (number ≢ 0 → get_text new number ≡ get_text old number) → text_of new number ≡ text_of old number
same_text old new number same = ⊎_elim
    (λ none. rw none refl)
    (λ some. some_text new number some ∙ (ap (λ (o : Option (List ℕ)). unwrap_or o []) (same some) ∙ sym (some_text old number some)))
    (cases_eq number 0)

pub same_memo : (old new : Texts) (number : ℕ) → (number ≢ 0 → get_text new number ≡ get_text old number) → IsMemo old number → IsMemo new number × (text_of new number ≡ text_of old number)
same_memo old new number same m =
    let e = same_text old new number same in
    (record { held = λ some. subst (λ (o : Option (List ℕ)). IsSome o) (sym (same some)) (m.held some); text = ap is_memo_text e ∙ m.text }, e)

-- the text of a number that has one
pub text_got : (texts : Texts) (number : ℕ) (text : List ℕ) → 0 < number → get_text texts number ≡ Some text → text_of texts number ≡ text
text_got texts number text some e = some_text texts number (λ none. absurd (omega (arith, some, none))) ∙ ap (λ (o : Option (List ℕ)). unwrap_or o []) e

pub memo_got : (texts : Texts) (number : ℕ) (text : List ℕ) → 0 < number → get_text texts number ≡ Some text → is_memo_text text ≡ true → IsMemo texts number
memo_got texts number text some e may = record { held = λ ne. ap is_some e; text = ap is_memo_text (text_got texts number text some e) ∙ may }

-- after a put of a new number
pub put_keeps : (old new : Texts) (number : ℕ) (text : List ℕ) → get old number ≡ None → new ≡ insert old number text → KeepsMemos old new
put_keeps old new number text fresh e q m =
    same_memo old new q (λ some. other_put old new number q text (λ same. absurd (true≢false (sym (m.held some) ∙ ap is_some (ap (get old) same ∙ fresh)))) e) m

-- after a drop each number that is listed is a memo still, of the same text
pub drop_keeps : (old new : Texts) (numbers : List ℕ) (number : ℕ) → new ≡ retain_keys old (λ q. list_any (nat_eq q) numbers) → list_any (nat_eq number) numbers ≡ true → IsMemo old number → IsMemo new number × (text_of new number ≡ text_of old number)
drop_keeps old new numbers number e listed m =
    same_memo old new number (λ some. each_drop old new numbers number e ∙ ap (λ b. cond b (get old number) None) listed) m

or_true : (b : Bool) → b || true ≡ true
or_true true = refl
or_true false = refl

-- one that is listed behind the first
listed_behind : (q n : ℕ) (ns : List ℕ) → list_any (nat_eq q) ns ≡ true → list_any (nat_eq q) (n ∷ ns) ≡ true
listed_behind q n ns h = rw h (or_true (nat_eq q n))

-- all that were listed
pub record Dropped (old new : Texts) (numbers : List ℕ) : Type 0 where
  pub each : AllByRecursion (IsMemo new) numbers
  pub texts : texts_of new numbers ≡ texts_of old numbers

part_kept : (old new : Texts) (all numbers : List ℕ) → new ≡ retain_keys old (λ q. list_any (nat_eq q) all) → ((q : ℕ) → list_any (nat_eq q) numbers ≡ true → list_any (nat_eq q) all ≡ true) → AllByRecursion (IsMemo old) numbers → Dropped old new numbers
part_kept old new all [] e listed h = record { each = tt; texts = refl }
part_kept old new all (n ∷ ns) e listed h =
    let here = drop_keeps old new all n e (listed n (first_listed n ns)) h.0 in
    let rest = part_kept old new all ns e (λ q l. listed q (listed_behind q n ns l)) h.1 in
    record { each = (here.0, rest.each); texts = ap₂ (λ (t : List ℕ) (ts : List (List ℕ)). t ∷ ts) here.1 rest.texts }

pub dropped_keeps : (old new : Texts) (numbers : List ℕ) → new ≡ retain_keys old (λ q. list_any (nat_eq q) numbers) → AllByRecursion (IsMemo old) numbers → Dropped old new numbers
dropped_keeps old new numbers e h = part_kept old new numbers numbers e (λ q l. l) h

-- ---- texts that are not empty

pub some_number : (texts : Texts) (number : ℕ) → length (text_of texts number) ≢ 0 → number ≢ 0
some_number texts number some none = some (ap (λ (n : ℕ). length (text_of texts n)) none)

pub text_held : (texts : Texts) (number : ℕ) → number ≢ 0 → unwrap_or (get_text texts number) [] ≡ text_of texts number
text_held texts number some = rw (ne_eqb number 0 some) refl
