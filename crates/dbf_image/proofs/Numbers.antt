-- The block numbers that are written are read.
use Rattle.std.proofs.Common.{◌≡◌, ◌≢◌, ℕ, zero, suc, ◌+◌, ◌-◌, ◌*◌, ◌/◌, ◌%◌, ◌^◌, ◌<◌, true, cond, eqb, List, [], ◌∷◌, ◌++◌, length, drop, set, Some, refl, sym, ap, ◌∙◌, append_assoc, arith, inl, inr}
use Rattle.std.specs.Prelude.{reverse}
use Rattle.std.specs.List.{list_all}
use Rattle.std.specs.Char.{is_ascii_digit}
use Rattle.std.proofs.lemmas.Bool.{ne_eqb, le-leb, cases_Bool, cases_eq, eq-eqb}
use Rattle.std.proofs.lemmas.List.{length-append, reverse-append, reverse-reverse, drop-set, nil_from_length}
use Rattle.std.proofs.lemmas.List.Folds.{list_all-append}
use Rattle.std.proofs.lemmas.List.Sums.{fold-append}
use Rattle.std.proofs.Math.Nat.{pow-suc}
use Rattle.dbf_fields.specs.Digits.{digits_after}
use Rattle.dbf_fields.specs.Number.{without_leading, trimmed}
use Rattle.dbf_image.specs.Memo.{memo_number}
use Rattle.dbf_image.specs.Blocks.{justified, block_number_cell}
use Rattle.dbf_fields.specs.declared.format.TheConstants.{BLANK, ZERO_DIGIT}

leading_digit : (bs : List ℕ) (d : ℕ) → d ≢ BLANK → without_leading (bs ++ d ∷ []) ≡ without_leading bs ++ d ∷ []
leading_digit [] d h = rw (ne_eqb d BLANK h) refl
leading_digit (b ∷ bs) d h = elim (cases_Bool (eqb b BLANK)) [ inl e ↦ rw e (leading_digit bs d h) | inr e ↦ rw e refl ]

-- one more blank after blanks
leading_blank : (bs : List ℕ) → without_leading bs ≡ [] → without_leading (bs ++ BLANK ∷ []) ≡ []
leading_blank [] h = refl
leading_blank (b ∷ bs) h = elim (cases_Bool (eqb b BLANK)) [
  | inl e ↦ rw e (leading_blank bs (rw e at h))
  | inr e ↦ absurd (let some : b ∷ bs ≡ [] = rw e at h in cc)
]

-- what is known of the digits of a number, of which none is a blank
record AreDigits (n : ℕ) (digits : List ℕ) : Type 0 where
  none : n ≡ 0 → digits ≡ []
  kept : reverse (without_leading (reverse digits)) ≡ digits
  each : list_all is_ascii_digit digits ≡ true
  value : digits_after 0 digits ≡ n

is_digit : (n : ℕ) → n < 10 → is_ascii_digit (ZERO_DIGIT + n) ≡ true
is_digit n lt = rw (le-leb ZERO_DIGIT (ZERO_DIGIT + n) (omega arith), le-leb (ZERO_DIGIT + n) 57 (omega arith)) refl

kept_last : (digits : List ℕ) (d : ℕ) → d ≢ BLANK → reverse (without_leading (reverse (digits ++ d ∷ []))) ≡ digits ++ d ∷ []
kept_last digits d h =
    let e : reverse (digits ++ d ∷ []) ≡ d ∷ reverse digits = reverse-append digits (d ∷ []) in
    let stays : without_leading (d ∷ reverse digits) ≡ d ∷ reverse digits = rw (ne_eqb d BLANK h) refl in
    ap (λ (x : List ℕ). reverse (without_leading x)) e ∙ ap reverse stays ∙ ap reverse (sym e) ∙ reverse-reverse (digits ++ d ∷ [])

-- one more digit
one_more : (n : ℕ) (digits : List ℕ) → n ≢ 0 → AreDigits (n / 10) digits → AreDigits n (digits ++ (ZERO_DIGIT + n % 10) ∷ [])
one_more n digits some h =
    let bounded : n % 10 < 10 = omega arith in
    let split : n / 10 * 10 + n % 10 ≡ n = omega arith in
    let digit : is_ascii_digit (ZERO_DIGIT + n % 10) ≡ true = is_digit (n % 10) bounded in
    record {
      none = λ e. absurd (some e);
      kept = kept_last digits (ZERO_DIGIT + n % 10) (λ e. absurd (omega (arith, e)));
      each = list_all-append is_ascii_digit digits ((ZERO_DIGIT + n % 10) ∷ []) ∙ rw (h.each, digit) refl;
      value = fold-append (λ (m b : ℕ). m * 10 + (b - ZERO_DIGIT)) 0 digits ((ZERO_DIGIT + n % 10) ∷ []) ∙ rw h.value (omega (arith, split));
    }

digits_of : (k n : ℕ) → n < 10 ^ k → AreDigits n (without_leading (justified k n))
unfolding justified
digits_of zero n lt =
    let none : n ≡ 0 = omega arith in
    record { none = λ _. refl; kept = refl; each = refl; value = sym none }
digits_of (suc k) n lt =
    let wide : 10 ^ suc k ≡ 10 ^ k * 10 = pow-suc 10 k in
    let h = digits_of k (n / 10) (omega (arith, wide)) in
    elim (cases_eq n 0) [
      | inl none ↦ rw (eq-eqb n 0 none, leading_blank (justified k (n / 10)) (h.none (omega arith))) (record { none = λ _. refl; kept = refl; each = refl; value = sym none })
      | inr some ↦ rw (ne_eqb n 0 some, leading_digit (justified k (n / 10)) (ZERO_DIGIT + n % 10) (λ d. absurd (omega (arith, d)))) (one_more n (without_leading (justified k (n / 10))) some h)
    ]

-- the number that is written is read
pub number_in : (k n : ℕ) → n < 10 ^ k → memo_number (justified k n) ≡ Some n
unfolding memo_number trimmed
number_in k n lt =
    let h = digits_of k n lt in
    rw (h.kept, h.each) (ap (λ (m : ℕ). Some m) h.value)

pub length-justified : (k n : ℕ) → length (justified k n) ≡ k
unfolding justified
length-justified zero n = refl
length-justified (suc k) n = omega (arith, length-append (justified k (n / 10)) (cond (eqb n 0) BLANK (ZERO_DIGIT + n % 10) ∷ []), length-justified k (n / 10))

-- ---- the digits that are written, from the last one on

pub digit-next : (at i n : ℕ) (cell : List ℕ) (d : ℕ) (whole : List ℕ) → i + 1 ≡ at → i < length cell → d ≡ cond (eqb n 0) BLANK (ZERO_DIGIT + n % 10)
    → justified at n ++ drop at cell ≡ whole → justified i (n / 10) ++ drop i (set cell i d) ≡ whole
unfolding justified
digit-next at i n cell d whole k lt is given =
    let e : at ≡ suc i = omega arith in
    let e' : i + 1 ≡ suc i = omega arith in
    let before : justified (suc i) n ++ drop (suc i) cell ≡ whole = rw e at given in
    let here : drop i (set cell i d) ≡ d ∷ drop (suc i) cell = rw e' at (drop-set cell i d lt) in
    rw (here, is) (sym (append_assoc (justified i (n / 10)) (cond (eqb n 0) BLANK (ZERO_DIGIT + n % 10) ∷ []) (drop (suc i) cell)) ∙ before)

pub digit-done : (at n : ℕ) (cell whole : List ℕ) → at ≡ 0 → justified at n ++ drop at cell ≡ whole → cell ≡ whole
unfolding justified
digit-done at n cell whole e given = rw e at given

-- what a text's length tells
pub number_none : (next n : ℕ) → n ≡ 0 → (text : List ℕ) → length text ≡ n → justified 10 0 ≡ block_number_cell next text
unfolding block_number_cell
number_none next n none text e = rw (nil_from_length text (e ∙ none)) refl

pub number_some : (next n : ℕ) → 0 < n → (text : List ℕ) → length text ≡ n → justified 10 next ≡ block_number_cell next text
unfolding block_number_cell
number_some next n some [] e = absurd (omega arith)
number_some next n some (t ∷ ts) e = refl
