-- Blanks around a text.
use Rattle.std.proofs.Common.{◌≡◌, ◌+◌, ◌≤◌, ◌==◌, ◌∷◌, ◌++◌, ◌∙◌, [], ℕ, List, true, false, zero, suc, refl, sym, ap, arith, inl, inr, length, take, replicate, reverse, append_assoc, length-append}
use Rattle.std.specs.Prelude.{◌&&◌}
use Rattle.std.specs.List.{list_all}
use Rattle.std.specs.Char.{is_ascii_digit}
use Rattle.std.proofs.lemmas.Bool.{cases_Bool, eqb-true, and_parts}
use Rattle.std.proofs.lemmas.List.{append-nil, reverse-append, reverse-reverse, length-replicate, take_all, take_at}
use Rattle.std.proofs.lemmas.List.Folds.{list_all-append}
use Rattle.std.proofs.lemmas.Grind.{replicate_next}
use Rattle.dbf_fields.specs.Number.{trimmed, without_leading}
use Rattle.dbf_fields.specs.Padding.{padded}
use Rattle.dbf_fields.specs.declared.format.TheConstants.{BLANK}
use Rattle.table_text.specs.Shown.{trimmed_end}

abbrev blanks : ℕ → List ℕ
blanks k = replicate k BLANK

-- ---- blanks at the front

-- a list is blanks and what is left after those at its front
fronted : (bs : List ℕ) → (k : ℕ) × (bs ≡ blanks k ++ without_leading bs)
fronted [] = (0, refl)
fronted (b ∷ bs) = elim (cases_Bool (b == BLANK)) [
  | inl blank ↦ let (k, is) = fronted bs in (suc k, rw (blank, eqb-true b BLANK blank) (ap (λ (x : List ℕ). BLANK ∷ x) is))
  | inr other ↦ (0, rw other refl)
]

no_leading_blanks : (k : ℕ) (bs : List ℕ) → without_leading (blanks k ++ bs) ≡ without_leading bs
no_leading_blanks zero bs = refl
no_leading_blanks (suc k) bs = no_leading_blanks k bs

only_blanks : (k : ℕ) → without_leading (blanks k) ≡ []
only_blanks zero = refl
only_blanks (suc k) = only_blanks k

front_full : (b : ℕ) (bs : List ℕ) → (b == BLANK) ≡ false → without_leading (b ∷ bs) ≡ b ∷ bs
front_full b bs other = rw other refl

leading_twice : (bs : List ℕ) → without_leading (without_leading bs) ≡ without_leading bs
leading_twice [] = refl
leading_twice (b ∷ bs) = elim (cases_Bool (b == BLANK)) [
  | inl blank ↦ rw blank (leading_twice bs)
  | inr other ↦ ap without_leading (front_full b bs other)
]

-- ---- blanks at the end

reverse_blanks : (k : ℕ) → reverse (blanks k) ≡ blanks k
reverse_blanks zero = refl
reverse_blanks (suc k) =
    let one : suc k ≡ k + 1 = omega arith in
    reverse-append (BLANK ∷ []) (blanks k) ∙ ap (λ (x : List ℕ). x ++ BLANK ∷ []) (reverse_blanks k) ∙ sym (replicate_next k BLANK) ∙ ap blanks (sym one)

blanks_joined : (k n width : ℕ) → k + n ≡ width → blanks width ≡ blanks k ++ blanks n
blanks_joined zero n width is = let same : width ≡ n = omega arith in ap blanks same
blanks_joined (suc k) n zero is = absurd (omega arith)
blanks_joined (suc k) n (suc width) is = ap (λ (x : List ℕ). BLANK ∷ x) (blanks_joined k n width (omega arith))

-- a list is what stands before the blanks at its end, and these
pub ended : (bs : List ℕ) → (k : ℕ) × (bs ≡ trimmed_end bs ++ blanks k)
unfolding trimmed_end
ended bs =
    let (k, is) = fronted (reverse bs) in
    let turned : reverse (reverse bs) ≡ reverse (without_leading (reverse bs)) ++ reverse (blanks k) = ap reverse is ∙ reverse-append (blanks k) (without_leading (reverse bs)) in
    (k, sym (reverse-reverse bs) ∙ turned ∙ ap (λ (x : List ℕ). reverse (without_leading (reverse bs)) ++ x) (reverse_blanks k))

-- filled up again it is the list
pub end_again : (width : ℕ) (cell : List ℕ) → length cell ≡ width → padded width (trimmed_end cell) ≡ cell
end_again width cell long =
    let text = trimmed_end cell in
    let (k, is) = ended cell in
    let lengths : length text + k ≡ width = omega (arith, length-append text (blanks k), length-replicate {A = ℕ} k BLANK, ap length is, long) in
    let more : blanks width ≡ blanks k ++ blanks (length text) = blanks_joined k (length text) width (omega arith) in
    let whole : text ++ blanks width ≡ cell ++ blanks (length text) =
    ap (λ (x : List ℕ). text ++ x) more ∙ sym (append_assoc text (blanks k) (blanks (length text))) ∙ ap (λ (x : List ℕ). x ++ blanks (length text)) (sym is) in
    ap (take width) whole ∙ take_at cell (blanks (length text)) width long

-- it is no longer than the list
pub end_short : (cell : List ℕ) → length (trimmed_end cell) ≤ length cell
end_short cell =
    let (k, is) = ended cell in omega (arith, length-append (trimmed_end cell) (blanks k), ap length is)

pub blank_end : (width : ℕ) (cell : List ℕ) → length cell ≡ width → trimmed_end cell ≡ [] → cell ≡ blanks width
blank_end width cell long none = sym (end_again width cell long) ∙ ap (padded width) none ∙ take_all width (blanks width) (omega (arith, length-replicate {A = ℕ} width BLANK))

-- ---- digits have no blanks at their end

no_blank_digit : (d : ℕ) → is_ascii_digit d ≡ true → (d == BLANK) ≡ false
no_blank_digit d digit = elim (cases_Bool (d == BLANK)) [
  | inl blank ↦ absurd (cc (rw (eqb-true d BLANK blank) at digit))
  | inr other ↦ other
]

digits_front : (ds : List ℕ) → list_all is_ascii_digit ds ≡ true → without_leading ds ≡ ds
digits_front [] all = refl
digits_front (d ∷ ds) all = rw (no_blank_digit d (and_parts _ _ all).0) refl

digits_turned : (ds : List ℕ) → list_all is_ascii_digit ds ≡ true → list_all is_ascii_digit (reverse ds) ≡ true
digits_turned [] all = refl
digits_turned (d ∷ ds) all =
    let parts = and_parts (is_ascii_digit d) (list_all is_ascii_digit ds) all in
    let both : (list_all is_ascii_digit (reverse ds) && list_all is_ascii_digit (d ∷ [])) ≡ true = rw (digits_turned ds parts.1, parts.0) refl in
    ap (list_all is_ascii_digit) (reverse-append (d ∷ []) ds) ∙ list_all-append is_ascii_digit (reverse ds) (d ∷ []) ∙ both

pub digits_end : (ds : List ℕ) → list_all is_ascii_digit ds ≡ true → trimmed_end ds ≡ ds
unfolding trimmed_end
digits_end ds all = ap reverse (digits_front (reverse ds) (digits_turned ds all)) ∙ reverse-reverse ds

-- ---- blanks at both ends

turned_end : (bs : List ℕ) → trimmed bs ≡ trimmed_end (without_leading bs)
unfolding trimmed trimmed_end
turned_end bs = refl

pub end_twice : (bs : List ℕ) → trimmed_end (trimmed_end bs) ≡ trimmed_end bs
unfolding trimmed_end
end_twice bs =
    let inner = without_leading (reverse bs) in
    ap (λ (x : List ℕ). reverse (without_leading x)) (reverse-reverse inner) ∙ ap reverse (leading_twice (reverse bs))

-- what has no blanks at its front has none there when those at its end are taken away
front_kept : (bs text : List ℕ) (k : ℕ) → without_leading bs ≡ bs → bs ≡ text ++ blanks k → without_leading text ≡ text
front_kept bs [] k none is = refl
front_kept bs (t ∷ ts) k none is = elim (cases_Bool (t == BLANK)) [
  | inl blank ↦
      let (n, shown) = fronted (ts ++ blanks k) in
      let whole : without_leading (t ∷ (ts ++ blanks k)) ≡ t ∷ (ts ++ blanks k) = ap without_leading (sym is) ∙ none ∙ is in
      let less : without_leading (ts ++ blanks k) ≡ t ∷ (ts ++ blanks k) = rw blank at whole in
      let lengths = ap length shown in
      absurd (omega (arith, ap length less, lengths, length-append (blanks n) (without_leading (ts ++ blanks k))))
  | inr other ↦ rw other refl
]

-- digits have none
pub digits_trimmed : (ds : List ℕ) → list_all is_ascii_digit ds ≡ true → trimmed ds ≡ ds
digits_trimmed ds all = turned_end ds ∙ ap trimmed_end (digits_front ds all) ∙ digits_end ds all

pub trimmed_twice : (bs : List ℕ) → trimmed (trimmed bs) ≡ trimmed bs
trimmed_twice bs =
    let inner = without_leading bs in
    let (k, is) = ended inner in
    let front : without_leading (trimmed_end inner) ≡ trimmed_end inner = front_kept inner (trimmed_end inner) k (leading_twice bs) is in
    turned_end (trimmed bs) ∙ ap (λ (x : List ℕ). trimmed_end (without_leading x)) (turned_end bs) ∙ ap trimmed_end front ∙ end_twice inner ∙ sym (turned_end bs)

pub trimmed_short : (bs : List ℕ) → length (trimmed bs) ≤ length bs
trimmed_short bs =
    let (k, is) = fronted bs in
    omega (arith, end_short (without_leading bs), ap length (turned_end bs), ap length is, length-append (blanks k) (without_leading bs))

pub blank_trimmed : (width : ℕ) (cell : List ℕ) → length cell ≡ width → trimmed cell ≡ [] → cell ≡ blanks width
blank_trimmed width cell long none =
    let inner = without_leading cell in
    let (k, is) = ended inner in
    let gone : trimmed_end inner ≡ [] = sym (turned_end cell) ∙ none in
    let all : inner ≡ blanks k = is ∙ ap (λ (x : List ℕ). x ++ blanks k) gone in
    let empty : inner ≡ [] = sym (leading_twice cell) ∙ ap without_leading all ∙ only_blanks k in
    let (n, front) = fronted cell in
    let whole : cell ≡ blanks n = front ∙ ap (λ (x : List ℕ). blanks n ++ x) empty ∙ append-nil (blanks n) in
    let count : n ≡ width = omega (arith, ap length whole, length-replicate {A = ℕ} n BLANK, long) in
    whole ∙ ap blanks count
