-- Where the keys that begin with a text stand: from the first key on that isn't below the text.
use Rattle.std.proofs.Common.{◌≡◌, ℕ, Bool, true, false, not, cond, List, [], ◌∷◌, length, take, Some, None, refl, ap, sym, ◌∙◌, arith, inl, inr, ◌&&◌}
use Rattle.std.specs.List.{starts_with, AllByRecursion}
use Rattle.std.specs.List.Sorted.{IsStrictlySortedBy}
use Rattle.std.specs.Prelude.{nat_eq}
use Rattle.std.specs.Cmp.{nat_cmp_is}
use Rattle.std.specs.Ordering.{nat_cmp, ordering_then, is_lt}
use Rattle.std.specs.Cmp.Lexicographic.{slice_cmp, pointwise}
use Rattle.std.specs.declared.cmp.Ordering.{Ordering}
use Rattle.std.specs.declared.cmp.Ordering.TheVariants.{Less, Equal, Greater}
use Rattle.std.proofs.lemmas.Bool.{false≢true, not-true, and_parts, eqb-true, eq-eqb, cases_lt, cases_eq}
use Rattle.std.proofs.lemmas.Cmp.{nat_cmp_total, tied_itself}
use Rattle.ndx_index.specs.declared.pair.Pair.{Pair}
use Rattle.ndx_index.specs.Order.{pair_cmp, reaches, begins_with, if_begins_with, first_from, first_with, AreInOrder}

-- a key that begins with the text isn't below it
not_below : (text k : List ℕ) → starts_with nat_eq k text ≡ true → is_lt (slice_cmp nat_cmp k text) ≡ false
not_below [] [] h = refl
not_below [] (b ∷ k) h = refl
not_below (c ∷ text) [] h = absurd (false≢true h)
not_below (c ∷ text) (b ∷ k) h =
    let both = and_parts (nat_eq c b) (pointwise nat_eq text (take (length text) k)) h in
    let same : c ≡ b = eqb-true c b both.0 in
    ap (λ (n : ℕ). is_lt (ordering_then (nat_cmp b n) (slice_cmp nat_cmp k text))) same
    ∙ ap (λ (o : Ordering). is_lt (ordering_then o (slice_cmp nat_cmp k text))) (tied_itself nat_cmp_total b)
    ∙ not_below text k both.1

-- two bytes of which neither is less are one
same_byte : (b c : ℕ) (o r : Ordering) → is_lt (ordering_then (nat_cmp b c) o) ≡ false → (ordering_then (nat_cmp b c) r ≡ Greater → ⊥) → b ≡ c
same_byte b c o r low high = elim (cases_eq b c) [
  | inl e ↦ e
  | inr ne ↦ elim (cases_lt b c) [
    | inl lt ↦ absurd (false≢true (sym low ∙ ap (λ (x : Ordering). is_lt (ordering_then x o)) (sym (nat_cmp_is b c Less lt))))
    | inr ge ↦ absurd (high (ap (λ (x : Ordering). ordering_then x r) (sym (nat_cmp_is b c Greater (omega arith)))))
  ]
]

-- what stands between the text and a key that begins with it begins with it
begins_between : (text k m : List ℕ) → is_lt (slice_cmp nat_cmp k text) ≡ false → (slice_cmp nat_cmp k m ≡ Greater → ⊥) → starts_with nat_eq m text ≡ true → starts_with nat_eq k text ≡ true
begins_between [] [] m low high h = refl
begins_between [] (b ∷ k) m low high h = refl
begins_between (c ∷ text) [] m low high h = absurd (false≢true (sym low))
begins_between (c ∷ text) (b ∷ k) [] low high h = absurd (false≢true h)
begins_between (c ∷ text) (b ∷ k) (d ∷ m) low high h =
    let both = and_parts (nat_eq c d) (pointwise nat_eq text (take (length text) m)) h in
    let same : c ≡ d = eqb-true c d both.0 in
    let head : b ≡ c = same_byte b c (slice_cmp nat_cmp k text) (slice_cmp nat_cmp k m) low (λ g. high (ap (λ (n : ℕ). ordering_then (nat_cmp b n) (slice_cmp nat_cmp k m)) (sym same) ∙ g)) in
    let tie : nat_cmp b c ≡ Equal = ap (nat_cmp b) (sym head) ∙ tied_itself nat_cmp_total b in
    let tie_d : nat_cmp b d ≡ Equal = ap (nat_cmp b) (sym same) ∙ tie in
    ap (λ (t : Bool). t && pointwise nat_eq text (take (length text) k)) (eq-eqb c b (sym head))
    ∙ begins_between text k m (sym (ap (λ (o : Ordering). is_lt (ordering_then o (slice_cmp nat_cmp k text))) tie) ∙ low)
    (λ g. high (ap (λ (o : Ordering). ordering_then o (slice_cmp nat_cmp k m)) tie_d ∙ g)) both.1

keys_rise : (o r : Ordering) → ordering_then o r ≡ Less → o ≡ Greater → ⊥
keys_rise o r less greater = Greater≢Less (sym (ap (λ (x : Ordering). ordering_then x r) greater) ∙ less)
  where
    Greater≢Less : Greater ≡ Less → ⊥
    Greater≢Less e = cc

-- where the first key that isn't below the text doesn't begin with it, no later one does
none_begins : (text : List ℕ) (p : Pair) (ps : List Pair) → reaches text p ≡ true → begins_with text p ≡ false → AllByRecursion (λ q. pair_cmp p q ≡ Less) ps → first_with text ps ≡ None
none_begins text p [] there other later = refl
none_begins text p (q ∷ qs) there other later = rw (step (begins_with text q) refl) (none_begins text p qs there other later.1)
  where
    step : (b : Bool) → begins_with text q ≡ b → b ≡ false
    step false e = refl
    step true e = sym (begins_between text p.key q.key (not-true _ there) (keys_rise (slice_cmp nat_cmp p.key q.key) (nat_cmp p.number q.number) later.0) e) ∙ other

first_step : (text : List ℕ) (p : Pair) (ps : List Pair) (r b : Bool) → reaches text p ≡ r → begins_with text p ≡ b → AllByRecursion (λ q. pair_cmp p q ≡ Less) ps
    → first_with text ps ≡ if_begins_with text (first_from text ps) → cond b (Some p) (first_with text ps) ≡ if_begins_with text (cond r (Some p) (first_from text ps))
first_step text p ps true true there it later ih = rw it refl
first_step text p ps true false there it later ih = rw it (none_begins text p ps there it later)
first_step text p ps false true there it later ih = absurd (false≢true (sym there ∙ ap not (not_below text p.key it)))
first_step text p ps false false there it later ih = ih

-- in order, the first pair whose key begins with a text is the first whose key isn't below the text, if its key begins with the text
pub first_with-first_from : (text : List ℕ) (ps : List Pair) → AreInOrder ps → first_with text ps ≡ if_begins_with text (first_from text ps)
unfolding IsStrictlySortedBy
first_with-first_from text [] sorted = refl
first_with-first_from text (p ∷ ps) sorted = first_step text p ps (reaches text p) (begins_with text p) refl refl sorted.0 (first_with-first_from text ps sorted.1)
