-- The pair after a pair, and the one before: those of the places beside its own.
use Rattle.std.proofs.Common.{◌≡◌, ℕ, ◌+◌, ◌-◌, ◌<◌, ◌≤◌, Bool, true, false, List, length, get_or, reverse, Some, None, refl, ap, sym, inl, inr, ◌∙◌, arith}
use Rattle.std.specs.List.{slice_get}
use Rattle.std.specs.Ordering.{is_lt}
use Rattle.std.specs.Prelude.{nat_le}
use Rattle.std.specs.declared.cmp.Ordering.TheVariants.{Less}
use Rattle.std.proofs.lemmas.Map.Keys.{Less-from_sorted}
use Rattle.std.proofs.lemmas.Bool.{cases_eq, cases_lt}
use Rattle.std.proofs.lemmas.Bool.Decides.{nat_tests}
use Rattle.std.proofs.lemmas.Option.{slice_get-get_or, slice_get_within, slice_get_past}
use Rattle.std.proofs.lemmas.List.{length-reverse, get_or_default}
use Rattle.ndx_index.specs.declared.pair.Pair.{Pair}
use Rattle.ndx_index.specs.Order.{pair_cmp, before, next_of, previous_of, AreInOrder}
use Rattle.ndx_index.specs.Places.{back_from}
use Rattle.ndx_index.specs.Laws.Lists.{find_at, find_back, slice_get_back}
use Rattle.ndx_index.specs.Laws.Comparing.{irreflexive, before_trans, before_is}

not_earlier : (p q : Pair) → pair_cmp q p ≡ Less → before p q ≡ false
not_earlier p q h = step (before p q) refl
  where
    step : (b : Bool) → before p q ≡ b → b ≡ false
    step true e = absurd (irreflexive p (before_trans p q p (before_is p q e) h))
    step false e = refl

not_itself : (p : Pair) → before p p ≡ false
not_itself p = step (before p p) refl
  where
    step : (b : Bool) → before p p ≡ b → b ≡ false
    step true e = absurd (irreflexive p (before_is p p e))
    step false e = refl

-- a place's pair, whatever stands for none
at_place : (ps : List Pair) (i : ℕ) (p d : Pair) → i < length ps → get_or ps i p ≡ p → get_or ps i d ≡ p
at_place ps i p d inside at = get_or_default ps i d p inside ∙ at

module _ (ps : List Pair) (i : ℕ) (p : Pair) (sorted : AreInOrder ps) (inside : i < length ps) (at : get_or ps i p ≡ p) where
  later : (k : ℕ) (d : Pair) → i < k → k < length ps → before p (get_or ps k d) ≡ true
  later k d lt within = ap (λ (q : Pair). before q (get_or ps k d)) (sym (at_place ps i p d inside at)) ∙ ap is_lt (Less-from_sorted pair_cmp ps i k d sorted lt within)

  not_later : (k : ℕ) (d : Pair) → k < i + 1 → before p (get_or ps k d) ≡ false
  not_later k d lt = elim (cases_eq k i) [
    | inl e ↦ ap (before p) (ap (λ (n : ℕ). get_or ps n d) e ∙ at_place ps i p d inside at) ∙ not_itself p
    | inr ne ↦ not_earlier p (get_or ps k d) (ap (pair_cmp (get_or ps k d)) (sym (at_place ps i p d inside at)) ∙ Less-from_sorted pair_cmp ps k i d sorted (omega arith) inside)
  ]

  not_before : (k : ℕ) (d : Pair) → i ≤ k → k < length ps → before (get_or ps k d) p ≡ false
  not_before k d le lt = elim (cases_eq i k) [
    | inl e ↦ ap (λ (q : Pair). before q p) (ap (λ (n : ℕ). get_or ps n d) (sym e) ∙ at_place ps i p d inside at) ∙ not_itself p
    | inr ne ↦ not_earlier (get_or ps k d) p (ap (λ (q : Pair). pair_cmp q (get_or ps k d)) (sym (at_place ps i p d inside at)) ∙ Less-from_sorted pair_cmp ps i k d sorted (omega arith) lt)
  ]

  next_at : next_of p ps ≡ slice_get ps (i + 1)
  next_at = find_at (before p) ps (i + 1) (λ k d lt. not_later k d lt) (λ d lt. later (i + 1) d (omega arith) lt)

  previous_at : 0 < i → previous_of p ps ≡ Some (get_or ps (i - 1) p)
  previous_at pos =
      find_back (λ q. before q p) ps i (omega arith) not_before
      (λ d h. ap (before (get_or ps (i - 1) d)) (sym (at_place ps i p d inside at)) ∙ ap is_lt (Less-from_sorted pair_cmp ps (i - 1) i d sorted (omega arith) inside))
      ∙ slice_get_back ps i p pos (omega arith)

  previous_none : i ≡ 0 → previous_of p ps ≡ None
  previous_none first =
      find_back (λ q. before q p) ps i (omega arith) not_before (λ d h. absurd (omega arith))
      ∙ slice_get_past (reverse ps) (length ps - i) (omega (arith, length-reverse ps))

at_slice : (ps : List Pair) (i : ℕ) (p : Pair) → Some p ≡ slice_get ps i → get_or ps i p ≡ p
at_slice ps i p e =
    let inside : i < length ps = slice_get_within ps i p (sym e) in
    let is = slice_get-get_or ps i p inside in
    cc

-- the next pair stands at the place after
pub step_after : (ps : List Pair) (i : ℕ) (p : Pair) → AreInOrder ps → Some p ≡ slice_get ps i → next_of p ps ≡ slice_get ps (i + 1)
step_after ps i p sorted e = next_at ps i p sorted (slice_get_within ps i p (sym e)) (at_slice ps i p e)

back_is : (ps : List Pair) (i k : ℕ) → k ≤ i → back_from ps i k ≡ slice_get ps (i - k)
back_is ps i k le =
    let test : nat_le k i ≡ true = grind (arith, nat_tests) in
    rw test refl

back_none : (ps : List Pair) (i k : ℕ) → i < k → back_from ps i k ≡ None
back_none ps i k lt =
    let test : nat_le k i ≡ false = grind (arith, nat_tests) in
    rw test refl

-- the previous pair stands at the place before
pub step_before : (ps : List Pair) (i k : ℕ) (p : Pair) → AreInOrder ps → i < length ps → Some p ≡ back_from ps i k → previous_of p ps ≡ back_from ps i (k + 1)
step_before ps i k p sorted inside e = elim (cases_lt i k) [
  | inl lt ↦ let n = back_none ps i k lt in cc
  | inr le ↦ let at : get_or ps (i - k) p ≡ p = at_slice ps (i - k) p (e ∙ back_is ps i k le) in
      elim (cases_lt k i) [
        | inl lt ↦
            let m : i - k - 1 ≡ i - (k + 1) = omega arith in
            previous_at ps (i - k) p sorted (omega arith) at (omega arith) ∙ ap (λ (n : ℕ). Some (get_or ps n p)) m
            ∙ sym (back_is ps i (k + 1) (omega arith) ∙ slice_get-get_or ps (i - (k + 1)) p (omega arith))
        | inr ge ↦
            previous_none ps (i - k) p sorted (omega arith) at (omega arith) ∙ sym (back_none ps i (k + 1) (omega arith))
      ]
]
