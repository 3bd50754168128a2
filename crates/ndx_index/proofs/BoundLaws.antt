-- A search's test, once passed, is passed by all later pairs; and which pairs pass the tests of the three bounds.
use Rattle.std.proofs.Common.{◌≡◌, ℕ, zero, suc, ◌+◌, Bool, true, false, not, List, refl, ap, sym, ◌∙◌, inl, inr, arith}
use Rattle.std.proofs.Math.Path.{fun_ext}
use Rattle.std.proofs.lemmas.Bool.{cases_eq, cases_lt}
use Rattle.std.proofs.lemmas.Cmp.{nat_list_cmp_total}
use Rattle.std.specs.declared.cmp.Ordering.{Ordering}
use Rattle.std.specs.declared.cmp.Ordering.TheVariants.{Less, Equal, Greater}
use Rattle.std.specs.Cmp.{nat_cmp_is}
use Rattle.std.specs.Cmp.Lexicographic.{slice_cmp}
use Rattle.std.specs.Ordering.{nat_cmp, is_lt, ordering_reverse, ordering_then}
use Rattle.std.specs.List.Sorted.{IsPartitionedBy}
use Rattle.std.proofs.lemmas.Bool.{false≢true, not-true}
use Rattle.ndx_index.specs.declared.pair.Pair.{Pair}
use Rattle.ndx_index.specs.declared.pages.bound.Bound.{Bound}
use Rattle.ndx_index.specs.Bounds.{passes}
use Rattle.ndx_index.specs.Order.{pair_cmp, before, reaches, AreInOrder}
use Rattle.ndx_index.specs.Laws.Comparing.{before_is, before_trans}
use Rattle.ndx_index.proofs.Order.{parted_by}

not_both : (t u : Bool) → (u ≡ true → t ≡ true) → not t ≡ true → not u ≡ true
not_both t true back k = absurd (false≢true (sym (not-true t k) ∙ back refl))
not_both t false back k = refl

-- where the bound's pair would stand
abbrev start : Bound → Pair
start b = record { key = b.key.now; number = b.number }

pub passes_after : (b : Bound) (p q : Pair) → pair_cmp p q ≡ Less → passes b p ≡ true → passes b q ≡ true
passes_after b p q h k = not_both (before p (start b)) (before q (start b)) (λ e. ap is_lt (before_trans p q (start b) h (before_is q (start b) e))) k

fails_before : (b : Bound) (p q : Pair) → pair_cmp p q ≡ Less → not (passes b q) ≡ true → not (passes b p) ≡ true
fails_before b p q h k = not_both (passes b q) (passes b p) (passes_after b p q h) k

-- the pairs that fail a search's test stand before those that pass it
pub passes_up : (b : Bound) (ps : List Pair) → AreInOrder ps → IsPartitionedBy (λ q. not (passes b q)) ps
passes_up b = parted_by (λ q. not (passes b q)) (fails_before b)

-- ---- the three bounds
one_more : (m n : ℕ) → not (is_lt (nat_cmp n (m + 1))) ≡ is_lt (nat_cmp m n)
one_more m n = elim (cases_lt m n) [
  | inl lt ↦
      let less : nat_cmp m n ≡ Less = sym (nat_cmp_is m n Less lt) in
      elim (cases_eq n (m + 1)) [
        | inl e ↦ ap (λ o. not (is_lt o)) (sym (nat_cmp_is n (m + 1) Equal e)) ∙ ap is_lt (sym less)
        | inr ne ↦ ap (λ o. not (is_lt o)) (sym (nat_cmp_is n (m + 1) Greater (omega (arith, lt, ne)))) ∙ ap is_lt (sym less)
      ]
  | inr le ↦
      let below : nat_cmp n (m + 1) ≡ Less = sym (nat_cmp_is n (m + 1) Less (omega (arith, le))) in
      elim (cases_eq m n) [
        | inl e ↦ ap (λ o. not (is_lt o)) below ∙ ap is_lt (nat_cmp_is m n Equal e)
        | inr ne ↦ ap (λ o. not (is_lt o)) below ∙ ap is_lt (nat_cmp_is m n Greater (omega (arith, le, ne)))
      ]
]

not_below_zero : (n : ℕ) → not (is_lt (nat_cmp n 0)) ≡ true
not_below_zero zero = ap (λ o. not (is_lt o)) (sym (nat_cmp_is 0 0 Equal refl))
not_below_zero (suc n) = ap (λ o. not (is_lt o)) (sym (nat_cmp_is (suc n) 0 Greater (omega arith)))

by_keys : (o r : Ordering) (m n : ℕ) → r ≡ ordering_reverse o → not (is_lt (ordering_then o (nat_cmp n (m + 1)))) ≡ is_lt (ordering_then r (nat_cmp m n))
by_keys Less r m n e = ap (λ x. is_lt (ordering_then x (nat_cmp m n))) (sym e)
by_keys Equal r m n e = one_more m n ∙ ap (λ x. is_lt (ordering_then x (nat_cmp m n))) (sym e)
by_keys Greater r m n e = ap (λ x. is_lt (ordering_then x (nat_cmp m n))) (sym e)

by_key_alone : (o : Ordering) (n : ℕ) → not (is_lt (ordering_then o (nat_cmp n 0))) ≡ not (is_lt o)
by_key_alone Less n = refl
by_key_alone Equal n = not_below_zero n
by_key_alone Greater n = refl

-- the pairs from a pair's key and the next number on are those above it
pub from_next : (p : Pair) → (λ q. not (before q (record { key = p.key; number = p.number + 1 }))) ≡ before p
from_next p = fun_ext λ q. by_keys (slice_cmp nat_cmp q.key p.key) (slice_cmp nat_cmp p.key q.key) p.number q.number (nat_list_cmp_total.antisymm p.key q.key)

-- the pairs from a prefix and 0 on are those whose keys reach it
pub from_zero : (prefix : List ℕ) → (λ q. not (before q (record { key = prefix; number = 0 }))) ≡ reaches prefix
from_zero prefix = fun_ext λ q. by_key_alone (slice_cmp nat_cmp q.key prefix) q.number

twice : (b : Bool) → not (not b) ≡ b
twice true = refl
twice false = refl

-- the pairs that fail the test of those not below a pair are those below it
pub failing_least : (b : Bound) (p : Pair) → passes b ≡ (λ q. not (before q p)) → ◌≡◌ {A = Pair → Bool} (λ q. not (passes b q)) (λ q. before q p)
failing_least b p e = fun_ext λ q. ap (λ test. not (test q)) e ∙ twice (before q p)
