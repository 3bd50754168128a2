-- Pairs that were given, as a file's: when they stand in order, and when they are all that stand there.
use Rattle.std.proofs.Common.{◌≡◌, ℕ, zero, suc, ◌<◌, ◌≤◌, List, [], ◌∷◌, length, get_or, Contains, refl, ap, sym, subst, inl, inr, ◌∙◌, arith}
use Rattle.std.specs.Prelude.{◌⊎◌}
use Rattle.std.specs.declared.cmp.Ordering.TheVariants.{Less}
use Rattle.std.specs.List.{AllByRecursion}
use Rattle.std.specs.List.Sorted.{IsStrictlySortedBy}
use Rattle.ndx_index.specs.declared.pair.Pair.{Pair}
use Rattle.ndx_index.specs.Order.{pair_cmp, with_pair, in_order, AreInOrder}
use Rattle.ndx_index.specs.Laws.Comparing.{before_trans, irreflexive}
use Rattle.ndx_index.specs.Laws.Lists.{all_weaker}
use Rattle.ndx_index.specs.Laws.Sorting.{not_after}

-- each pair before the next is each before all later ones
pub from_neighbours : (ps : List Pair) → ((k : ℕ) (d : Pair) → suc k < length ps → pair_cmp (get_or ps k d) (get_or ps (suc k) d) ≡ Less) → AreInOrder ps
unfolding IsStrictlySortedBy
from_neighbours [] h = tt
from_neighbours (p ∷ []) h = (tt, tt)
from_neighbours (p ∷ q ∷ qs) h =
    let first : pair_cmp p q ≡ Less = h 0 q (omega arith) in
    let rest = from_neighbours (q ∷ qs) (λ k d lt. h (suc k) d (omega arith)) in
    ((first, all_weaker (λ x. pair_cmp q x ≡ Less) (λ x. pair_cmp p x ≡ Less) (λ x l. before_trans p q x first l) qs rest.0), rest)

-- and the other way round
pub neighbours : (ps : List Pair) → AreInOrder ps → (k : ℕ) (d : Pair) → suc k < length ps → pair_cmp (get_or ps k d) (get_or ps (suc k) d) ≡ Less
unfolding IsStrictlySortedBy
neighbours [] a k d lt = absurd (omega arith)
neighbours (p ∷ []) a k d lt = absurd (omega arith)
neighbours (p ∷ q ∷ qs) a zero d lt = a.0.0
neighbours (p ∷ q ∷ qs) a (suc k) d lt = neighbours (q ∷ qs) a.1 k d (omega arith)

with_pair_first : (p : Pair) (ps : List Pair) → AllByRecursion (λ q. pair_cmp p q ≡ Less) ps → with_pair p ps ≡ p ∷ ps
with_pair_first p [] all = refl
with_pair_first p (q ∷ qs) all = rw (not_after p q all.0) refl

-- pairs that stand in order stay as they are
pub in_order_already : (ps : List Pair) → AreInOrder ps → in_order ps ≡ ps
unfolding IsStrictlySortedBy
in_order_already [] a = refl
in_order_already (p ∷ ps) a = ap (with_pair p) (in_order_already ps a.1) ∙ with_pair_first p ps a.0

-- ---- pairs in order among which no other stands are all of them

later_there : (q : Pair) (qs : List Pair) (x : Pair) → pair_cmp q x ≡ Less → (k : ℕ) → k < length (q ∷ qs) → get_or (q ∷ qs) k x ≡ x → Contains qs x
later_there q qs x l zero lt e = absurd (irreflexive x (subst (λ z. pair_cmp z x ≡ Less) e l))
later_there q qs x l (suc k) lt e = (k, omega arith, e)

later_all : (q : Pair) (qs xs : List Pair) → AllByRecursion (λ x. pair_cmp q x ≡ Less) xs → AllByRecursion (Contains (q ∷ qs)) xs → AllByRecursion (Contains qs) xs
later_all q qs [] l all = tt
later_all q qs (x ∷ xs) l all = (later_there q qs x l.0 all.0.0 all.0.1 all.0.2, later_all q qs xs l.1 all.1)

at_least : (q p : Pair) (qs : List Pair) (k : ℕ) → k < length qs → get_or qs k p ≡ p → AllByRecursion (λ x. pair_cmp q x ≡ Less) qs → pair_cmp q p ≡ Less
at_least q p [] k lt e all = absurd (omega arith)
at_least q p (x ∷ qs) zero lt e all = subst (λ z. pair_cmp q z ≡ Less) e all.0
at_least q p (x ∷ qs) (suc k) lt e all = at_least q p qs k (omega arith) e all.1

-- the first of the pairs is the first of the others, or all of them stand after that one
first_or_later : (p q : Pair) (ps qs : List Pair) → AreInOrder (p ∷ ps) → AreInOrder (q ∷ qs) → AllByRecursion (Contains (q ∷ qs)) (p ∷ ps)
    → ((q ≡ p) × AllByRecursion (Contains qs) ps) ⊎ AllByRecursion (Contains qs) (p ∷ ps)
unfolding IsStrictlySortedBy
first_or_later p q ps qs a b all = by all.0.0 all.0.1 all.0.2
  where
    by : (k : ℕ) → k < length (q ∷ qs) → get_or (q ∷ qs) k p ≡ p → ((q ≡ p) × AllByRecursion (Contains qs) ps) ⊎ AllByRecursion (Contains qs) (p ∷ ps)
    by zero lt e = inl (e, later_all q qs ps (subst (λ z. AllByRecursion (λ x. pair_cmp z x ≡ Less) ps) (sym e) a.0) all.1)
    by (suc k) lt e =
        let below : pair_cmp q p ≡ Less = at_least q p qs k (omega arith) e b.0 in
        inr (later_all q qs (p ∷ ps) (below, all_weaker (λ x. pair_cmp p x ≡ Less) (λ x. pair_cmp q x ≡ Less) (λ x l. before_trans q p x below l) ps a.0) all)

no_more : (ps qs : List Pair) → AreInOrder ps → AreInOrder qs → AllByRecursion (Contains qs) ps → length ps ≤ length qs
unfolding IsStrictlySortedBy
no_more [] qs a b all = omega arith
no_more (p ∷ ps) [] a b all = absurd (omega (arith, all.0.1))
no_more (p ∷ ps) (q ∷ qs) a b all = elim (first_or_later p q ps qs a b all) [
  | inl h ↦ omega (arith, no_more ps qs a.1 b.1 h.1)
  | inr h ↦ omega (arith, no_more (p ∷ ps) qs a b.1 h)
]

pub all_there : (ps qs : List Pair) → AreInOrder ps → AreInOrder qs → AllByRecursion (Contains qs) ps → length qs ≤ length ps → ps ≡ qs
unfolding IsStrictlySortedBy
all_there [] [] a b all le = refl
all_there [] (q ∷ qs) a b all le = absurd (omega arith)
all_there (p ∷ ps) [] a b all le = absurd (omega (arith, all.0.1))
all_there (p ∷ ps) (q ∷ qs) a b all le = elim (first_or_later p q ps qs a b all) [
  | inl h ↦ let rest : ps ≡ qs = all_there ps qs a.1 b.1 h.1 (omega arith) in let first = h.0 in cc
  | inr h ↦ absurd (omega (arith, no_more (p ∷ ps) qs a b.1 h))
]

-- ---- what holds of each pair that is there

pub all_contained : (P : Pair → Type 0) (ps : List Pair) → ((p : Pair) → Contains ps p → P p) → AllByRecursion P ps
all_contained P [] h = tt
all_contained P (p ∷ ps) h = (h p (0, omega arith, refl), all_contained P ps (λ q c. h q (suc c.0, omega (arith, c.1), c.2)))
