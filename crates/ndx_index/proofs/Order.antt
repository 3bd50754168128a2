-- Pairs in order.
use Rattle.std.proofs.Common.{◌≡◌, ℕ, zero, suc, ◌<◌, ◌≤◌, Bool, true, false, not, cond, List, [], ◌∷◌, length, get_or, Contains, refl, ap, sym, ◌∙◌, subst, inl, inr, ◌⊎◌, arith}
use Rattle.std.specs.declared.cmp.Ordering.{Ordering}
use Rattle.std.specs.declared.cmp.Ordering.TheVariants.{Less, Equal, Greater}
use Rattle.std.specs.Cmp.{tied_then}
use Rattle.std.specs.Cmp.Lexicographic.{slice_cmp, pointwise, texts_ties}
use Rattle.std.specs.Prelude.{nat_eq, ◌&&◌}
use Rattle.std.specs.Ordering.{nat_cmp, ordering_then, is_lt, is_eq}
use Rattle.std.specs.List.{insert, remove, filter, AllByRecursion, IsDistinct}
use Rattle.std.specs.List.Sorted.{IsStrictlySortedBy, IsPartitionedBy}
use Rattle.std.proofs.lemmas.Bool.{cases_eq, cases_lt, false≢true, not-true}
use Rattle.std.proofs.lemmas.Bool.Decides.{nat_tests}
use Rattle.std.proofs.lemmas.Cmp.{nat_list_cmp_total}
use Rattle.std.proofs.lemmas.Map.Keys.{Less-from_sorted}
use Rattle.ndx_index.specs.declared.pair.Pair.{Pair}
use Rattle.ndx_index.specs.Order.{pair_cmp, before, same, with_pair, in_order, without_pair, AreInOrder}
use Rattle.ndx_index.specs.Laws.Lists.{filter_but, all_weaker}
use Rattle.ndx_index.specs.Laws.Comparing.{Less-from_is_lt, before_is, before_trans, irreflexive, same_itself, before_other, not_same}
use Rattle.ndx_index.specs.Laws.Sorting.{all-with_pair, contains_more}

-- a test that holds of each pair before one of which it holds
pub parted_by : (u : Pair → Bool) → ((a b : Pair) → pair_cmp a b ≡ Less → u b ≡ true → u a ≡ true) → (ps : List Pair) → AreInOrder ps → IsPartitionedBy u ps
parted_by u down ps sorted i j d le lt h = elim (cases_eq i j) [
  | inl e ↦ subst (λ k. u (get_or ps k d) ≡ true) (sym e) h
  | inr ne ↦ down (get_or ps i d) (get_or ps j d) (Less-from_sorted pair_cmp ps i j d sorted (omega arith) lt) h
]

pub parted-before : (p : Pair) (ps : List Pair) → AreInOrder ps → IsPartitionedBy (λ q. before q p) ps
parted-before p = parted_by (λ q. before q p) (λ a b h k. ap is_lt (before_trans a b p h (before_is b p k)))

-- a pair goes where it belongs
pub with_pair_at : (p : Pair) (ps : List Pair) (i : ℕ) → ((k : ℕ) (d : Pair) → k < i → before (get_or ps k d) p ≡ true) → ((d : Pair) → i < length ps → before (get_or ps i d) p ≡ false) → i ≤ length ps → insert ps i p ≡ with_pair p ps
with_pair_at p [] zero low here le = refl
with_pair_at p [] (suc i) low here le = absurd (omega arith)
with_pair_at p (q ∷ qs) zero low here le = rw (here q (omega arith))
with_pair_at p (q ∷ qs) (suc i) low here le = rw (low 0 q (omega arith)) (ap (λ ys. q ∷ ys) (with_pair_at p qs i (λ k d h. low (suc k) d (omega arith)) (λ d h. here d (omega arith)) (omega arith)))

pub all-in_order : (P : Pair → Type 0) (ps : List Pair) → AllByRecursion P ps → AllByRecursion P (in_order ps)
all-in_order P [] all = tt
all-in_order P (p ∷ ps) all = all-with_pair P p (in_order ps) all.0 (all-in_order P ps all.1)

pub all-filter : (P : Pair → Type 0) (t : Pair → Bool) (ps : List Pair) → AllByRecursion P ps → AllByRecursion P (filter t ps)
all-filter P t [] all = tt
all-filter P t (p ∷ ps) all = elim (t p) as (λ b. AllByRecursion P (cond b (p ∷ filter t ps) (filter t ps))) [
  | true ↦ (all.0, all-filter P t ps all.1)
  | false ↦ all-filter P t ps all.1
]

-- a new pair keeps the order
pub sorted_with_pair : (p : Pair) (ps : List Pair) → AreInOrder ps → (Contains ps p → ⊥) → AreInOrder (with_pair p ps)
unfolding IsStrictlySortedBy
sorted_with_pair p [] sorted absent = (tt, tt)
sorted_with_pair p (q ∷ qs) sorted absent = elim (before q p) as (λ b. before q p ≡ b → AreInOrder (cond b (q ∷ with_pair p qs) (p ∷ q ∷ qs))) [
  | true ↦ λ e. (all-with_pair (λ r. pair_cmp q r ≡ Less) p qs (before_is q p e) sorted.0, sorted_with_pair p qs sorted.1 (λ h. absent (contains_more q qs p h)))
  | false ↦ λ e. let h : pair_cmp p q ≡ Less = before_other q p e (λ is. absent (zero, omega arith, is)) in
      ((h, all_weaker (λ r. pair_cmp q r ≡ Less) (λ r. pair_cmp p r ≡ Less) (λ r k. before_trans p q r h k) qs sorted.0), sorted)
] refl

pub sorted_none : AreInOrder []
unfolding IsStrictlySortedBy
sorted_none = tt

-- the pair at index i taken out
pub without_at : (p : Pair) (ps : List Pair) (i : ℕ) → AreInOrder ps → i < length ps → ((d : Pair) → get_or ps i d ≡ p) → without_pair p ps ≡ remove ps i
without_at p ps i sorted lt here = filter_but (λ q. not (same p q)) ps i lt
    (λ d. rw here (ap not (same_itself p)))
    (λ k d klt ne. not_same p (get_or ps k d) (λ e. elim (cases_lt k i) [
      | inl less ↦ irreflexive p (subst (λ q. pair_cmp q p ≡ Less) e (subst (λ q. pair_cmp (get_or ps k d) q ≡ Less) (here d) (Less-from_sorted pair_cmp ps k i d sorted less lt)))
      | inr more ↦ irreflexive p (subst (λ q. pair_cmp p q ≡ Less) e (subst (λ q. pair_cmp q (get_or ps k d) ≡ Less) (here d) (Less-from_sorted pair_cmp ps i k d sorted (omega arith) klt)))
    ]))

-- a pair that isn't where it belongs isn't there
pub absent_at : (p : Pair) (ps : List Pair) (i : ℕ) → AreInOrder ps → ((k : ℕ) (d : Pair) → k < i → before (get_or ps k d) p ≡ true) → ((k : ℕ) (d : Pair) → i ≤ k → k < length ps → before (get_or ps k d) p ≡ false) → (i < length ps → get_or ps i p ≡ p → ⊥) → Contains ps p → ⊥
absent_at p ps i sorted low high ne h = elim (cases_lt h.0 i) [
  | inl less ↦ irreflexive p (subst (λ q. pair_cmp q p ≡ Less) h.2 (before_is (get_or ps h.0 p) p (low h.0 p less)))
  | inr more ↦ elim (cases_eq h.0 i) [
    | inl at ↦ ne (omega (arith, h.1)) (subst (λ k. get_or ps k p ≡ p) at h.2)
    | inr past ↦
        let lt : i < h.0 = omega arith in
        let first : before (get_or ps i p) p ≡ false = high i p (omega arith) (omega (arith, h.1)) in
        false≢true (sym first ∙ ap is_lt (subst (λ q. pair_cmp (get_or ps i p) q ≡ Less) h.2 (Less-from_sorted pair_cmp ps i h.0 p sorted lt h.1)))
  ]
]

pub parted-after : (p : Pair) (ps : List Pair) → AreInOrder ps → IsPartitionedBy (λ q. not (before p q)) ps
parted-after p = parted_by (λ q. not (before p q)) (λ a b h k. elim (before p a) as (λ t. before p a ≡ t → not t ≡ true) [
  | true ↦ λ e. absurd (false≢true (sym (not-true _ k) ∙ ap is_lt (before_trans p a b (before_is p a e) h)))
  | false ↦ λ e. refl
] refl)

-- of two pairs in order the keys don't fall
keys_then : (o r : Ordering) → ordering_then o r ≡ Less → (o ≡ Less) ⊎ (o ≡ Equal)
keys_then Less r h = inl refl
keys_then Equal r h = inr refl
keys_then Greater r h = absurd (Greater≢Less h)
  where
    Greater≢Less : Greater ≡ Less → ⊥
    Greater≢Less e = cc

pub parted-key : (prefix : List ℕ) (ps : List Pair) → AreInOrder ps → IsPartitionedBy (λ q. is_lt (slice_cmp nat_cmp q.key prefix)) ps
parted-key prefix = parted_by (λ q. is_lt (slice_cmp nat_cmp q.key prefix)) (λ a b h k.
    let below : slice_cmp nat_cmp b.key prefix ≡ Less = Less-from_is_lt _ k in
    ap is_lt (elim (keys_then (slice_cmp nat_cmp a.key b.key) (nat_cmp a.number b.number) h) [
      | inl less ↦ nat_list_cmp_total.trans a.key b.key prefix less below
      | inr tie ↦ nat_list_cmp_total.congr a.key b.key prefix tie ∙ below
    ]))

is_eq-nat_cmp : (m n : ℕ) → nat_eq m n ≡ is_eq (nat_cmp m n)
is_eq-nat_cmp m n = grind (arith, nat_tests)

-- what `==` on pairs computes
pub same_by_parts : (a b : Pair) → (pointwise nat_eq a.key b.key && nat_eq a.number b.number) ≡ same a b
same_by_parts a b =
    ap (λ t. t && nat_eq a.number b.number) (texts_ties a.key b.key)
    ∙ ap (λ t. is_eq (slice_cmp nat_cmp a.key b.key) && t) (is_eq-nat_cmp a.number b.number)
    ∙ tied_then (slice_cmp nat_cmp a.key b.key) (nat_cmp a.number b.number)

pub three_apart : (a b c : Pair) → same a b ≡ false → same a c ≡ false → same b c ≡ false → IsDistinct same (a ∷ b ∷ c ∷ [])
unfolding IsDistinct
three_apart a b c ab ac bc = ((ab, (ac, tt)), ((bc, tt), (tt, tt)))
