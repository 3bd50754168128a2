-- `in_order` gives the sorted permutation, and there is one.
use Rattle.std.proofs.Common.{◌≡◌, ℕ, zero, suc, ◌+◌, ◌<◌, ◌≤◌, Bool, true, false, not, cond, List, [], ◌∷◌, length, get_or, Contains, refl, ap, sym, ◌∙◌, subst, add-one, arith}
use Rattle.std.specs.declared.cmp.Ordering.{Ordering}
use Rattle.std.specs.declared.cmp.Ordering.TheVariants.{Less, Equal, Greater}
use Rattle.std.specs.Ordering.{is_lt, ordering_reverse}
use Rattle.std.specs.List.{AllByRecursion, filter, sum_by, IsDistinct}
use Rattle.std.specs.List.Sorted.{IsStrictlySortedBy, IsPermutation, IsSorted}
use Rattle.std.proofs.lemmas.Bool.{false≢true, not-true}
use Rattle.std.proofs.lemmas.List.{get_or_default}
use Rattle.std.proofs.lemmas.List.Sums.{sum_by-cons}
use Rattle.std.proofs.lemmas.Map.Keys.{IsDistinct-IsPermutation}
use Rattle.std.proofs.lemmas.Cmp.{eq_by_cmp_equiv}
use Rattle.std.proofs.lemmas.List.Sorted.{sum_by-IsPermutation, IsPermutation-refl, IsPermutation-cons, IsPermutation-trans, IsPermutation-insert, sorted_far, ranks_by}
use Rattle.ndx_index.specs.declared.pair.Pair.{Pair}
use Rattle.ndx_index.specs.Order.{pair_cmp, before, same, with_pair, in_order, without_pair, AreInOrder}
use Rattle.ndx_index.specs.Laws.Lists.{filter_all, all_weaker, all_zip}
use Rattle.ndx_index.specs.Laws.Comparing.{pairs_total, exact_pair, before_is, before_trans, irreflexive, same_itself, before_other, not_same}

-- what holds of a pair and of pairs holds of them with it put among them
pub all-with_pair : (P : Pair → Type 0) (p : Pair) (ps : List Pair) → P p → AllByRecursion P ps → AllByRecursion P (with_pair p ps)
all-with_pair P p [] h all = (h, tt)
all-with_pair P p (q ∷ qs) h all = elim (before q p) as (λ b. AllByRecursion P (cond b (q ∷ with_pair p qs) (p ∷ q ∷ qs))) [
  | true ↦ (all.0, all-with_pair P p qs h all.1)
  | false ↦ (h, all)
]

pub contains_more : (q : Pair) (qs : List Pair) (p : Pair) → Contains qs p → Contains (q ∷ qs) p
contains_more q qs p h = (suc h.0, omega (arith, h.1), h.2)

-- a pair that isn't there
pub without_absent : (p : Pair) (ps : List Pair) → (Contains ps p → ⊥) → without_pair p ps ≡ ps
without_absent p ps absent = filter_all (λ q. not (same p q)) ps (λ k d lt. not_same p (get_or ps k d) (λ e. absent (k, lt, get_or_default ps k p d lt ∙ e)))

-- a pair put in and taken out
pub without_pair-with_pair : (p : Pair) (ps : List Pair) → (Contains ps p → ⊥) → without_pair p (with_pair p ps) ≡ ps
without_pair-with_pair p [] absent = rw (same_itself p) refl
without_pair-with_pair p (q ∷ qs) absent =
    let other : not (same p q) ≡ true = not_same p q (λ e. absent (0, omega arith, e)) in
    elim (before q p) as (λ b. without_pair p (cond b (q ∷ with_pair p qs) (p ∷ q ∷ qs)) ≡ q ∷ qs) [
      | true ↦ rw other (ap (λ xs. q ∷ xs) (without_pair-with_pair p qs (λ h. absent (contains_more q qs p h))))
      | false ↦ rw (same_itself p) (without_absent p (q ∷ qs) absent)
    ]

-- what stands in a filtered list passes
kept_step : (f : Pair → Bool) (q : Pair) (rest : List Pair) (d : Pair) (b : Bool) → f q ≡ b → ((k : ℕ) → k < length rest → f (get_or rest k d) ≡ true)
    → (k : ℕ) → k < length (cond b (q ∷ rest) rest) → f (get_or (cond b (q ∷ rest) rest) k d) ≡ true
kept_step f q rest d true e ih zero h = e
kept_step f q rest d true e ih (suc k) h = ih k (omega arith)
kept_step f q rest d false e ih k h = ih k h

kept_pass : (f : Pair → Bool) (ps : List Pair) (d : Pair) (k : ℕ) → k < length (filter f ps) → f (get_or (filter f ps) k d) ≡ true
kept_pass f [] d k h = absurd (omega arith)
kept_pass f (q ∷ qs) d k h = kept_step f q (filter f qs) d (f q) refl (λ j lt. kept_pass f qs d j lt) k h

-- a pair that was taken out is absent
pub absent_without : (p : Pair) (ps : List Pair) → Contains (without_pair p ps) p → ⊥
absent_without p ps h =
    let pass : not (same p (get_or (without_pair p ps) h.0 p)) ≡ true = kept_pass (λ q. not (same p q)) ps p h.0 h.1 in
    false≢true (sym (not-true _ (subst (λ q. not (same p q) ≡ true) h.2 pass)) ∙ same_itself p)

-- no later pair stands before the first
abbrev pub Ascends : List Pair → Type 0
Ascends [] = Unit {0}
Ascends (p ∷ ps) = AllByRecursion (λ q. before q p ≡ false) ps × Ascends ps

-- how often p is there
abbrev pub times : Pair → List Pair → ℕ
times p [] = 0
times p (q ∷ qs) = cond (same p q) 1 0 + times p qs

times-sum_by : (p : Pair) (ps : List Pair) → sum_by (λ q. cond (same p q) 1 0) ps ≡ times p ps
times-sum_by p [] = refl
times-sum_by p (q ∷ qs) = sum_by-cons (λ q. cond (same p q) 1 0) q qs ∙ ap (λ n. cond (same p q) 1 0 + n) (times-sum_by p qs)

-- the order of a list doesn't change how often p is there
times-IsPermutation : (p : Pair) (xs ys : List Pair) → IsPermutation xs ys → times p ys ≡ times p xs
times-IsPermutation p xs ys h = sym (times-sum_by p ys) ∙ sum_by-IsPermutation (λ q. cond (same p q) 1 0) xs ys h ∙ times-sum_by p xs

pub not_after : (a b : Pair) → pair_cmp a b ≡ Less → before b a ≡ false
not_after a b h = elim (before b a) as (λ t. before b a ≡ t → t ≡ false) [
  | true ↦ λ e. absurd (irreflexive a (before_trans a b a h (before_is b a e)))
  | false ↦ λ e. refl
] refl

-- p isn't after q, and q isn't after r
not_before_trans : (p q r : Pair) → before q p ≡ false → before r q ≡ false → before r p ≡ false
not_before_trans p q r h k = elim (before r p) as (λ t. before r p ≡ t → t ≡ false) [
  | true ↦ λ e. step (pair_cmp q r) refl (before_is r p e)
  | false ↦ λ e. refl
] refl
  where
    step : (o : Ordering) → pair_cmp q r ≡ o → pair_cmp r p ≡ Less → true ≡ false
    step Less o l = sym (ap is_lt (before_trans q r p o l)) ∙ h
    step Equal o l = sym (ap is_lt (subst (λ x. pair_cmp x p ≡ Less) (sym (exact_pair q r o)) l)) ∙ h
    step Greater o l = sym (ap is_lt (pairs_total.antisymm r q ∙ ap ordering_reverse o)) ∙ k

ascends-with_pair : (p : Pair) (ps : List Pair) → Ascends ps → Ascends (with_pair p ps)
ascends-with_pair p [] a = (tt, tt)
ascends-with_pair p (q ∷ qs) a = elim (before q p) as (λ b. before q p ≡ b → Ascends (cond b (q ∷ with_pair p qs) (p ∷ q ∷ qs))) [
  | true ↦ λ e. (all-with_pair (λ r. before r q ≡ false) p qs (not_after q p (before_is q p e)) a.0, ascends-with_pair p qs a.1)
  | false ↦ λ e. ((e, all_weaker (λ r. before r q ≡ false) (λ r. before r p ≡ false) (λ r h. not_before_trans p q r e h) qs a.0), a)
] refl

pub ascends-in_order : (ps : List Pair) → Ascends (in_order ps)
ascends-in_order [] = tt
ascends-in_order (p ∷ ps) = ascends-with_pair p (in_order ps) (ascends-in_order ps)

times-with_pair : (x p : Pair) (ps : List Pair) → times x (with_pair p ps) ≡ times x (p ∷ ps)
times-with_pair x p [] = refl
times-with_pair x p (q ∷ qs) = elim (before q p) as (λ b. times x (cond b (q ∷ with_pair p qs) (p ∷ q ∷ qs)) ≡ times x (p ∷ q ∷ qs)) [
  | true ↦ let h = times-with_pair x p qs in omega arith
  | false ↦ refl
]

pub times-in_order : (x : Pair) (ps : List Pair) → times x (in_order ps) ≡ times x ps
times-in_order x [] = refl
times-in_order x (p ∷ ps) = times-with_pair x p (in_order ps) ∙ omega (arith, times-in_order x ps)

never : (x : Pair) (ps : List Pair) → AllByRecursion (λ q. pair_cmp x q ≡ Less) ps → times x ps ≡ 0
never x [] all = refl
never x (q ∷ qs) all =
    let apart : same x q ≡ false = ap Rattle.std.specs.Ordering.is_eq all.0 in
    let rest = never x qs all.1 in
    rw apart (omega arith)

here_once : (x : Pair) (ps : List Pair) → 1 ≤ times x (x ∷ ps)
here_once x ps = rw (same_itself x) (omega arith)

below_all : (x y : Pair) (ys : List Pair) → pair_cmp x y ≡ Less → Ascends (y ∷ ys) → AllByRecursion (λ q. pair_cmp x q ≡ Less) (y ∷ ys)
below_all x y ys h a = (h, all_weaker (λ q. before q y ≡ false) (λ q. pair_cmp x q ≡ Less) (λ q k. step q k (pair_cmp y q) refl) ys a.0)
  where
    step : (q : Pair) → before q y ≡ false → (o : Ordering) → pair_cmp y q ≡ o → pair_cmp x q ≡ Less
    step q k Less o = before_trans x y q h o
    step q k Equal o = subst (λ z. pair_cmp x z ≡ Less) (exact_pair y q o) h
    step q k Greater o = absurd (false≢true (sym k ∙ ap is_lt (pairs_total.antisymm q y ∙ ap ordering_reverse o)))

heads : (x y : Pair) (xs ys : List Pair) → Ascends (x ∷ xs) → Ascends (y ∷ ys) → ((p : Pair) → times p (x ∷ xs) ≡ times p (y ∷ ys)) → (o : Ordering) → pair_cmp x y ≡ o → x ≡ y
heads x y xs ys a b same_times Less o = absurd (omega (arith, here_once x xs, same_times x, never x (y ∷ ys) (below_all x y ys o b)))
heads x y xs ys a b same_times Equal o = exact_pair x y o
heads x y xs ys a b same_times Greater o =
    absurd (omega (arith, here_once y ys, same_times y, never y (x ∷ xs) (below_all y x xs (pairs_total.antisymm y x ∙ ap ordering_reverse o) a)))

-- ascending lists that have each pair as often are one
pub one_order : (xs ys : List Pair) → Ascends xs → Ascends ys → ((p : Pair) → times p xs ≡ times p ys) → xs ≡ ys
one_order [] [] a b same_times = refl
one_order [] (y ∷ ys) a b same_times = absurd (omega (arith, here_once y ys, same_times y))
one_order (x ∷ xs) [] a b same_times = absurd (omega (arith, here_once x xs, same_times x))
one_order (x ∷ xs) (y ∷ ys) a b same_times =
    let e : x ≡ y = heads x y xs ys a b same_times (pair_cmp x y) refl in
    let rest : xs ≡ ys = one_order xs ys a.1 b.1 (λ p.
    let at : times p (x ∷ xs) ≡ times p (x ∷ ys) = same_times p ∙ ap (λ z. times p (z ∷ ys)) (sym e) in
    omega arith) in
    cc

-- the order doesn't depend on the order before
pub in_order-IsPermutation : (xs ys : List Pair) → IsPermutation xs ys → in_order xs ≡ in_order ys
in_order-IsPermutation xs ys h = one_order (in_order xs) (in_order ys) (ascends-in_order xs) (ascends-in_order ys) (λ p.
    times-in_order p xs ∙ sym (times-IsPermutation p xs ys h) ∙ sym (times-in_order p ys))

with_pair_perm : (p : Pair) (ps : List Pair) → IsPermutation (p ∷ ps) (with_pair p ps)
with_pair_perm p [] = IsPermutation-refl (p ∷ [])
with_pair_perm p (q ∷ qs) = elim (before q p) as (λ b. IsPermutation (p ∷ q ∷ qs) (cond b (q ∷ with_pair p qs) (p ∷ q ∷ qs))) [
  | true ↦ IsPermutation-trans (p ∷ q ∷ qs) (q ∷ p ∷ qs) (q ∷ with_pair p qs) (Rattle.std.proofs.lemmas.List.Sorted.IsPermutation-sym _ _ (IsPermutation-insert (p ∷ qs) 1 q)) (IsPermutation-cons q (p ∷ qs) (with_pair p qs) (with_pair_perm p qs))
  | false ↦ IsPermutation-refl (p ∷ q ∷ qs)
]

pub IsPermutation-in_order : (ps : List Pair) → IsPermutation ps (in_order ps)
IsPermutation-in_order [] = IsPermutation-refl []
IsPermutation-in_order (p ∷ ps) = IsPermutation-trans (p ∷ ps) (p ∷ in_order ps) (with_pair p (in_order ps)) (IsPermutation-cons p ps (in_order ps) (IsPermutation-in_order ps)) (with_pair_perm p (in_order ps))

-- what a sort leaves
ascends_far : (ps : List Pair) → ((i j : ℕ) (d : Pair) → i ≤ j → j < length ps → before (get_or ps j d) (get_or ps i d) ≡ false) → Ascends ps
ascends_far [] far = tt
ascends_far (p ∷ ps) far = (all_from ps (λ k d lt. far 0 (suc k) d (omega arith) (omega arith)), ascends_far ps (λ i j d le lt. far (suc i) (suc j) d (omega arith) (omega arith)))
  where
    all_from : (qs : List Pair) → ((k : ℕ) (d : Pair) → k < length qs → before (get_or qs k d) p ≡ false) → AllByRecursion (λ q. before q p ≡ false) qs
    all_from [] h = tt
    all_from (q ∷ qs) h = (h 0 q (omega arith), all_from qs (λ k d lt. h (suc k) d (omega arith)))

pub in_order_from_sort : (xs ys : List Pair) → IsPermutation xs ys → IsSorted pair_cmp ys → ys ≡ in_order xs
in_order_from_sort xs ys perm sorted = one_order ys (in_order xs) (ascends_far ys (sorted_far before (ranks_by pairs_total (λ (p : Pair). p)) ys sorted)) (ascends-in_order xs) (λ p.
    times-IsPermutation p xs ys perm ∙ sym (times-in_order p xs))

-- pairs that ascend and differ are in order
strict : (ps : List Pair) → Ascends ps → IsDistinct same ps → AreInOrder ps
unfolding IsStrictlySortedBy IsDistinct
strict [] a d = tt
strict (p ∷ ps) a d =
    (all_weaker _ _ (λ q k. before_other q p k.0 (λ e. false≢true (sym k.1 ∙ ap (same p) e ∙ same_itself p))) ps (all_zip _ _ ps a.0 d.0), strict ps a.1 d.1)

pub order_from_distinct : (ps : List Pair) → IsDistinct same ps → AreInOrder (in_order ps)
order_from_distinct ps d = strict (in_order ps) (ascends-in_order ps) (IsDistinct-IsPermutation same (eq_by_cmp_equiv pairs_total).symm ps (in_order ps) (IsPermutation-in_order ps) d)

IsSorted-Ascends : (ps : List Pair) → Ascends ps → IsSorted pair_cmp ps
IsSorted-Ascends [] a k d low lt = absurd (omega arith)
IsSorted-Ascends (p ∷ []) a k d low lt = absurd (omega arith)
IsSorted-Ascends (p ∷ q ∷ qs) a zero d low lt = a.0.0
IsSorted-Ascends (p ∷ q ∷ qs) a (suc k) d low lt =
    let h = IsSorted-Ascends (q ∷ qs) a.1 k d (omega arith) (omega arith) in
    rw add-one (rw add-one at h)

pub IsSorted-in_order : (ps : List Pair) → IsSorted pair_cmp (in_order ps)
IsSorted-in_order ps = IsSorted-Ascends (in_order ps) (ascends-in_order ps)
