-- Pairs by new numbers of their records: numbers that rise with the old ones keep the order.
use Rattle.std.proofs.Common.{◌≡◌, ◌≢◌, ℕ, ◌+◌, ◌-◌, ◌<◌, ◌≤◌, Bool, true, false, cond, eqb, List, [], ◌∷◌, ◌++◌, length, take, get_or, refl, ap, sym, ◌∙◌, inl, inr, arith}
use Rattle.std.specs.Ordering.{nat_cmp, ordering_then}
use Rattle.std.specs.Cmp.{nat_cmp_is}
use Rattle.std.specs.Cmp.Lexicographic.{slice_cmp}
use Rattle.std.specs.declared.cmp.Ordering.{Ordering}
use Rattle.std.specs.declared.cmp.Ordering.TheVariants.{Less, Equal, Greater}
use Rattle.std.specs.List.{AllByRecursion, sum_by}
use Rattle.std.specs.List.Sorted.{IsPermutation, IsStrictlySortedBy}
use Rattle.std.proofs.lemmas.Bool.{cases_eq, cases_lt, eq-eqb, ne_eqb, false≢true}
use Rattle.std.proofs.lemmas.List.{append-nil, take_more}
use Rattle.std.proofs.lemmas.List.Sums.{sum_by-cons}
use Rattle.std.proofs.lemmas.List.Sorted.{sum_by-IsPermutation}
use Rattle.ndx_index.specs.declared.pair.Pair.{Pair}
use Rattle.ndx_index.specs.Order.{pair_cmp, same, AreInOrder}
use Rattle.ndx_index.specs.Renumbered.{new_number, renumbered}
use Rattle.ndx_index.specs.Laws.Sorting.{times}

-- the numbers rise, but for those that are 0
abbrev pub Rise : List ℕ → Type 0
Rise ns = (i j : ℕ) → i < j → get_or ns i 0 ≢ 0 → get_or ns j 0 ≢ 0 → get_or ns i 0 < get_or ns j 0

-- ---- numbers that rise keep an order

abbrev with_number : Pair → ℕ → Pair
with_number p n = record { key = p.key; number = n }

less_number : (a b : ℕ) → nat_cmp a b ≡ Less → a < b
less_number a b h = elim (cases_lt a b) [
  | inl lt ↦ lt
  | inr le ↦ elim (cases_eq a b) [
    | inl e ↦ let tie : Equal ≡ nat_cmp a b = nat_cmp_is a b Equal e in absurd cc
    | inr ne ↦ let more : Greater ≡ nat_cmp a b = nat_cmp_is a b Greater (omega arith) in absurd cc
  ]
]

-- what stands before a pair does so by new numbers that rise too
still_less : (p q : Pair) (m n : ℕ) → pair_cmp p q ≡ Less → (p.number < q.number → m < n) → pair_cmp (with_number p m) (with_number q n) ≡ Less
still_less p q m n less up = by (slice_cmp nat_cmp p.key q.key) less
  where
    by : (o : Ordering) → ordering_then o (nat_cmp p.number q.number) ≡ Less → ordering_then o (nat_cmp m n) ≡ Less
    by Less h = refl
    by Equal h = sym (nat_cmp_is m n Less (up (less_number p.number q.number h)))
    by Greater h = h

new_rises : (ns : List ℕ) → Rise ns → (p q : Pair) → 1 ≤ p.number → new_number ns p ≢ 0 → new_number ns q ≢ 0 → p.number < q.number → new_number ns p < new_number ns q
new_rises ns rise p q one np nq lt = rise (p.number - 1) (q.number - 1) (omega arith) np nq

not_zero : (n : ℕ) → eqb n 0 ≡ false → n ≢ 0
not_zero n h e = false≢true (sym h ∙ eq-eqb n 0 e)

all_later : (ns : List ℕ) → Rise ns → (p : Pair) → 1 ≤ p.number → new_number ns p ≢ 0 → (ps : List Pair) → AllByRecursion (λ q. pair_cmp p q ≡ Less) ps
    → AllByRecursion (λ q. pair_cmp (with_number p (new_number ns p)) q ≡ Less) (renumbered ns ps)
all_later ns rise p one np [] all = tt
all_later ns rise p one np (q ∷ qs) all = elim (eqb (new_number ns q) 0)
    as (λ b. eqb (new_number ns q) 0 ≡ b → AllByRecursion (λ x. pair_cmp (with_number p (new_number ns p)) x ≡ Less) (cond b (renumbered ns qs) (with_number q (new_number ns q) ∷ renumbered ns qs))) [
      | true ↦ λ e. all_later ns rise p one np qs all.1
      | false ↦ λ e. (
        still_less p q (new_number ns p) (new_number ns q) all.0 (λ lt. new_rises ns rise p q one np (not_zero (new_number ns q) e) lt),
        all_later ns rise p one np qs all.1,
      )
    ] refl

-- pairs in order are in order by new numbers that rise
pub renumbered_order : (ns : List ℕ) → Rise ns → (ps : List Pair) → AllByRecursion (λ p. 1 ≤ p.number) ps → AreInOrder ps → AreInOrder (renumbered ns ps)
unfolding IsStrictlySortedBy
renumbered_order ns rise [] one sorted = tt
renumbered_order ns rise (p ∷ ps) one sorted = elim (eqb (new_number ns p) 0) as (λ b. eqb (new_number ns p) 0 ≡ b → AreInOrder (cond b (renumbered ns ps) (with_number p (new_number ns p) ∷ renumbered ns ps))) [
  | true ↦ λ e. renumbered_order ns rise ps one.1 sorted.1
  | false ↦ λ e. (all_later ns rise p one.0 (not_zero (new_number ns p) e) ps sorted.0, renumbered_order ns rise ps one.1 sorted.1)
] refl

-- ---- how often each pair is there

-- how often a pair is among the new ones, by an old one
abbrev count_new : List ℕ → Pair → Pair → ℕ
count_new ns x q = cond (eqb (new_number ns q) 0) 0 (cond (same x (with_number q (new_number ns q))) 1 0)

times-renumbered : (ns : List ℕ) (x : Pair) (ps : List Pair) → times x (renumbered ns ps) ≡ sum_by (count_new ns x) ps
times-renumbered ns x [] = refl
times-renumbered ns x (q ∷ qs) =
    let rest = times-renumbered ns x qs in
    let new : Pair = with_number q (new_number ns q) in
    let here : times x (cond (eqb (new_number ns q) 0) (renumbered ns qs) (new ∷ renumbered ns qs)) ≡ count_new ns x q + sum_by (count_new ns x) qs =
    elim (eqb (new_number ns q) 0) as (λ b. times x (cond b (renumbered ns qs) (new ∷ renumbered ns qs)) ≡ cond b 0 (cond (same x new) 1 0) + sum_by (count_new ns x) qs) [
      | true ↦ omega (arith, rest)
      | false ↦ ap (λ (n : ℕ). cond (same x new) 1 0 + n) rest
    ] in
    here ∙ sym (sum_by-cons (count_new ns x) q qs)

-- pairs in another order are the same by new numbers
pub times_moved : (ns : List ℕ) (x : Pair) (xs ys : List Pair) → IsPermutation xs ys → times x (renumbered ns ys) ≡ times x (renumbered ns xs)
times_moved ns x xs ys perm = times-renumbered ns x ys ∙ sum_by-IsPermutation (count_new ns x) xs ys perm ∙ sym (times-renumbered ns x xs)

-- ---- pair by pair

-- one more pair
pub renumbered_more : (ns : List ℕ) (ps : List Pair) (p : Pair) → renumbered ns (ps ++ p ∷ []) ≡ renumbered ns ps ++ cond (eqb (new_number ns p) 0) [] (with_number p (new_number ns p) ∷ [])
renumbered_more ns [] p = refl
renumbered_more ns (q ∷ qs) p =
    let last : List Pair = cond (eqb (new_number ns p) 0) [] (with_number p (new_number ns p) ∷ []) in
    let new : Pair = with_number q (new_number ns q) in
    elim (eqb (new_number ns q) 0) as (λ b. cond b (renumbered ns (qs ++ p ∷ [])) (new ∷ renumbered ns (qs ++ p ∷ [])) ≡ cond b (renumbered ns qs) (new ∷ renumbered ns qs) ++ last) [
      | true ↦ renumbered_more ns qs p
      | false ↦ ap (λ (ps : List Pair). new ∷ ps) (renumbered_more ns qs p)
    ]

-- the first pairs with one more, which stays,
pub renumbered_kept : (ns : List ℕ) (ps : List Pair) (at : ℕ) (d : Pair) (k : List ℕ) (m : ℕ) → at < length ps → m ≡ new_number ns (get_or ps at d) → k ≡ (get_or ps at d).key → m ≢ 0
    → renumbered ns (take at ps) ++ record { key = k; number = m } ∷ [] ≡ renumbered ns (take (at + 1) ps)
renumbered_kept ns ps at d k m lt is own ne =
    let p : Pair = get_or ps at d in
    let apart : eqb (new_number ns p) 0 ≡ false = ne_eqb (new_number ns p) 0 (λ z. ne (is ∙ z)) in
    let new : with_number p (new_number ns p) ≡ record { key = k; number = m } = λ i. record { key = sym own i; number = sym is i } in
    sym (ap (renumbered ns) (take_more ps at d lt) ∙ renumbered_more ns (take at ps) p
    ∙ ap (λ (b : Bool). renumbered ns (take at ps) ++ cond b [] (with_number p (new_number ns p) ∷ [])) apart ∙ ap (λ (q : Pair). renumbered ns (take at ps) ++ q ∷ []) new)

-- and which goes
pub renumbered_gone : (ns : List ℕ) (ps : List Pair) (at : ℕ) (d : Pair) (m : ℕ) → at < length ps → m ≡ new_number ns (get_or ps at d) → m ≡ 0 → renumbered ns (take (at + 1) ps) ≡ renumbered ns (take at ps)
renumbered_gone ns ps at d m lt is none =
    let p : Pair = get_or ps at d in
    let here : eqb (new_number ns p) 0 ≡ true = eq-eqb (new_number ns p) 0 (sym is ∙ none) in
    ap (renumbered ns) (take_more ps at d lt) ∙ renumbered_more ns (take at ps) p
    ∙ ap (λ (b : Bool). renumbered ns (take at ps) ++ cond b [] (with_number p (new_number ns p) ∷ [])) here ∙ append-nil (renumbered ns (take at ps))
