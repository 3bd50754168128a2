-- Numbers that are counted on from one: when they are put in order, and by their places.
use Rattle.std.proofs.Common.{◌≡◌, ℕ, zero, suc, ◌+◌, ◌<◌, List, [], ◌∷◌, length, map, get_or, refl, ap, sym, ◌∙◌, arith}
use Rattle.std.specs.Ordering.{nat_cmp}
use Rattle.std.specs.Cmp.{nat_cmp_is}
use Rattle.std.specs.declared.cmp.Ordering.TheVariants.{Less}
use Rattle.std.specs.List.{AllByRecursion}
use Rattle.std.specs.List.Sorted.{IsPermutation, IsSorted, IsStrictlySortedBy}
use Rattle.std.proofs.lemmas.List.{get_or-map, length-map}
use Rattle.std.proofs.lemmas.List.Sorted.{IsPermutation-map}
use Rattle.ndx_index.specs.declared.pair.Pair.{Pair}
use Rattle.ndx_index.specs.Order.{pair_cmp, AreInOrder}
use Rattle.ndx_index.specs.Places.{counted}
use Rattle.ndx_index.specs.Laws.Sorting.{in_order_from_sort}
use Rattle.ndx_index.specs.Laws.Given.{in_order_already}

-- ---- numbers put in order

-- a number as a pair without a key
abbrev bare : ℕ → Pair
bare n = record { key = []; number = n }

bare_numbers : (ns : List ℕ) → map (λ (p : Pair). p.number) (map bare ns) ≡ ns
bare_numbers [] = refl
bare_numbers (n ∷ ns) = ap (λ (ms : List ℕ). n ∷ ms) (bare_numbers ns)

later : (m from n : ℕ) → m < from → AllByRecursion (λ q. pair_cmp (bare m) q ≡ Less) (map bare (counted from n))
later m from zero lt = tt
later m from (suc n) lt = (sym (nat_cmp_is m from Less lt), later m (from + 1) n (omega arith))

counted_order : (n from : ℕ) → AreInOrder (map bare (counted from n))
unfolding IsStrictlySortedBy
counted_order zero from = tt
counted_order (suc n) from = (later from (from + 1) n (omega arith), counted_order n (from + 1))

bare_sorted : (ns : List ℕ) → IsSorted nat_cmp ns → IsSorted pair_cmp (map bare ns)
bare_sorted ns sorted k d low lt =
    let inside : k + 1 < length ns = omega (arith, length-map ns bare) in
    rw (get_or-map bare ns (k + 1) 0 d inside, get_or-map bare ns k 0 d (omega arith)) (sorted k 0 low inside)

-- numbers in order that are those from one on, each once, are counted
pub counted_from_sort : (n : ℕ) (ns : List ℕ) → IsPermutation (counted 1 n) ns → IsSorted nat_cmp ns → ns ≡ counted 1 n
counted_from_sort n ns perm sorted =
    let same : map bare ns ≡ map bare (counted 1 n) =
    in_order_from_sort (map bare (counted 1 n)) (map bare ns) (IsPermutation-map bare (counted 1 n) ns perm) (bare_sorted ns sorted)
    ∙ in_order_already (map bare (counted 1 n)) (counted_order n 1) in
    sym (bare_numbers ns) ∙ ap (map (λ (p : Pair). p.number)) same ∙ bare_numbers (counted 1 n)

-- ---- numbers and their places

-- a list is counted where each of its numbers is counted to its place
pub counted_from_places : (ns : List ℕ) (from : ℕ) → ((k : ℕ) → k < length ns → get_or ns k 0 ≡ from + k) → ns ≡ counted from (length ns)
counted_from_places [] from h = refl
counted_from_places (n ∷ ns) from h =
    let here = h 0 (omega arith) in
    let first : n ≡ from = omega arith in
    let rest = counted_from_places ns (from + 1) (λ k lt. let next = h (suc k) (omega arith) in omega arith) in
    ap (λ (m : ℕ). m ∷ ns) first ∙ ap (λ (ms : List ℕ). from ∷ ms) rest

-- and the other way round
pub counted_place : (n from k : ℕ) → k < n → get_or (counted from n) k 0 ≡ from + k
counted_place zero from k lt = absurd (omega arith)
counted_place (suc n) from zero lt = omega arith
counted_place (suc n) from (suc k) lt = let next = counted_place n (from + 1) k (omega arith) in omega arith
