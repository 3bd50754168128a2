-- Pairs that are those of their records: when their numbers alone tell that they are all of a table's.
use Rattle.std.proofs.Common.{◌≡◌, ℕ, ◌+◌, List, [], ◌∷◌, length, map, refl, ap, sym, subst, ◌∙◌}
use Rattle.std.specs.Prelude.{◌↔◌}
use Rattle.std.specs.List.{AllByRecursion}
use Rattle.std.specs.List.Sorted.{IsPermutation}
use Rattle.std.proofs.lemmas.List.Sorted.{IsPermutation-map, IsPermutation-sym, IsPermutation-trans, Contains-permutation}
use Rattle.dbf_image.specs.Table.{Row, Table}
use Rattle.key_expr.specs.Grammar.{Expr}
use Rattle.ndx_index.specs.declared.pair.Pair.{Pair}
use Rattle.ndx_index.specs.Places.{counted}
use Rattle.table_order.specs.TableOrder.{pairs_from, pairs_of, pair_at, order, IsRecordPair}
use Rattle.ndx_index.specs.Laws.Sorting.{IsPermutation-in_order}
use Rattle.table_order.specs.Laws.RecordOrders.{record_there}
use Rattle.ndx_index.specs.Laws.Given.{all_contained}

-- the numbers of the table's pairs are counted on
pub numbers-pairs : (rows : List Row) (e : Expr) (n : ℕ) → map (λ (p : Pair). p.number) (pairs_from n rows e) ≡ counted n (length rows)
numbers-pairs [] e n = refl
numbers-pairs (r ∷ rs) e n = ap (λ (ns : List ℕ). n ∷ ns) (numbers-pairs rs e (n + 1))

-- pairs of records are told by their numbers
told : (table : Table) (e : Expr) (ps : List Pair) → AllByRecursion (IsRecordPair table e) ps → map (λ (n : ℕ). pair_at table n e) (map (λ (p : Pair). p.number) ps) ≡ ps
told table e [] all = refl
told table e (p ∷ ps) all =
    ap (λ (q : Pair). q ∷ map (λ (n : ℕ). pair_at table n e) (map (λ (x : Pair). x.number) ps)) (sym all.0.own) ∙ ap (λ (qs : List Pair). p ∷ qs) (told table e ps all.1)

-- each of the table's pairs, in whatever order, is that of its record
pub own_from_permutation : (table : Table) (e : Expr) (ps : List Pair) → IsPermutation (pairs_of table e) ps → AllByRecursion (IsRecordPair table e) ps
own_from_permutation table e ps perm =
    let sorted = IsPermutation-trans ps (pairs_of table e) (order table e) (IsPermutation-sym (pairs_of table e) ps perm) (IsPermutation-in_order (pairs_of table e)) in
    all_contained (IsRecordPair table e) ps (λ p there. record_there table e p (Contains-permutation ps (order table e) p sorted there))

-- pairs of records are all of the table's, each as often, where each record's number is there once
pub pairs_by_numbers : (table : Table) (e : Expr) (ps : List Pair) → AllByRecursion (IsRecordPair table e) ps
    → IsPermutation (counted 1 (length table.rows)) (map (λ (p : Pair). p.number) ps) ↔ IsPermutation (pairs_of table e) ps
pairs_by_numbers table e ps own =
    let n : ℕ = length table.rows in
    let all : List Pair = pairs_of table e in
    let pair : ℕ → Pair = λ m. pair_at table m e in
    let numbers : map (λ (p : Pair). p.number) all ≡ counted 1 n = numbers-pairs table.rows e 1 in
    let whole : map pair (counted 1 n) ≡ all = ap (map pair) (sym numbers) ∙ told table e all (own_from_permutation table e all (Rattle.std.proofs.lemmas.List.Sorted.IsPermutation-refl all)) in (
      λ perm.
          let there = IsPermutation-map pair (counted 1 n) (map (λ (p : Pair). p.number) ps) perm in
          subst (λ (xs : List Pair). IsPermutation xs ps) whole (subst (λ (ys : List Pair). IsPermutation (map pair (counted 1 n)) ys) (told table e ps own) there),
      λ perm. subst (λ (ns : List ℕ). IsPermutation ns (map (λ (p : Pair). p.number) ps)) numbers (IsPermutation-map (λ (p : Pair). p.number) all ps perm),
    )
