-- The order of a table of which one record is changed or added, and the records of its pairs.
use Rattle.std.proofs.Common.{◌≡◌, ℕ, suc, ◌+◌, ◌-◌, ◌<◌, ◌≤◌, List, [], ◌∷◌, ◌++◌, length, take, drop, get_or, set, Contains, refl, ap, sym, ◌∙◌, inl, inr, arith}
use Rattle.std.specs.List.{remove}
use Rattle.std.proofs.lemmas.Bool.{cases_eq, cases_lt}
use Rattle.std.proofs.lemmas.Map.Keys.{Less-from_sorted}
use Rattle.std.proofs.lemmas.List.{get_or_default, take-set, drop-set-lt, append-nil, set-get_or}
use Rattle.std.proofs.lemmas.List.Edits.{remove-append_right}
use Rattle.std.proofs.lemmas.List.Sorted.{length_permutation, IsPermutation-remove, IsPermutation-sym, Contains-permutation}
use Rattle.dbf_image.specs.Table.{Row, Table, row_at, blank_row, with_row}
use Rattle.key_expr.specs.Grammar.{Expr}
use Rattle.key_expr.specs.Keys.{key}
use Rattle.ndx_index.specs.declared.pair.Pair.{Pair}
use Rattle.ndx_index.specs.Order.{pair_cmp, with_pair, in_order, without_pair, AreInOrder}
use Rattle.table_order.specs.TableOrder.{pairs_from, pairs_of, pair_at, order, order_but, IsRecordPair}
use Rattle.ndx_index.specs.Laws.Comparing.{irreflexive}
use Rattle.ndx_index.specs.Laws.Sorting.{in_order-IsPermutation, IsPermutation-in_order, order_from_distinct, without_pair-with_pair}
use Rattle.table_order.specs.Laws.RecordPairs.{pair, pairs_distinct, length-pairs, get-pairs, set-pairs, push-pairs, number-least, number-most, pair_of_number, absent_from}

-- in the order of a table each pair stands before all later ones
pub table_in_order : (table : Table) (e : Expr) → AreInOrder (order table e)
table_in_order table e = order_from_distinct (pairs_from 1 table.rows e) (pairs_distinct table.rows e 1)

-- among the pairs of all other records none has the record's number, so the record's pair may be put there
pub absent_but : (table : Table) (e : Expr) (number : ℕ) (p : Pair) → 1 ≤ number → p.number ≡ number → Contains (order_but number table e) p → ⊥
absent_but table e number p one is there =
    let ps : List Pair = remove (pairs_of table e) (number - 1) in
    let h = Contains-permutation (in_order ps) ps p (IsPermutation-sym ps (in_order ps) (IsPermutation-in_order ps)) there in
    absent_from table.rows e 1 (number - 1) h.0 p (omega arith) h.1 h.2

pair_at_index : (table : Table) (e : Expr) (number : ℕ) → 1 ≤ number → number ≤ length table.rows → get_or (pairs_of table e) (number - 1) (pair_at table number e) ≡ pair_at table number e
pair_at_index table e number one inside =
    let k : 1 + (number - 1) ≡ number = omega arith in
    get-pairs table.rows e 1 (number - 1) (pair_at table number e) (blank_row table.schema) (omega arith) ∙ ap (λ (m : ℕ). pair m (row_at table number) e) k

-- the pair of a record put among those of all others
pub order_put : (table : Table) (e : Expr) (number : ℕ) → 1 ≤ number → number ≤ length table.rows → order table e ≡ with_pair (pair_at table number e) (order_but number table e)
order_put table e number one inside =
    let ps : List Pair = pairs_of table e in
    let p : Pair = pair_at table number e in
    let i : ℕ = number - 1 in
    in_order-IsPermutation ps (p ∷ remove ps i) (IsPermutation-remove ps i p (omega (arith, length-pairs table.rows e 1)) (sym (pair_at_index table e number one inside)))

-- and taken out
pub order_take : (table : Table) (e : Expr) (number : ℕ) → 1 ≤ number → number ≤ length table.rows → without_pair (pair_at table number e) (order table e) ≡ order_but number table e
order_take table e number one inside =
    let p : Pair = pair_at table number e in
    ap (without_pair p) (order_put table e number one inside)
    ∙ without_pair-with_pair p (order_but number table e) (λ h. absent_but table e number p one refl h)

remove-set : {X : Type 0} (xs : List X) (i : ℕ) (x : X) → remove (set xs i x) i ≡ remove xs i
remove-set xs i x = ap (λ ys. ys ++ drop (suc i) (set xs i x)) (take-set xs i x) ∙ ap (λ ys. take i xs ++ ys) (drop-set-lt (suc i) xs i x (omega arith))

-- another row of a record leaves the order of all others as it was
pub but_row : (table : Table) (e : Expr) (number : ℕ) (r : Row) → order_but number (record { schema = table.schema; rows = set table.rows (number - 1) r }) e ≡ order_but number table e
but_row table e number r =
    let i : ℕ = number - 1 in
    ap (λ (ps : List Pair). in_order (remove ps i)) (set-pairs table.rows e 1 i r)
    ∙ ap in_order (remove-set (pairs_of table e) i (pair (1 + i) r e))

remove-push : {X : Type 0} (xs : List X) (x : X) (i : ℕ) → i ≡ length xs → remove (xs ++ x ∷ []) i ≡ xs
remove-push xs x i is =
    let k : i - length xs ≡ 0 = omega arith in
    remove-append_right xs (x ∷ []) (length xs) i refl (omega arith) ∙ ap (λ (n : ℕ). xs ++ remove (x ∷ []) n) k ∙ append-nil xs

-- so does a row that comes after all others
pub but_last : (table : Table) (e : Expr) (number : ℕ) (r : Row) → number ≡ length table.rows + 1 → order_but number (with_row table r) e ≡ order table e
but_last table e number r is =
    ap (λ (ps : List Pair). in_order (remove ps (number - 1))) (push-pairs table.rows e 1 r)
    ∙ ap in_order (remove-push (pairs_of table e) _ (number - 1) (omega (arith, length-pairs table.rows e 1)))

-- another row with the same key, as one with a mark or another memo, leaves the whole order as it was
pub order_row : (table : Table) (e : Expr) (number : ℕ) (r : Row) → 1 ≤ number → number ≤ length table.rows → key r.cells e ≡ key (row_at table number).cells e
    → order (record { schema = table.schema; rows = set table.rows (number - 1) r }) e ≡ order table e
order_row table e number r one inside same =
    let i : ℕ = number - 1 in
    let ps : List Pair = pairs_of table e in
    let at : get_or ps i (pair (1 + i) r e) ≡ pair (1 + i) r e =
    get-pairs table.rows e 1 i (pair (1 + i) r e) (blank_row table.schema) (omega arith) ∙ ap (λ (k : List ℕ). record { key = k; number = 1 + i }) (sym same) in
    ap in_order (set-pairs table.rows e 1 i r ∙ ap (set ps i) (sym at) ∙ set-get_or ps i (pair (1 + i) r e))

-- ---- the records of the pairs

-- the order has as many pairs as the table has records
pub length-order : (table : Table) (e : Expr) → length (order table e) ≡ length table.rows
length-order table e = length_permutation (pairs_of table e) (order table e) (IsPermutation-in_order (pairs_of table e)) ∙ length-pairs table.rows e 1

-- the pair of each record is there
pub pair_there : (table : Table) (e : Expr) (number : ℕ) → 1 ≤ number → number ≤ length table.rows → Contains (order table e) (pair_at table number e)
pair_there table e number one inside =
    let ps : List Pair = pairs_of table e in
    Contains-permutation ps (in_order ps) (pair_at table number e) (IsPermutation-in_order ps)
    (number - 1, omega (arith, length-pairs table.rows e 1), pair_at_index table e number one inside)

-- and each pair is that of a record
pub record_there : (table : Table) (e : Expr) (p : Pair) → Contains (order table e) p → IsRecordPair table e p
record_there table e p there =
    let ps : List Pair = pairs_of table e in
    let h = Contains-permutation (in_order ps) ps p (IsPermutation-sym ps (in_order ps) (IsPermutation-in_order ps)) there in
    let one : 1 ≤ p.number = number-least table.rows e 1 p h in
    let k : 1 + (p.number - 1) ≡ p.number = omega arith in
    record {
      some = one;
      inside = omega (arith, number-most table.rows e 1 p h);
      own = pair_of_number table.rows e 1 (p.number - 1) h.0 p (blank_row table.schema) h.1 h.2 (sym k) ∙ ap (λ (m : ℕ). pair m (row_at table p.number) e) k;
    }

-- each number stands at one place
pub number_once : (table : Table) (e : Expr) (i j : ℕ) (d : Pair) → i < length (order table e) → j < length (order table e)
    → (get_or (order table e) i d).number ≡ (get_or (order table e) j d).number → i ≡ j
number_once table e i j d lt within same = elim (cases_eq i j) [
  | inl e ↦ e
  | inr ne ↦ elim (cases_lt i j) [
    | inl less ↦ absurd (apart i j less within same)
    | inr more ↦ absurd (apart j i (omega arith) lt (sym same))
  ]
]
  where
    its : (k : ℕ) → k < length (order table e) → get_or (order table e) k d ≡ pair_at table (get_or (order table e) k d).number e
    its k lt = (record_there table e (get_or (order table e) k d) (k, lt, get_or_default (order table e) k (get_or (order table e) k d) d lt)).own

    apart : (k l : ℕ) → k < l → l < length (order table e) → (get_or (order table e) k d).number ≡ (get_or (order table e) l d).number → ⊥
    apart k l less within same =
        let one : get_or (order table e) k d ≡ get_or (order table e) l d = its k (omega arith) ∙ ap (λ (n : ℕ). pair_at table n e) same ∙ sym (its l within) in
        irreflexive (get_or (order table e) l d) (sym (ap (λ (p : Pair). pair_cmp p (get_or (order table e) l d)) one) ∙ Less-from_sorted pair_cmp (order table e) k l d (table_in_order table e) less within)
