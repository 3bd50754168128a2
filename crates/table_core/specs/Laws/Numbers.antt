-- The record numbers of an order, and where they stand.
use Rattle.std.proofs.Common.{◌≡◌, ℕ, zero, suc, ◌+◌, ◌<◌, ◌≤◌, Bool, true, false, cond, List, length, Contains, Option, Some, None, refl, sym, ◌∙◌, arith}
use Rattle.std.specs.Prelude.{◌==◌}
use Rattle.std.specs.List.{slice_get}
use Rattle.std.specs.Option.{option_map}
use Rattle.std.proofs.lemmas.Option.{slice_get-map, slice_get-get_or, slice_get_within}
use Rattle.dbf_image.specs.Table.{Table}
use Rattle.key_expr.specs.Grammar.{Expr}
use Rattle.ndx_index.specs.declared.pair.Pair.{Pair}
use Rattle.table_order.specs.Laws.RecordOrders.{record_there}
use Rattle.ndx_index.specs.Places.{counted}
use Rattle.table_order.specs.TableOrder.{order, ordered}
use Rattle.table_core.specs.Content.{Content, Indexed, record_count, index_at}
use Rattle.table_core.specs.Cursors.{IsCursorPlace}
use Rattle.table_core.specs.Moves.{by_index, numbers}

-- ---- the order of the record numbers

counted_inside : (n from k m : ℕ) → slice_get (counted from n) k ≡ Some m → (from ≤ m) × (m < from + n)
counted_inside zero from k m at = cc
counted_inside (suc n) from zero m at = let e : from ≡ m = cc in (omega arith, omega arith)
counted_inside (suc n) from (suc k) m at = let h = counted_inside n (from + 1) k m at in (omega (arith, h.0), omega (arith, h.1))

-- ---- the order of an index

contains_at : (ps : List Pair) (i : ℕ) (p : Pair) → slice_get ps i ≡ Some p → Contains ps p
contains_at ps i p at =
    let inside : i < length ps = slice_get_within ps i p at in
    let is = slice_get-get_or ps i p inside in
    (i, inside, cc)

ordered_inside : (table : Table) (e : Expr) (i m : ℕ) → slice_get (ordered table e) i ≡ Some m → (1 ≤ m) × (m ≤ length table.rows)
ordered_inside table e i m at = by (slice_get (order table e) i) refl (sym (slice_get-map (λ (q : Pair). q.number) (order table e) i) ∙ at)
  where
    by : (o : Option Pair) → slice_get (order table e) i ≡ o → option_map (λ (q : Pair). q.number) o ≡ Some m → (1 ≤ m) × (m ≤ length table.rows)
    by None is h = cc
    by (Some p) is h =
        let e' : p.number ≡ m = cc in
        let there = record_there table e p (contains_at (order table e) i p is) in
        (omega (arith, there.some, e'), omega (arith, there.inside, e'))

-- ---- every order

by_index_inside : (content : Content) (o : Option Indexed) (i m : ℕ) → slice_get (by_index content o) i ≡ Some m → (1 ≤ m) × (m ≤ record_count content)
by_index_inside content None i m at = cc
by_index_inside content (Some index) i m at = ordered_inside content.table index.expr.expr i m at

pub numbers_inside : (content : Content) (by i m : ℕ) → slice_get (numbers content by) i ≡ Some m → (1 ≤ m) × (m ≤ record_count content)
numbers_inside content by i m at = inside (by == 0) at
  where
    inside : (b : Bool) → slice_get (cond b (counted 1 (record_count content)) (by_index content (index_at content by))) i ≡ Some m → (1 ≤ m) × (m ≤ record_count content)
    inside true h = let in_count = counted_inside (record_count content) 1 i m h in (in_count.0, omega (arith, in_count.1))
    inside false h = by_index_inside content (index_at content by) i m h

-- what stands at a place of an order is a record, or the end
pub is_place : (content : Content) (order i : ℕ) → IsCursorPlace content (slice_get (numbers content order) i)
is_place content order i = by (slice_get (numbers content order) i) refl
  where
    by : (o : Option ℕ) → slice_get (numbers content order) i ≡ o → IsCursorPlace content o
    by None at = tt
    by (Some m) at = numbers_inside content order i m at
