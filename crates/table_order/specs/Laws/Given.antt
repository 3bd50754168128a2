-- Pairs that were given, as a file's: when they are the order of a table.
use Rattle.std.proofs.Common.{◌≡◌, List, length, Contains, sym, subst, arith}
use Rattle.std.specs.Prelude.{◌↔◌}
use Rattle.std.specs.List.{AllByRecursion}
use Rattle.std.specs.List.Sorted.{IsPermutation}
use Rattle.std.proofs.lemmas.List.Sorted.{IsPermutation-sym, IsPermutation-trans}
use Rattle.dbf_image.specs.Table.{Table}
use Rattle.key_expr.specs.Grammar.{Expr}
use Rattle.ndx_index.specs.declared.pair.Pair.{Pair}
use Rattle.ndx_index.specs.Order.{in_order, AreInOrder}
use Rattle.table_order.specs.TableOrder.{pairs_of, order, IsRecordPair}
use Rattle.ndx_index.specs.Laws.Given.{all_contained, all_there}
use Rattle.ndx_index.specs.Laws.Lists.{all_weaker}
use Rattle.ndx_index.specs.Laws.Sorting.{in_order-IsPermutation, IsPermutation-in_order}
use Rattle.table_order.specs.Laws.RecordOrders.{table_in_order, length-order, pair_there, record_there}

-- pairs in order, each that of its record and as many as there are records, are the order of the table
pub order_from_pairs : (table : Table) (e : Expr) (ps : List Pair) → length ps ≡ length table.rows → AreInOrder ps → AllByRecursion (IsRecordPair table e) ps → ps ≡ order table e
order_from_pairs table e ps long sorted own =
    all_there ps (order table e) sorted (table_in_order table e)
    (all_weaker (IsRecordPair table e) (Contains (order table e)) (λ p h. subst (Contains (order table e)) (sym h.own) (pair_there table e p.number h.some h.inside)) ps own)
    (omega (arith, length-order table e))

-- each pair of the order is that of its record
pub order_own : (table : Table) (e : Expr) → AllByRecursion (IsRecordPair table e) (order table e)
order_own table e = all_contained (IsRecordPair table e) (order table e) (record_there table e)

-- the table's pairs, each as often, are those that put in order are the order of the table
pub order_of_pairs : (table : Table) (e : Expr) (ps : List Pair) → (in_order ps ≡ order table e) ↔ IsPermutation (pairs_of table e) ps
order_of_pairs table e ps = (
  λ same. IsPermutation-trans (pairs_of table e) (order table e) ps (IsPermutation-in_order (pairs_of table e))
      (subst (λ xs. IsPermutation xs ps) same (IsPermutation-sym ps (in_order ps) (IsPermutation-in_order ps))),
  λ perm. sym (in_order-IsPermutation (pairs_of table e) ps perm),
)
