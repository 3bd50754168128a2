use Rattle.std.proofs.Common.{List, refl, sym, subst}
use Rattle.std.specs.List.Sorted.{IsPermutation}
use Rattle.ndx_index.specs.declared.pair.Pair.{Pair}
use Rattle.ndx_index.specs.Order.{AreInOrder}
use Rattle.table_order.specs.TableOrder.{pairs_of}
use Rattle.table_order.specs.Laws.RecordOrders.{table_in_order}
use Rattle.ndx_index.specs.Laws.Sorting.{IsPermutation-in_order}
use Rattle.table_core.proofs.indexes.TableIndex.kept.Goals as goal

pub from_sorted-requires : goal.from_sorted-requires
from_sorted-requires c =
    let is = c.is_order_of.ensures.order c.if-is_order_of.true in
    record { ordered = subst (λ (ps : List Pair). AreInOrder ps) (sym is) (table_in_order c.args.records.now.table c.args.expr.expr) }

pub returns-in-Ok-clause-whole : goal.returns-in-Ok-clause-whole
returns-in-Ok-clause-whole c =
    let all : List Pair = pairs_of c.args.records.now.table c.args.expr.expr in
    let is = c.is_order_of.ensures.order c.if-is_order_of.true in
    (λ _. subst (λ (ps : List Pair). IsPermutation all ps) (sym is) (IsPermutation-in_order all), λ _. refl)

pub returns-in-Err-clause-tested : goal.returns-in-Err-clause-tested
returns-in-Err-clause-tested c =
    let all : List Pair = pairs_of c.args.records.now.table c.args.expr.expr in
    let is = c.is_order_of.ensures.order c.if-is_order_of.true in
    subst (λ (ps : List Pair). IsPermutation all ps) (sym is) (IsPermutation-in_order all)
