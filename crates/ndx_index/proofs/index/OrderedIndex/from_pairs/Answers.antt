use Rattle.std.proofs.Common.{subst, sym}
use Rattle.ndx_index.specs.Order.{AreInOrder}
use Rattle.ndx_index.specs.Laws.Given.{in_order_already}
use Rattle.ndx_index.specs.Laws.Sorting.{order_from_distinct}
use Rattle.ndx_index.proofs.index.OrderedIndex.from_pairs.Goals as goal

pub returns-then-is_in_order-clause-pairs : goal.returns-then-is_in_order-clause-pairs
returns-then-is_in_order-clause-pairs c =
    let same = in_order_already c.args.pairs.pairs (c.is_in_order.ensures.value.0 c.if-is_in_order.true) in rw (← same) at c.from_sorted.ensures.pairs

pub from_sorted-requires-2 : goal.from_sorted-requires-2
from_sorted-requires-2 c = record {
  ordered = subst AreInOrder (sym c.in_ok-list.ensures.pairs) (order_from_distinct c.args.pairs.pairs c.requires.distinct);
}
