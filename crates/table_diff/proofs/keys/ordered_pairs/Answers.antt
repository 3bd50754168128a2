use Rattle.std.proofs.Common.{List, sym, subst, ap, ◌∙◌}
use Rattle.std.specs.List.{IsDistinct}
use Rattle.ndx_index.specs.declared.pair.Pair.{Pair}
use Rattle.ndx_index.specs.Laws.Given.{in_order_already}
use Rattle.ndx_index.specs.Order.{in_order, same}
use Rattle.table_order.specs.Laws.RecordPairs.{pairs_distinct}
use Rattle.table_diff.proofs.keys.ordered_pairs.Goals as goal

pub returns-then-is_in_order : goal.returns-then-is_in_order
returns-then-is_in_order c =
    let ps : List Pair = c.in_ok-pairs.pairs.pairs in
    record { pairs = sym (in_order_already ps (c.is_in_order.ensures.value.0 c.if-is_in_order.true)) ∙ ap in_order c.in_ok-pairs.ensures.pairs }

pub from_pairs-requires : goal.from_pairs-requires
from_pairs-requires c = record {
  distinct = subst (λ (ps : List Pair). IsDistinct same ps) (sym c.in_ok-pairs.ensures.pairs) (pairs_distinct c.args.table.now.table.rows c.args.key.now.expr 1);
}
