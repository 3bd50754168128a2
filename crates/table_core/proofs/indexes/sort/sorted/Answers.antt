use Rattle.std.proofs.Common.{List, sym, subst}
use Rattle.std.specs.List.{IsDistinct}
use Rattle.ndx_index.specs.declared.pair.Pair.{Pair}
use Rattle.ndx_index.specs.Order.{same}
use Rattle.table_order.specs.Laws.RecordPairs.{pairs_distinct}
use Rattle.table_core.proofs.indexes.sort.sorted.Goals as goal

pub from_pairs-requires : goal.from_pairs-requires
from_pairs-requires c = record {
  distinct = subst (λ (ps : List Pair). IsDistinct same ps) (sym c.in_ok-pairs.ensures.pairs) (pairs_distinct c.args.records.now.table.rows c.args.expr.now.expr 1);
}
