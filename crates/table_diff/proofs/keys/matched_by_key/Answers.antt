use Rattle.std.proofs.Common.{sym, subst}
use Rattle.ndx_index.specs.Order.{AreInOrder}
use Rattle.table_order.specs.Laws.RecordOrders.{table_in_order}
use Rattle.table_diff.proofs.keys.matched_by_key.Goals as goal

pub matched-requires-clause-old_order : goal.matched-requires-clause-old_order
matched-requires-clause-old_order c = subst AreInOrder (sym c.in_ok-olds.ensures.pairs) (table_in_order c.args.old_table.now.table c.args.old_key.now.expr)

pub matched-requires-clause-new_order : goal.matched-requires-clause-new_order
matched-requires-clause-new_order c = subst AreInOrder (sym c.in_ok-news.ensures.pairs) (table_in_order c.args.new_table.now.table c.args.new_key.now.expr)
