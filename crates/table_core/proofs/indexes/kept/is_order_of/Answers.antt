use Rattle.std.proofs.Common.{arith}
use Rattle.table_order.specs.Laws.Given.{order_from_pairs}
use Rattle.table_core.proofs.indexes.kept.is_order_of.Goals as goal

pub returns-clause-order : goal.returns-clause-order
returns-clause-order c = λ own.
    order_from_pairs c.args.records.now.table c.args.expr.now.expr c.args.pairs.now.pairs (omega (arith, c.len.ensures.count, c.record_count.ensures.count))
    (c.is_in_order.ensures.value.0 c.if-not-is_in_order.false) (c.are_record_pairs.ensures.value.0 own)
