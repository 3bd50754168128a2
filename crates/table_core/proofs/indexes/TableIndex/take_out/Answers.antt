use Rattle.std.proofs.Common.{ap, ◌∙◌}
use Rattle.ndx_index.specs.declared.pair.Pair.{Pair}
use Rattle.ndx_index.specs.Order.{without_pair}
use Rattle.table_order.specs.TableOrder.{pair_at}
use Rattle.table_order.specs.Laws.RecordOrders.{order_take}
use Rattle.table_core.proofs.indexes.TableIndex.take_out.Goals as goal

pub returns-clause-rest : goal.returns-clause-rest
returns-clause-rest c =
    let table = c.args.records.now.table in
    let index = c.args.self.now in
    let follows = c.requires.follows in
    record {
      is_for = record { fields = follows.is_for.fields; kept = follows.is_for.kept; long = c.remove.ensures.key_len ∙ follows.is_for.long };
      pairs = c.remove.ensures.pairs ∙ ap (λ (p : Pair). without_pair p index.order.pairs) c.pair_of.ensures.value
          ∙ ap (without_pair (pair_at table c.args.number index.expr.expr)) follows.pairs
          ∙ order_take table index.expr.expr c.args.number c.requires.one c.requires.inside;
    }
