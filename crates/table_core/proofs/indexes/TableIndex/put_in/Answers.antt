use Rattle.std.proofs.Common.{List, Contains, ap, sym, subst, ◌∙◌}
use Rattle.ndx_index.specs.declared.pair.Pair.{Pair}
use Rattle.ndx_index.specs.Order.{with_pair}
use Rattle.table_order.specs.TableOrder.{pair_at}
use Rattle.table_order.specs.Laws.RecordOrders.{absent_but, order_put}
use Rattle.table_core.proofs.indexes.TableIndex.put_in.Goals as goal

pub insert-requires-clause-absent : goal.insert-requires-clause-absent
insert-requires-clause-absent c = λ there.
    absent_but c.args.records.now.table c.args.self.now.expr.expr c.args.number c.pair_of.result c.requires.one (ap (λ (p : Pair). p.number) c.pair_of.ensures.value)
    (subst (λ (ps : List Pair). Contains ps c.pair_of.result) c.requires.rest.pairs there)

pub returns-clause-follows : goal.returns-clause-follows
returns-clause-follows c =
    let table = c.args.records.now.table in
    let index = c.args.self.now in
    let rest = c.requires.rest in
    record {
      is_for = record { fields = rest.is_for.fields; kept = rest.is_for.kept; long = c.insert.ensures.key_len ∙ rest.is_for.long };
      pairs = c.insert.ensures.pairs ∙ ap (λ (p : Pair). with_pair p index.order.pairs) c.pair_of.ensures.value
          ∙ ap (with_pair (pair_at table c.args.number index.expr.expr)) rest.pairs
          ∙ sym (order_put table index.expr.expr c.args.number c.requires.one c.requires.inside);
    }
