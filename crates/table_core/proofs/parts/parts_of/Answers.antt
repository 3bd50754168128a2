use Rattle.std.proofs.Common.{◌∙◌, ℕ, List, length, ap, subst, sym}
use Rattle.key_expr.specs.Keys.{key_length}
use Rattle.ndx_index.specs.declared.pair.Pair.{Pair}
use Rattle.ndx_index.specs.Index.{HaveLength}
use Rattle.ndx_index.specs.Order.{AreInOrder}
use Rattle.table_order.specs.Laws.RecordOrders.{length-order}
use Rattle.table_core.proofs.parts.parts_of.Goals as goal

pub returns-clause-fits : goal.returns-clause-fits
returns-clause-fits c =
    let table = c.args.records.now.table in
    let expr = c.args.index.expr in
    let copied = c.in_ok-pairs.ensures in
    record {
      fields = c.requires.follows.is_for.fields;
      count = ap length (copied.pairs ∙ c.requires.follows.pairs) ∙ length-order table expr.expr;
      keys = subst (λ (l : List Pair). HaveLength (key_length expr.fields expr.expr) l) (sym copied.pairs)
          (subst (λ (n : ℕ). HaveLength n c.args.index.order.pairs) c.requires.follows.is_for.long copied.keys);
      ordered = subst AreInOrder (sym copied.pairs) copied.ordered;
    }
