use Rattle.std.proofs.Common.{◌≡◌, take}
use Rattle.key_expr.specs.Keys.{key_length}
use Rattle.table_order.specs.TableOrder.{pairs_of}
use Rattle.table_order.proofs.pairs.record_pairs.Given as goal

abbrev pub invariant-loop-index : goal.invariant-loop-index
invariant-loop-index l = record {
  pairs : l.pairs.pairs ≡ take l.index (pairs_of l.records.table l.expr.expr);
  key_len : l.pairs.key_len ≡ key_length l.expr.fields l.expr.expr;
}
