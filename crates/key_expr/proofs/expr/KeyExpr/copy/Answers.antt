use Rattle.key_expr.proofs.expr.KeyExpr.copy.Goals as goal

pub invariant_of-result : goal.invariant_of-result
invariant_of-result c = record {
  schema = rw c.in_ok-copy.ensures.value c.self.invariant.schema;
  read = rw (c.in_ok-from_slice.ensures.items, c.as_slice.ensures.value, c.in_ok-copy.ensures.value, c.in_ok-copy-2.ensures.value) c.self.invariant.read;
  lengths = rw c.in_ok-copy.ensures.value (c.in_ok-copy-2.ensures.lengths c.self.inside.schema c.self.invariant.lengths);
  long = rw (c.in_ok-copy.ensures.value, c.in_ok-copy-2.ensures.value) c.self.invariant.long;
}
