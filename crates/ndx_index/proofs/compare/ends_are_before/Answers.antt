use Rattle.ndx_index.proofs.KeyNumbers.{by_fronts}
use Rattle.ndx_index.proofs.compare.ends_are_before.Goals as goal

pub returns-else-front-other : goal.returns-else-front-other
returns-else-front-other c = record {
  decided = by_fronts c.args.a.now c.args.b.now _ _ c.if-a-lt8.false c.if-b-lt8.false (λ k. (c.type_inv.a k).fits) (λ k. (c.type_inv.b k).fits) c.read_u64-front.ensures c.read_u64-other.ensures c.if-front-other.false;
}
