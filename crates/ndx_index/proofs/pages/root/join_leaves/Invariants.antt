use Rattle.std.proofs.Common.{◌≡◌}
use Rattle.ndx_index.proofs.Leaves.{HasLeaves}
use Rattle.ndx_index.proofs.pages.root.join_leaves.Given as goal

abbrev pub invariant-loop-leaf : goal.invariant-loop-leaf
invariant-loop-leaf l = record {
  has : HasLeaves l.fn.store.pages l.store.pages l.root l.leaf;
  key_len : l.store.key_len ≡ l.fn.store.key_len;
}
