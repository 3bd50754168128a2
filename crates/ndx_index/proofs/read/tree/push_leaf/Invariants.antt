use Rattle.std.proofs.Common.{◌≡◌, ◌+◌, ◌≤◌, ◌++◌}
use Rattle.ndx_index.specs.Pages.{leaf_pairs}
use Rattle.ndx_index.proofs.read.tree.push_leaf.Given as goal

abbrev pub invariant-loop-i : goal.invariant-loop-i
invariant-loop-i l = record {
  pairs : l.pairs.pairs ≡ l.fn.pairs.pairs ++ leaf_pairs l.leaf.layout l.leaf.bytes.now l.i;
  key_len : l.pairs.key_len ≡ l.fn.pairs.key_len;
  room : l.leaf.count ≤ l.pairs.spare + l.i;
}
