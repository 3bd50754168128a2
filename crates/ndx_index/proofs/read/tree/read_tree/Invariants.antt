use Rattle.std.proofs.Common.{◌≡◌}
use Rattle.ndx_index.specs.Walks.{work_of}
use Rattle.ndx_index.proofs.TreeReading.{State}
use Rattle.ndx_index.proofs.read.tree.read_tree.Given as goal

abbrev pub invariant-loop-slots : goal.invariant-loop-slots
invariant-loop-slots l = record {
  state : State l.fn.layout l.fn.bytes l.fn.root l.walk l.slots.pairs;
  key_len : l.slots.key_len ≡ l.fn.layout.key_len;
}

abbrev pub decreases-loop-slots : goal.decreases-loop-slots
decreases-loop-slots l = work_of l.walk
