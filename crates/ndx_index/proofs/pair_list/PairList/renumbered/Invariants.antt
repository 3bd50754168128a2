use Rattle.std.proofs.Common.{◌≡◌, ◌+◌, ◌≤◌, take}
use Rattle.ndx_index.specs.Renumbered.{renumbered}
use Rattle.ndx_index.proofs.pair_list.PairList.renumbered.Given as goal

abbrev pub invariant-loop-at : goal.invariant-loop-at
invariant-loop-at l = record {
  pairs : l.slots.pairs ≡ renumbered l.numbers (take l.at l.self.pairs);
  key_len : l.slots.key_len ≡ l.self.key_len;
  room : l.count ≤ l.slots.spare + l.at;
}
