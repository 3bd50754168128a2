use Rattle.std.proofs.Common.{◌≡◌, ℕ, ◌<◌, ◌≤◌, take}
use Rattle.ndx_index.specs.Slots.{slot_at}
use Rattle.ndx_index.proofs.pair_list.alike.common_start.Given as goal

abbrev pub invariant-loop-at : goal.invariant-loop-at
invariant-loop-at l = record {
  alike : (k : ℕ) → k < l.at → take l.common (slot_at l.pairs.pairs k).key ≡ take l.common (slot_at l.pairs.pairs 0).key;
  inside : l.common ≤ l.pairs.key_len;
}
