use Rattle.std.proofs.Common.{◌≡◌, ℕ, ◌<◌, drop}
use Rattle.ndx_index.specs.Slots.{slot_at}
use Rattle.ndx_index.proofs.pair_list.alike.end_alike.Given as goal

abbrev pub invariant-loop-at : goal.invariant-loop-at
invariant-loop-at l = record { alike : (k : ℕ) → k < l.at → drop l.start (slot_at l.pairs.pairs k).key ≡ drop l.start (slot_at l.pairs.pairs 0).key }
