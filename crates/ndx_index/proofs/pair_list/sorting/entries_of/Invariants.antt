use Rattle.std.proofs.Common.{◌≡◌, ℕ, ◌<◌, drop, map}
use Rattle.ndx_index.specs.Places.{counted}
use Rattle.ndx_index.specs.Slots.{slot_at}
use Rattle.ndx_index.specs.Sorting.{entry_of_place, AreBytes}
use Rattle.ndx_index.proofs.pair_list.sorting.entries_of.Given as goal

abbrev pub invariant-loop-place : goal.invariant-loop-place
invariant-loop-place l = record {
  entries : l.entries.items ≡ map (entry_of_place l.start l.pairs.pairs) (counted 0 l.place);
  bytes : (k : ℕ) → k < l.place → AreBytes (drop l.start (slot_at l.pairs.pairs k).key);
}
