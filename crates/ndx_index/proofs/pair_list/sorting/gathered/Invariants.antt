use Rattle.std.proofs.Common.{◌≡◌, ◌+◌, ◌≤◌, length, map, take}
use Rattle.ndx_index.specs.Sorting.{pair_of_entry}
use Rattle.ndx_index.proofs.pair_list.sorting.gathered.Given as goal

abbrev pub invariant-loop-entry : goal.invariant-loop-entry
invariant-loop-entry l = record {
  pairs : l.slots.pairs ≡ map (pair_of_entry l.pairs.pairs) (take l.entry-index l.entries);
  key_len : l.slots.key_len ≡ l.pairs.key_len;
  room : length l.entries ≤ l.slots.spare + l.entry-index;
}
