use Rattle.std.proofs.Common.{◌≡◌, take}
use Rattle.ndx_index.proofs.pair_list.alike.start_of_two.Given as goal

abbrev pub invariant-loop-at : goal.invariant-loop-at
invariant-loop-at l = record { alike : take l.at l.a ≡ take l.at l.b }
