use Rattle.std.proofs.Common.{◌≡◌, length, map, vec_capacity, vec_len}
use Rattle.live_stations.specs.Stations.{typing_of, HaveTyped}
use Rattle.live_stations.proofs.threads.join_typists.Given as goal

abbrev pub invariant-loop-thread : goal.invariant-loop-thread
invariant-loop-thread g l = record {
  typed : HaveTyped g.T.Keyboard.Keyboard.typed g.T.Terminals.types (map (λ h. typing_of h.promise) l.yielded) l.room.items;
  room : vec_capacity l.room ≡ vec_capacity l.initial.room;
  many : vec_len l.room ≡ length l.yielded;
}
