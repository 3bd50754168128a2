use Rattle.std.proofs.Common.{◌≡◌, length, map, vec_capacity, vec_len}
use Rattle.live_stations.specs.Stations.{printing_of, HavePrinted}
use Rattle.live_stations.proofs.threads.join_printers.Given as goal

abbrev pub invariant-loop-thread : goal.invariant-loop-thread
invariant-loop-thread g l = record {
  printed : HavePrinted g.T.Screen.Write.contents g.T.Terminals.reads (map (λ h. printing_of h.promise) l.yielded) l.room.items;
  room : vec_capacity l.room ≡ vec_capacity l.initial.room;
  many : vec_len l.room ≡ length l.yielded;
}
