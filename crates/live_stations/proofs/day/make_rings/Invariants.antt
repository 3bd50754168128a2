use Rattle.std.proofs.Common.{◌≡◌, length}
use Rattle.live_stations.specs.Stations.{AreRings}
use Rattle.live_stations.proofs.day.make_rings.Given as goal

abbrev pub invariant-loop-index : goal.invariant-loop-index
invariant-loop-index l = record {
  rings : AreRings 1 l.hearings.items l.answers.items l.stations.items;
  many : length l.hearings.items ≡ l.index;
}
