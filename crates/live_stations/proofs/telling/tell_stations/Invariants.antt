use Rattle.std.proofs.Common.{take}
use Rattle.std.specs.Io.KnownBytes.{Appends}
use Rattle.live_stations.specs.Tellings.{stations_text}
use Rattle.live_stations.proofs.telling.tell_stations.Given as goal

abbrev pub invariant-loop-index : goal.invariant-loop-index
invariant-loop-index g l = Appends (g.W.Write.contents l.initial.out) (g.W.Write.contents l.out) (stations_text 1 (take l.index l.stations))
