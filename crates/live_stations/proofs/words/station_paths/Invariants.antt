use Rattle.std.proofs.Common.{◌≡◌}
use Rattle.live_stations.specs.Setups.{scripts_in}
use Rattle.live_stations.proofs.words.station_paths.Given as goal

abbrev pub invariant-loop-entry : goal.invariant-loop-entry
invariant-loop-entry l = l.paths.items ≡ scripts_in l.yielded
