use Rattle.std.proofs.Common.{◌≡◌, length, reverse}
use Rattle.station_lines.specs.Script.Reading.{without_gaps}
use Rattle.station_lines.proofs.script.end.without_end_gaps.Given as goal

abbrev pub invariant-loop-rest : goal.invariant-loop-rest
invariant-loop-rest l = without_gaps (reverse l.rest) ≡ without_gaps (reverse l.text)

abbrev pub decreases-loop-rest : goal.decreases-loop-rest
decreases-loop-rest l = length l.rest
