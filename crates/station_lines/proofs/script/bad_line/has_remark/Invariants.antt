use Rattle.std.proofs.Common.{◌≡◌, length}
use Rattle.station_lines.specs.Script.BadLines.{has_remark}
use Rattle.station_lines.proofs.script.bad_line.has_remark.Given as goal

abbrev pub invariant-loop-rest : goal.invariant-loop-rest
invariant-loop-rest l = has_remark l.quote l.rest ≡ has_remark 0 l.line

abbrev pub decreases-loop-rest : goal.decreases-loop-rest
decreases-loop-rest l = length l.rest
