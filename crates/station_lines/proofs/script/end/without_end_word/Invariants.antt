use Rattle.std.proofs.Common.{◌≡◌, ◌≤◌, length, reverse}
use Rattle.station_lines.specs.Script.Reading.{from_gap}
use Rattle.station_lines.proofs.script.end.without_end_word.Given as goal

abbrev pub invariant-loop-rest : goal.invariant-loop-rest
invariant-loop-rest l = record {
  same : from_gap (reverse l.rest) ≡ from_gap (reverse l.text);
  short : length l.rest ≤ length l.text;
}

abbrev pub decreases-loop-rest : goal.decreases-loop-rest
decreases-loop-rest l = length l.rest
