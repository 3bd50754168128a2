use Rattle.std.proofs.Common.{◌≡◌, ◌≤◌, ◌+◌, ◌-◌, length}
use Rattle.station_lines.specs.Script.Reading.{word_length}
use Rattle.station_lines.proofs.script.word.word_length.Given as goal

abbrev pub invariant-loop-rest : goal.invariant-loop-rest
invariant-loop-rest l = record {
  whole : (length l.text - length l.rest) + word_length l.quote l.rest ≡ word_length 0 l.text;
  short : length l.rest ≤ length l.text;
}

abbrev pub decreases-loop-rest : goal.decreases-loop-rest
decreases-loop-rest l = length l.rest
