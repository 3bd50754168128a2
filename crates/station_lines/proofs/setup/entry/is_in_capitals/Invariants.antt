use Rattle.std.proofs.Common.{◌≡◌, length}
use Rattle.std.specs.Prelude.{bytes_eq}
use Rattle.station_lines.specs.Script.Parts.{capitals}
use Rattle.station_lines.proofs.setup.entry.is_in_capitals.Given as goal

-- what is left of both decides
abbrev pub invariant-loop-letter : goal.invariant-loop-letter
invariant-loop-letter l = record {
  same : bytes_eq l.name (capitals l.word) ≡ bytes_eq l.letter-iterator.a.rest.now (capitals l.letter-iterator.b.rest.now);
  long : length l.letter-iterator.a.rest.now ≡ length l.letter-iterator.b.rest.now;
}
