use Rattle.std.proofs.Common.{◌≡◌, drop}
use Rattle.std.specs.Prelude.{fold}
use Rattle.station_lines.specs.Script.Reading.{quote_after}
use Rattle.station_lines.proofs.script.bad_line.open_quote.Given as goal

abbrev pub invariant-loop-byte : goal.invariant-loop-byte
invariant-loop-byte l = fold quote_after l.quote (drop l.byte-index l.line) ≡ fold quote_after 0 l.line
