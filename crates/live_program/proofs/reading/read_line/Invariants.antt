use Rattle.live_program.specs.Reading.{HasPart}
use Rattle.live_program.proofs.reading.read_line.Given as goal

abbrev pub invariant-pieces : goal.invariant-pieces
invariant-pieces g l = HasPart (g.R.Read.remaining l.initial.reader) (g.R.Read.remaining l.reader) l.line.too_long l.line.bytes.items
