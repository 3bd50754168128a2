use Rattle.std.proofs.Common.{◌∷◌, ap, arith, length}
use Rattle.live_log.specs.declared.gates.TheConstants.{OPEN_GATE}
use Rattle.live_log.proofs.LineLaws.{unread_then}
use Rattle.live_log.proofs.lines.read_lines.Goals as goal

pub returns-in-Err-clause-refused : goal.returns-in-Err-clause-refused
returns-in-Err-clause-refused c =
    unread_then c.args.read.now c.reading.read (OPEN_GATE ∷ c.args.text.now) c.reading.rest.now c.in-Some.gated.now c.in-Err.fault c.reading.invariant.read c.in-Some.ensures.found c.in-Err.ensures.refused

pub reading-smaller : goal.reading-smaller
reading-smaller c = omega (arith, ap length c.in-Some.ensures.found, c.in-Ok.ensures.shorter)
