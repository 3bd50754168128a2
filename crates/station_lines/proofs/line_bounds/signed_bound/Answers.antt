use Rattle.std.proofs.Common.{arith}
use Rattle.station_lines.proofs.BoundLaws.{signed_short}
use Rattle.station_lines.proofs.line_bounds.signed_bound.Goals as goal

pub returns : goal.returns
returns c = record { bound = omega (arith, signed_short c.args.number c.ranges.number.sfits) }
