use Rattle.std.proofs.Common.{arith}
use Rattle.station_lines.proofs.BoundLaws.{number_short}
use Rattle.station_lines.proofs.line_bounds.number_bound.Goals as goal

pub returns : goal.returns
returns c = record { bound = omega (arith, number_short c.args.number (omega arith)) }
