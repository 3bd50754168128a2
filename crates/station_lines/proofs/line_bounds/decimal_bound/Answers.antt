use Rattle.station_lines.proofs.BoundLaws.{written_short}
use Rattle.station_lines.proofs.line_bounds.decimal_bound.Goals as goal

pub returns : goal.returns
returns c = record { bound = rw c.from.ensures (written_short c.args.digits c.args.scale c.ranges.digits.sfits) }
