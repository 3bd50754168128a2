use Rattle.station_lines.proofs.BoundLaws.{refusal_short}
use Rattle.station_lines.proofs.line_bounds.refusal_bound.Goals as goal

pub returns : goal.returns
returns c = record { bound = refusal_short c.args.refusal }
