use Rattle.std.proofs.Common.{arith}
use Rattle.station_lines.proofs.BoundLaws.{commas_short}
use Rattle.station_lines.proofs.line_bounds.numbers_bound.Goals as goal

pub returns : goal.returns
returns c = record { bound = λ small. omega (arith, commas_short c.args.numbers.now (λ k h. (c.type_inv.numbers k).fits)) }
