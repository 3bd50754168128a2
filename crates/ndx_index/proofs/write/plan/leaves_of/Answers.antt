use Rattle.std.proofs.Common.{arith}
use Rattle.ndx_index.specs.ListParts.{listed}
use Rattle.ndx_index.proofs.Planning.{leaves_of_some}
use Rattle.ndx_index.proofs.write.plan.leaves_of.Goals as goal

pub returns-else-len-eq0-clause-count : goal.returns-else-len-eq0-clause-count
returns-else-len-eq0-clause-count c =
    rw c.len-else-len-eq0.ensures.count
    (leaves_of_some c.args.shape.keys (listed c.args.pairs) (omega (arith, c.args.shape.fits.some)) (omega (arith, c.len.ensures.count, c.if-len-eq0.false)))
