use Rattle.ndx_index.proofs.BoundLaws.{from_zero}
use Rattle.ndx_index.proofs.pages.bound.Bound.reaching.Goals as goal

pub returns : goal.returns
returns c = record { test = from_zero c.args.prefix.now }
