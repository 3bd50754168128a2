use Rattle.std.proofs.Common.{ℕ}
use Rattle.std.proofs.lemmas.List.{take-replicate}
use Rattle.ndx_index.specs.declared.format.TheConstants.{PAGE}
use Rattle.ndx_index.proofs.write.pieces.put_zeros.Goals as goal

pub returns : goal.returns
returns g c = record { put = (c.put.ensures.put.0, rw (← take-replicate {X = ℕ} c.args.n PAGE 0 c.requires.within) c.put.ensures.put.1) }
