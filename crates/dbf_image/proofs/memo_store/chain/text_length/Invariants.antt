use Rattle.std.proofs.Common.{◌-◌}
use Rattle.dbf_image.specs.MemoChains.{block_at, Counts}
use Rattle.dbf_image.proofs.memo_store.chain.text_length.Given as goal

abbrev pub invariant-lengths : goal.invariant-lengths
invariant-lengths l = Counts l.number (block_at l.blocks (l.number - 1)).count l.blocks (l.number - 1) l.left l.at l.length

abbrev pub decreases-lengths : goal.decreases-lengths
decreases-lengths l = l.left
