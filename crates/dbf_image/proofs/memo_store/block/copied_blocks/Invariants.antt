use Rattle.std.proofs.Common.{◌≡◌, take}
use Rattle.dbf_image.proofs.memo_store.block.copied_blocks.Given as goal

abbrev pub invariant-copy : goal.invariant-copy
invariant-copy l = l.copied.items ≡ take l.block-index l.blocks
