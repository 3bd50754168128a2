use Rattle.std.proofs.Common.{List}
use Rattle.dbf_image.specs.declared.memo_store.block.MemoBlock.{MemoBlock}
use Rattle.dbf_image.specs.declared.memo_store.block.FreeList.{FreeList}
use Rattle.dbf_image.specs.MemoSteps.{CanFill, Fills}
use Rattle.dbf_image.proofs.memo_store.chain.fill.Given as goal

-- what is left can be written, and then the whole text is
abbrev pub invariant-write : goal.invariant-write
invariant-write l = record {
  can : CanFill l.blocks l.rest l.owner l.left l.more;
  whole : (zs : List MemoBlock) (after : FreeList) → Fills l.blocks zs l.rest after l.owner l.left l.more → Fills l.fn.blocks zs l.fn.free after l.owner l.count l.text;
}

abbrev pub decreases-write : goal.decreases-write
decreases-write l = l.left
