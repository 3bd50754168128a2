use Rattle.std.proofs.Common.{◌≡◌, ◌≤◌, ◌+◌, ◌*◌, take}
use Rattle.std.specs.Prelude.{sum_by}
use Rattle.dbf_image.specs.declared.format.TheConstants.{MAX_MEMO_BLOCKS}
use Rattle.dbf_image.specs.Blocks.{blocks_of}
use Rattle.dbf_image.specs.Store.{text_of}
use Rattle.dbf_image.proofs.dbt.blocks.blocks_after.Given as goal

abbrev pub invariant-loop-number : goal.invariant-loop-number
invariant-loop-number l = record {
  counted : l.next ≡ 1 + sum_by (λ n. blocks_of (text_of l.fn.store.texts.now.texts n)) (take l.number-index l.fn.store.memos.now);
  bounded : l.next ≤ 1 + MAX_MEMO_BLOCKS * l.number-index;
}
