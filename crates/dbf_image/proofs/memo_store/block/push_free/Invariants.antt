use Rattle.std.proofs.Common.{◌≡◌, ◌+◌, length, vec_capacity}
use Rattle.dbf_image.specs.MemoChains.{IsChain, Grown}
use Rattle.dbf_image.proofs.memo_store.block.push_free.Given as goal

abbrev pub invariant-push : goal.invariant-push
invariant-push l = record {
  grown : Grown l.fn.blocks.items l.blocks.items;
  longer : length l.blocks.items ≡ length l.fn.blocks.items + l.i;
  count : l.all.count ≡ l.fn.free.count + l.i;
  chain : IsChain 0 l.all.count l.blocks.items l.all.head;
  capacity : vec_capacity l.blocks ≡ vec_capacity l.fn.blocks;
}
