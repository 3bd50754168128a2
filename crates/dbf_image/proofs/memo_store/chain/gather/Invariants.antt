use Rattle.std.proofs.Common.{◌-◌, ◌≤◌, length, vec_capacity}
use Rattle.dbf_image.specs.MemoChains.{block_at, text_from, Gathers}
use Rattle.dbf_image.proofs.memo_store.chain.gather.Given as goal

abbrev pub invariant-pieces : goal.invariant-pieces
invariant-pieces l =
    let head = l.number - 1 in
    let count = (block_at l.blocks head).count in
    record {
      gathered : Gathers l.number count l.blocks head l.left l.at l.text.items;
      room : length (text_from count l.blocks head) ≤ vec_capacity l.text;
    }

abbrev pub decreases-pieces : goal.decreases-pieces
decreases-pieces l = l.left
