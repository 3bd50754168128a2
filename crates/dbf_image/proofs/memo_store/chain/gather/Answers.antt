use Rattle.std.proofs.Common.{◌≡◌, ◌-◌, ◌++◌, ℕ, List, length, suc, ap, sym, subst, ◌∙◌, arith}
use Rattle.std.proofs.lemmas.List.{get_or_default}
use Rattle.dbf_image.specs.declared.memo_store.block.MemoBlock.{MemoBlock}
use Rattle.dbf_image.specs.MemoChains.{no_block, block_at, Gathers}
use Rattle.dbf_image.proofs.MemoFrame.{gathers_more, piece_inside}
use Rattle.dbf_image.proofs.memo_store.chain.gather.Goals as goal

pub extend_reserved-requires : goal.extend_reserved-requires
extend_reserved-requires c =
    let bs = c.args.blocks.now in
    let head = c.args.number - 1 in
    let count = (block_at bs head).count in
    let e : c.pieces.left ≡ suc (c.pieces.left - 1) = omega (arith, c.pieces-test.true) in
    let g = subst (λ n. Gathers c.args.number count bs head n c.pieces.at c.pieces.text.items) e c.pieces.invariant.gathered in
    let found = c.index-blocks-at-in-pieces.result in
    let block = c.index-blocks-at-in-pieces.is ∙ get_or_default bs c.pieces.at found no_block g.chain.0 in
    let piece = ap (λ (t : List ℕ). length t) (c.as_slice.ensures.value ∙ ap (λ (b : MemoBlock). b.piece.items) block) in
    record { room = omega (arith, piece, c.pieces.text.ok.0, c.pieces.invariant.room, piece_inside (c.pieces.left - 1) c.args.number count bs head c.pieces.at c.pieces.text.items g) }

pub pieces-preserved : goal.pieces-preserved
pieces-preserved c =
    let bs = c.args.blocks.now in
    let head = c.args.number - 1 in
    let count = (block_at bs head).count in
    let e : c.pieces.left ≡ suc (c.pieces.left - 1) = omega (arith, c.pieces-test.true) in
    let g = subst (λ n. Gathers c.args.number count bs head n c.pieces.at c.pieces.text.items) e c.pieces.invariant.gathered in
    let found = c.index-blocks-at-in-pieces.result in
    let block = c.index-blocks-at-in-pieces.is ∙ get_or_default bs c.pieces.at found no_block g.chain.0 in
    let more = c.extend_reserved.new.bytes.items in
    record {
      gathered = subst (λ n. Gathers c.args.number count bs head (c.pieces.left - 1) n more) (ap (λ (b : MemoBlock). b.next) (sym block))
          (gathers_more (c.pieces.left - 1) c.args.number count bs head c.pieces.at c.pieces.text.items more g
          (c.extend_reserved.ensures.items ∙ ap (λ (t : List ℕ). c.pieces.text.items ++ t) (c.as_slice.ensures.value ∙ ap (λ (b : MemoBlock). b.piece.items) block)));
      room = omega (arith, c.pieces.invariant.room, c.extend_reserved.ensures.capacity);
    }
