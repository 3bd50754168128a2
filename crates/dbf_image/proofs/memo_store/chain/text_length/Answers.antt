use Rattle.std.proofs.Common.{◌≡◌, ◌+◌, ◌-◌, ℕ, List, length, suc, ap, sym, subst, ◌∙◌, arith}
use Rattle.std.proofs.lemmas.List.{get_or_default}
use Rattle.dbf_image.specs.declared.memo_store.block.MemoBlock.{MemoBlock}
use Rattle.dbf_image.specs.MemoChains.{no_block, block_at, Counts}
use Rattle.dbf_image.proofs.MemoFrame.{counts_more}
use Rattle.dbf_image.proofs.memo_store.chain.text_length.Goals as goal

pub lengths-preserved : goal.lengths-preserved
lengths-preserved c =
    let bs = c.args.blocks.now in
    let head = c.args.number - 1 in
    let count = (block_at bs head).count in
    let e : c.lengths.left ≡ suc (c.lengths.left - 1) = omega (arith, c.lengths-test.true) in
    let k = subst (λ n. Counts c.args.number count bs head n c.lengths.at c.lengths.length) e c.lengths.invariant in
    let found = c.index-blocks-at-in-lengths.result in
    let block = c.index-blocks-at-in-lengths.is ∙ get_or_default bs c.lengths.at found no_block k.chain.0 in
    let piece = ap (λ (t : List ℕ). length t) (c.as_slice.ensures.value ∙ ap (λ (b : MemoBlock). b.piece.items) block) in
    subst (λ n. Counts c.args.number count bs head (c.lengths.left - 1) n (c.lengths.length + length c.as_slice.result.now)) (ap (λ (b : MemoBlock). b.next) (sym block))
    (counts_more (c.lengths.left - 1) c.args.number count bs head c.lengths.at c.lengths.length _ k piece c.as_slice.ensures.fits)
