use Rattle.std.proofs.Common.{◌≡◌, suc, ◌-◌, length, get_or, min, take_all, length-drop, refl, ap, sym, subst, arith}
use Rattle.std.proofs.lemmas.List.{get_or_default}
use Rattle.dbf_image.specs.declared.memo_store.block.MemoBlock.{MemoBlock}
use Rattle.dbf_image.specs.declared.format.TheConstants.{BLOCK}
use Rattle.dbf_image.specs.MemoChains.{no_block, block_at, IsChain}
use Rattle.dbf_image.specs.MemoSteps.{CanFill, Fills}
use Rattle.dbf_image.proofs.MemoFilling.{can_fill_rest, fills_rest}
use Rattle.dbf_image.proofs.memo_store.chain.fill.Goals as goal

pub write-preserved : goal.write-preserved
write-preserved c =
    let ys = c.write.blocks in
    let free = c.write.rest in
    let text = c.write.more.now in
    let owner = c.args.owner in
    let old = c.write.invariant in
    let found = c.index-blocks-rest.result in
    let e : c.write.left ≡ suc (c.write.left - 1) = omega (arith, c.write-test.true) in
    let k : free.count ≡ suc (free.count - 1) = omega (arith, c.write-test.true, old.can.enough) in
    let there = (subst (λ n. IsChain 0 n ys free.head) k old.can.chain).0 in
    let next : (get_or ys free.head found).next ≡ (block_at ys free.head).next = ap (λ (b : MemoBlock). b.next) (get_or_default ys free.head found no_block there) in
    let size : c.min-size.result ≡ min (length text) BLOCK = c.min-size.ensures in
    let can = subst (λ n. CanFill ys free owner n text) e old.can in
    let left = take_all _ _ (omega (arith, length-drop c.min-size.result text)) in
    record {
      can = can_fill_rest (free.count - 1) (c.write.left - 1) c.min-size.result ys _ free _ owner text _ _ k refl refl next size left can;
      whole = λ zs after done. old.whole zs after (subst (λ n. Fills ys zs free after owner n text) (sym e)
          (fills_rest (free.count - 1) (c.write.left - 1) c.min-size.result ys _ zs free _ after owner text _ _ k refl refl next left c.piece_of-piece.ensures.bytes refl e refl can done));
    }
