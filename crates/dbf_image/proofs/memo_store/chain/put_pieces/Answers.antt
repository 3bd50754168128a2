use Rattle.std.proofs.Common.{◌≡◌, ◌-◌, suc, ap, sym, subst, ◌∙◌, arith}
use Rattle.std.proofs.lemmas.List.{get_or_default}
use Rattle.dbf_image.specs.declared.memo_store.block.MemoBlock.{MemoBlock}
use Rattle.dbf_image.specs.MemoChains.{no_block, block_at}
use Rattle.dbf_image.proofs.MemoPieces.{Pours, pours_more, poured_all}
use Rattle.dbf_image.proofs.memo_store.chain.put_pieces.Goals as goal

pub put-preserved : goal.put-preserved
put-preserved g c =
    let bs = c.args.blocks.now in
    let head = c.args.number - 1 in
    let count = (block_at bs head).count in
    let old = c.args.out.now.wanted in
    let now = c.put.out.wanted in
    let e : c.put.left ≡ suc (c.put.left - 1) = omega (arith, c.put-test.true) in
    let p = subst (λ n. Pours c.args.number count bs head n c.put.at old now) e c.put.invariant.poured in
    let found = c.index-blocks-at-in-put.result in
    let block = c.index-blocks-at-in-put.is ∙ get_or_default bs c.put.at found no_block p.chain.0 in
    let then = c.put-in-put.new.self.wanted in
    record {
      same = c.put-in-put.ensures.put.0 ∙ c.put.invariant.same;
      poured = subst (λ n. Pours c.args.number count bs head (c.put.left - 1) n old then) (ap (λ (b : MemoBlock). b.next) (sym block))
          (pours_more (c.put.left - 1) c.args.number count bs head c.put.at old now then c.as_slice.result.now p c.put-in-put.ensures.put.1
          (c.as_slice.ensures.value ∙ ap (λ (b : MemoBlock). b.piece.items) block));
    }

pub returns : goal.returns
returns g c = record { put = (c.put.invariant.same, poured_all c.args.number _ c.args.blocks.now (c.args.number - 1) c.put.left c.put.at _ _ (omega (arith, c.put-test.false)) c.put.invariant.poured) }
