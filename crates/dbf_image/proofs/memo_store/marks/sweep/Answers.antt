use Rattle.std.proofs.Common.{◌+◌, ◌<◌, List, length, set, get_or, refl, ap, sym, subst, ◌∙◌, arith}
use Rattle.std.proofs.lemmas.List.{get_or_default}
use Rattle.dbf_image.specs.declared.memo_store.block.MemoBlock.{MemoBlock}
use Rattle.dbf_image.specs.declared.memo_store.block.FreeList.{FreeList}
use Rattle.dbf_image.specs.MemoChains.{no_block, is_kept}
use Rattle.dbf_image.specs.MemoSteps.{Sweeps}
use Rattle.dbf_image.proofs.MemoSweeping.{sweeps_keep, sweeps_free}
use Rattle.dbf_image.proofs.memo_store.marks.sweep.Goals.{then-not-stays, else-not-stays}
use Rattle.dbf_image.proofs.memo_store.marks.sweep.Goals as goal

pub sweep-preserved : goal.sweep-preserved
sweep-preserved c =
    let xs = c.args.blocks.now in
    let ys = c.sweep.blocks in
    let n = c.sweep.i in
    let lt : n < length ys = omega (arith, c.sweep-test.true, c.sweep.invariant.same_length) in
    let owner = ap (λ (b : MemoBlock). b.owner) (get_or_default ys n c.index-blocks-i.result no_block lt) in
    elim c.if-not-stays.branch [
      | then-not-stays w ↦
          let found = w.index-blocks-i-then-not-stays.result in
          let old = get_or ys n found in
          let b : MemoBlock = record { piece = old.piece; owner = 0; count = c.sweep.free.count + 1; next = c.sweep.free.head; kept = old.kept } in
          let at = get_or_default ys n found no_block lt in
          subst (λ (v : List MemoBlock). Sweeps (n + 1) xs v c.if-not-stays.free) (sym w.blocks-is)
          (subst (λ (f : FreeList). Sweeps (n + 1) xs (set ys n b) f) (sym w.free-is)
          (sweeps_free n xs ys c.sweep.free b lt (ap (is_kept ys) (sym owner) ∙ sym c.is_marked-stays.ensures.value ∙ w.if-not-stays.true) refl refl refl (ap (λ (b : MemoBlock). b.kept) at) c.sweep.invariant))
      | else-not-stays w ↦
          subst (λ (v : List MemoBlock). Sweeps (n + 1) xs v c.if-not-stays.free) (sym w.blocks-is)
          (subst (λ (f : FreeList). Sweeps (n + 1) xs ys f) (sym w.free-is)
          (sweeps_keep n xs ys c.sweep.free lt (ap (is_kept ys) (sym owner) ∙ sym c.is_marked-stays.ensures.value ∙ w.if-not-stays.false) c.sweep.invariant))
    ]
