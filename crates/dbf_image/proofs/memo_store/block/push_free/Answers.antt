use Rattle.std.proofs.Common.{◌≡◌, ◌+◌, length, refl, sym, subst, ◌∙◌, arith}
use Rattle.dbf_image.specs.MemoChains.{IsChain}
use Rattle.dbf_image.proofs.MemoFrame.{pushed}
use Rattle.dbf_image.proofs.MemoTexts.{grown_push}
use Rattle.dbf_image.proofs.memo_store.block.push_free.Goals as goal

pub push-preserved : goal.push-preserved
push-preserved c =
    let xs = c.push.blocks.items in
    let ys = c.push_reserved.new.self.items in
    let old = c.push.invariant in
    let long : length xs ≡ c.len-head.result = sym c.push.blocks.ok.0 ∙ sym c.len-head.ensures in
    record {
      grown = grown_push c.args.blocks.now.items xs ys _ c.push_reserved.ensures.items refl old.grown;
      longer = omega (arith, old.longer, c.push_reserved.ensures.len, c.push.blocks.ok.0, c.push_reserved.new.self.ok.0);
      count = omega (arith, old.count);
      chain = subst (λ x. IsChain 0 (c.push.all.count + 1) ys x) long (pushed c.push.all.count xs ys c.push.all.head _ c.push_reserved.ensures.items refl refl refl old.chain);
      capacity = c.push_reserved.ensures.capacity ∙ old.capacity;
    }
