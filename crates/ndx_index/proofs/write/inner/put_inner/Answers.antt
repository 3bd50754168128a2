use Rattle.std.proofs.Common.{◌≡◌, ◌+◌, ◌≤◌, ℕ, List, suc, length, ap, ◌∙◌, arith}
use Rattle.byte_io.specs.Writer.{more}
use Rattle.byte_io.specs.Laws.Puts.{more_left, more_all_three}
use Rattle.ndx_index.specs.Levels.{level}
use Rattle.ndx_index.proofs.InnerPageBytes.{child_step, child_last, inner_parts, children_short}
use Rattle.ndx_index.proofs.LevelLaws.{level_short}
use Rattle.ndx_index.specs.ListParts.{listed}
use Rattle.ndx_index.proofs.write.inner.put_inner.Goals as goal

pub loop-i-preserved : goal.loop-i-preserved
loop-i-preserved g c =
    let plan = c.args.plan.now in
    let at = c.args.level in
    let next : c.loop-i.i + 1 ≡ suc c.loop-i.i = omega arith in
    let inside : c.args.at + c.args.count ≤ length (level plan.shape.keys (listed plan.pairs) at.height).pages = omega (arith, c.requires.inside, c.requires.level.count_is) in
    let step = child_step plan.shape.keys (listed plan.pairs) at.height c.args.at c.args.count c.loop-i.i plan.shape.size _ _ (omega arith) inside c.greatest-key.ensures.key (ap (λ (n : ℕ). n + (c.args.at + c.loop-i.i)) c.requires.level.first_is) in
    rw (next, c.put_key_record.ensures.put.1) (record {
      same = c.put_key_record.ensures.put.0 ∙ c.loop-i.invariant.same;
      left = more_left _ _ _ _ _ step c.loop-i.invariant.left;
    })

pub returns : goal.returns
returns g c =
    let plan = c.args.plan.now in
    let shape = plan.shape in
    let at = c.args.level in
    let pages = (level shape.keys (listed plan.pairs) at.height).pages in
    let inside : c.args.at + c.args.count ≤ length pages = omega (arith, c.requires.inside, c.requires.level.count_is) in
    let short = level_short shape.size shape.keys (listed plan.pairs) at.height (omega (arith, shape.fits.some)) (omega (arith, shape.fits.room)) plan.keys in
    let whole = inner_parts shape.keys (listed plan.pairs) at.height c.args.at c.args.count shape.size c.requires.child inside (children_short shape.size c.args.at c.args.count pages short) in
    let last = child_last shape.keys (listed plan.pairs) at.height c.args.at c.args.count c.loop-i.i shape.size _ (omega arith) inside (omega (arith, c.requires.level.first_is)) in
    let children = c.put_u32-2.ensures.put.1 ∙ ap (λ (bytes : List ℕ). more c.loop-i.out.wanted bytes) last ∙ c.loop-i.invariant.left in
    record { put = (c.put_zeros.ensures.put.0 ∙ c.put_u32-2.ensures.put.0 ∙ c.loop-i.invariant.same, rw (c.put_zeros.ensures.put.1, children) (more_all_three _ _ _ _ _ whole)) }
