use Rattle.std.proofs.Common.{◌≡◌, ◌≢◌, ◌-◌, ◌≤◌, ℕ, List, length, min, drop, ap, sym, ◌∙◌, arith, length-drop}
use Rattle.byte_io.specs.Laws.Puts.{more_left}
use Rattle.ndx_index.specs.Image.{ChildEntry, inner_group_size}
use Rattle.ndx_index.specs.Levels.{level}
use Rattle.ndx_index.proofs.InnerPageBytes.{level_step}
use Rattle.ndx_index.specs.ListParts.{listed}
use Rattle.ndx_index.proofs.write.inner.put_level.Goals as goal

pub loop-at-preserved : goal.loop-at-preserved
loop-at-preserved g c =
    let shape = c.args.plan.now.shape in
    let k : ℕ = shape.keys in
    let m : ℕ = c.args.level.count in
    let at : ℕ = c.loop-at.at in
    let n : ℕ = c.next_count-n.result in
    let ts : List ChildEntry = (level k (listed c.args.plan.now.pairs) c.args.level.height).pages in
    let left : length (drop at ts) ≡ m - at = length-drop at ts ∙ ap (λ (m : ℕ). m - at) (sym c.requires.level.count_is) in
    let e : n ≡ min (inner_group_size k (length (drop at ts))) (length (drop at ts)) = c.next_count-n.ensures.is ∙ ap (λ (m : ℕ). min (inner_group_size k m) m) (sym left) in
    let inside : n ≤ m - at = c.next_count-n.ensures.inside in
    let differs : m - at - n ≢ 1 = c.next_count-n.ensures.left in
    let within : at ≤ m = c.loop-at.invariant.within in
    let over : 1 ≤ length (drop at ts) = omega (arith, c.loop-at-test.true) in
    rw c.put_inner.ensures.put.1 (record {
      same = c.put_inner.ensures.put.0 ∙ c.loop-at.invariant.same;
      rest = more_left _ _ _ _ _ (level_step shape.size k at n ts e over (omega (arith, shape.fits.some))) c.loop-at.invariant.rest;
      within = omega arith;
      left = λ one. differs (omega arith);
    })
