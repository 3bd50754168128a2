use Rattle.std.proofs.Common.{◌≡◌, ◌<◌, ◌≤◌, ◌^◌, ℕ, length, min, ap, ◌∙◌, subst, arith}
use Rattle.std.specs.List.{AllByRecursion}
use Rattle.byte_io.specs.Laws.Puts.{more_left}
use Rattle.ndx_index.specs.ListParts.{listed}
use Rattle.ndx_index.specs.Image.{leaf_page, leaf_group_size}
use Rattle.ndx_index.proofs.Writing.{groups_step, all_parts, all_whole}
use Rattle.ndx_index.proofs.write.leaf.put_leaves.Goals as goal

pub loop-rest-preserved : goal.loop-rest-preserved
loop-rest-preserved g c =
    let rest = listed c.loop-rest.rest in
    let n : ℕ = c.min-n.result in
    let shape = c.args.shape in
    let some : 1 ≤ length rest = omega (arith, c.loop-rest-test.true) in
    let one : 1 ≤ shape.keys = omega (arith, shape.fits.some) in
    let e : n ≡ min shape.keys (length rest) = c.min-n.ensures ∙ ap (λ (m : ℕ). min shape.keys m) c.len-in-loop-rest-2.ensures.count in
    rw (c.split_at.ensures.rest, c.put_leaf-in-loop-rest.ensures.put.1, c.split_at.ensures.front) (record {
      same = c.put_leaf-in-loop-rest.ensures.put.0 ∙ c.loop-rest.invariant.same;
      left = more_left _ _ _ _ _ (groups_step (leaf_page shape.size) (leaf_group_size shape.keys) n rest e some (λ m. one)) c.loop-rest.invariant.left;
      keys = (all_parts _ n rest c.loop-rest.invariant.keys).1;
      numbers = λ h. c.loop-rest.invariant.numbers (all_whole _ n rest (subst (λ ps. AllByRecursion (λ p. p.number < 2 ^ 32) ps) c.split_at.ensures.front c.put_leaf-in-loop-rest.ensures.numbers) h);
    })
