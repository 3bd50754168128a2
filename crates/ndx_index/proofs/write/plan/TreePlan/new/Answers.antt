use Rattle.std.proofs.Common.{arith, refl}
use Rattle.ndx_index.specs.ListParts.{listed}
use Rattle.ndx_index.proofs.Planning.{reach_leaves, reach_up}
use Rattle.ndx_index.proofs.write.plan.TreePlan.new.Goals as goal

pub loop-level-init : goal.loop-level-init
loop-level-init c =
    let level = c.leaves_of-level.ensures in
    rw (level.height, level.first) (reach_leaves c.args.shape.keys (listed c.args.pairs) c.leaves_of-level.result.count _ (omega (arith, c.args.shape.fits.some)) c.requires.count_bounded level.count refl)

pub loop-level-preserved : goal.loop-level-preserved
loop-level-preserved c =
    let level = c.above-level.ensures in
    let now = c.loop-level.level in
    rw (level.height, level.first) (reach_up c.args.shape.keys (listed c.args.pairs) now.height now.first now.count c.above-level.result.count c.loop-level.sizes c.args.shape.fits.some (omega arith) c.loop-level.invariant level.count)
