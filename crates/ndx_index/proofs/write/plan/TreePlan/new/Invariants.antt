use Rattle.ndx_index.specs.ListParts.{listed}
use Rattle.ndx_index.proofs.Planning.{Reached}
use Rattle.ndx_index.proofs.write.plan.TreePlan.new.Given as goal

abbrev pub invariant-loop-level : goal.invariant-loop-level
invariant-loop-level l = Reached l.shape.keys (listed l.pairs) l.level.height l.level.first l.level.count l.sizes

abbrev pub decreases-loop-level : goal.decreases-loop-level
decreases-loop-level l = l.level.count
