use Rattle.std.proofs.Common.{◌≡◌, ◌<◌, length}
use Rattle.ndx_index.specs.Levels.{level, key_under}
use Rattle.ndx_index.specs.ListParts.{listed}
use Rattle.ndx_index.proofs.write.plan.greatest.Given as goal

abbrev pub invariant-loop-below : goal.invariant-loop-below
invariant-loop-below l = record {
  same : key_under l.plan.shape.keys (listed l.plan.pairs) l.below l.at ≡ key_under l.plan.shape.keys (listed l.plan.pairs) l.height l.page;
  inside : l.at < length (level l.plan.shape.keys (listed l.plan.pairs) l.below).pages;
}
