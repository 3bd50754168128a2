use Rattle.std.proofs.Common.{◌∙◌, rules}
use Rattle.std.proofs.Math.Seq.{map-set_same}
use Rattle.catalogue_core.specs.Opening.{name_and_text}
use Rattle.catalogue_core.proofs.opening.let_pairs_go.Goals as goal

pub loop-index-preserved : goal.loop-index-preserved
loop-index-preserved c = record {
  same = map-set_same name_and_text c.loop-index.index-items c.loop-index.index-index c.let_go.new.index c.index-item.result c.let_go.ensures.same ∙ c.loop-index.invariant.same;
  count = search rules;
}
