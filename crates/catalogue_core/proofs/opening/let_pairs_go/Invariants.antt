use Rattle.std.proofs.Common.{◌≡◌, length, map}
use Rattle.catalogue_core.specs.Opening.{name_and_text}
use Rattle.catalogue_core.proofs.opening.let_pairs_go.Given as goal

abbrev pub invariant-loop-index : goal.invariant-loop-index
invariant-loop-index l = record {
  same : map name_and_text l.index-items ≡ map name_and_text l.fn.indexes.items;
  count : length l.index-items ≡ length l.fn.indexes.items;
}
