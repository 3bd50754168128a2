use Rattle.std.proofs.Common.{◌+◌, ◌≤◌, length, map}
use Rattle.std.specs.Prelude.{Result}
use Rattle.std.specs.Vec.Iter.{into_iter_items}
use Rattle.table_core.specs.Content.{Content}
use Rattle.catalogue_core.specs.declared.opening.TheConstants.{MAX_INDEXES}
use Rattle.catalogue_core.specs.declared.opening.OpenFault.{OpenFault}
use Rattle.catalogue_core.specs.Opening.{IndexesOpening, without_indexes}
use Rattle.catalogue_core.specs.Tables.{named_table}
use Rattle.catalogue_core.proofs.opening.add_indexes.Given as goal

abbrev pub invariant-loop-index : goal.invariant-loop-index
invariant-loop-index l = record {
  rest : (o : Result Content OpenFault) → IndexesOpening l.reindex (map named_table l.earlier) l.table.content (into_iter_items l.index-iterator) o
      → IndexesOpening l.reindex (map named_table l.earlier) (without_indexes l.fn.content) l.fn.indexes.items o;
  count_bounded : length l.table.content.indexes + length (into_iter_items l.index-iterator) ≤ MAX_INDEXES;
}
