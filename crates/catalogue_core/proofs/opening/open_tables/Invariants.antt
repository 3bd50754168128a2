use Rattle.std.proofs.Common.{◌+◌, ◌≤◌, List, [], length, map}
use Rattle.std.specs.Prelude.{Result}
use Rattle.std.specs.Vec.Iter.{into_iter_items}
use Rattle.catalogue_core.specs.declared.opening.TheConstants.{MAX_TABLES}
use Rattle.catalogue_core.specs.declared.opening.OpenFault.{OpenFault}
use Rattle.catalogue_core.specs.Opening.{NamesDiffer, TablesOpening}
use Rattle.catalogue_core.specs.Tables.{NamedTable, named_table}
use Rattle.catalogue_core.proofs.opening.open_tables.Given as goal

abbrev pub invariant-loop-source : goal.invariant-loop-source
invariant-loop-source l = record {
  rest : (o : Result (List NamedTable) OpenFault) → TablesOpening l.reindex (map named_table l.opened.items) (into_iter_items l.source-iterator) o → TablesOpening l.reindex [] l.fn.sources.items o;
  differ : NamesDiffer (map (λ t. t.name) l.opened.items);
  count_bounded : length l.opened.items + length (into_iter_items l.source-iterator) ≤ MAX_TABLES;
}
