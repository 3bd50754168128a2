use Rattle.std.proofs.Common.{◌≡◌, map}
use Rattle.std.specs.List.{AllByRecursion}
use Rattle.std.specs.Vec.Iter.{into_iter_items}
use Rattle.table_core.specs.Content.{named, IsReadFor}
use Rattle.table_core.specs.Indexes.{Follows, indexed}
use Rattle.table_core.proofs.indexes.sort.made_all.Given as goal

abbrev pub invariant-loop-name : goal.invariant-loop-name
invariant-loop-name l = record {
  parsed : AllByRecursion (IsReadFor l.records.table.schema) (into_iter_items l.name-iterator);
  follow : AllByRecursion (Follows l.records.table) l.made.items;
  same : map indexed l.made.items ≡ map named l.yielded;
}
