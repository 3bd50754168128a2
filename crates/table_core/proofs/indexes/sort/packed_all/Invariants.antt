use Rattle.std.proofs.Common.{◌≡◌, map, take}
use Rattle.std.specs.List.{AllByRecursion}
use Rattle.dbf_image.specs.Table.{packed}
use Rattle.table_core.specs.Indexes.{Follows, indexed}
use Rattle.table_core.proofs.indexes.sort.packed_all.Given as goal

abbrev pub invariant-loop-index : goal.invariant-loop-index
invariant-loop-index l = record {
  follow : AllByRecursion (Follows (packed l.records.table)) l.made.items;
  same : map indexed l.made.items ≡ map indexed (take l.index-index l.indexes.items);
}
