use Rattle.std.proofs.Common.{◌≡◌, map}
use Rattle.std.specs.List.{AllByRecursion}
use Rattle.table_core.specs.Parts.{handed, handed_of, FitsTable}
use Rattle.table_core.specs.Indexes.{indexed}
use Rattle.table_core.proofs.parts.all_parts.Given as goal

abbrev pub invariant-loop-index : goal.invariant-loop-index
invariant-loop-index l = record {
  value : map handed l.parts.items ≡ map (handed_of l.fn.records.table) (map indexed l.yielded);
  fits : AllByRecursion (FitsTable l.fn.records.table) l.parts.items;
}
