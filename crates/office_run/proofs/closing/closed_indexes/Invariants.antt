use Rattle.std.proofs.Common.{◌≡◌, ℕ, ◌<◌, map, take}
use Rattle.std.specs.Prelude.{IfSome}
use Rattle.std.specs.List.{slice_get}
use Rattle.office_run.specs.HandedOver.{index_of, IsIndexFor}
use Rattle.office_run.proofs.closing.closed_indexes.Given as goal

abbrev pub invariant-loop-i : goal.invariant-loop-i
invariant-loop-i l = record {
  made : l.indexes.items ≡ map (index_of l.table.content.table) (take l.i l.table.content.indexes);
  read : (k : ℕ) → k < l.i → IfSome (slice_get l.table.content.indexes k) (IsIndexFor l.table.content.table.schema);
}
