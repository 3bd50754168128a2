use Rattle.std.proofs.Common.{◌≡◌, ℕ, ◌+◌, ◌<◌, ◌++◌, length, map, Some}
use Rattle.std.specs.List.{slice_get}
use Rattle.std.specs.Vec.Iter.{into_iter_items}
use Rattle.table_core.specs.Content.{Held}
use Rattle.catalogue_core.specs.Replay.{History}
use Rattle.office_run.specs.declared.closed.ClosedTable.{ClosedTable}
use Rattle.office_run.specs.HandedOver.{AreEndOf, IsHandedOver}
use Rattle.office_run.proofs.closing.handed_over.Given as goal

abbrev pub invariant-loop-table : goal.invariant-loop-table
invariant-loop-table l = record {
  count : length l.closed.items ≡ length l.yielded;
  all : l.yielded ++ into_iter_items l.table-iterator ≡ l.fn.tables.items;
  each : (h : History) → AreEndOf h l.fn.names (map (λ (t : Held). t.content) l.fn.tables.items) → (j : ℕ) → j < length l.yielded
      → (t : ClosedTable) × (slice_get l.closed.items j ≡ Some t) × IsHandedOver h (j + 1) t;
}
