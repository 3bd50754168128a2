use Rattle.std.proofs.Common.{◌≡◌, ℕ, ◌+◌, ◌<◌, length, Some}
use Rattle.std.specs.List.{slice_get}
use Rattle.office_run.specs.declared.closed.ClosedTable.{ClosedTable}
use Rattle.office_run.specs.HandedOver.{IsHandedOver}
use Rattle.office_run.proofs.copying.copied_tables.Given as goal

abbrev pub invariant-loop-i : goal.invariant-loop-i
invariant-loop-i l =
    let h = l.catalogue in
    record {
      count : length l.copies.items ≡ l.i;
      each : (j : ℕ) → j < l.i → (t : ClosedTable) × (slice_get l.copies.items j ≡ Some t) × IsHandedOver h (j + 1) t;
    }
