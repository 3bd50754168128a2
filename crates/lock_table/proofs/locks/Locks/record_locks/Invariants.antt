use Rattle.std.proofs.Common.{◌≡◌, ◌≤◌, nat_lt, length}
use Rattle.std.specs.List.{filter}
use Rattle.std.below.core.specs.declared.int.u32.TheConstants.{MAX}
use Rattle.lock_table.specs.Locks.{Lock, IsHeld}
use Rattle.lock_table.proofs.Rows.{rowed}
use Rattle.lock_table.proofs.locks.Locks.record_locks.Given as goal

abbrev pub invariant-loop-other : goal.invariant-loop-other
invariant-loop-other l = record {
  counted : l.count ≡ length (filter (λ m. nat_lt 0 m.number) (rowed l.table l.row l.other));
  bounded : (m : Lock) → IsHeld (rowed l.table l.row l.other) m → m.number ≤ MAX;
}
