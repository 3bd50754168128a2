use Rattle.std.proofs.Common.{◌≡◌, drop}
use Rattle.lock_table.specs.Locks.{free_records}
use Rattle.lock_table.proofs.locks.Locks.is_free_records.Given as goal

abbrev pub invariant-loop-i : goal.invariant-loop-i
invariant-loop-i l = free_records l.self.locks l.station l.table l.numbers ≡ free_records l.self.locks l.station l.table (drop l.i l.numbers)
