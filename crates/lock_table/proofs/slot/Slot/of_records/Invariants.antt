use Rattle.std.proofs.Common.{◌≡◌, drop}
use Rattle.lock_table.specs.Numbers.{different}
use Rattle.lock_table.proofs.slot.Slot.of_records.Given as goal

abbrev pub invariant-loop-i : goal.invariant-loop-i
invariant-loop-i l = l.slot ≡ different (drop l.i l.numbers)
