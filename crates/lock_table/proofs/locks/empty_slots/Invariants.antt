use Rattle.std.proofs.Common.{◌≡◌, ◌≤◌, replicate, [], vec_len, vec_capacity}
use Rattle.lock_table.proofs.locks.empty_slots.Given as goal

abbrev pub invariant-loop-i : goal.invariant-loop-i
invariant-loop-i l = record {
  filled : l.slots.items ≡ replicate l.i [];
  counted : vec_len l.slots ≡ l.i;
  room : l.count ≤ vec_capacity l.slots;
}
