use Rattle.std.proofs.Common.{◌≡◌, length}
use Rattle.memory_disk.proofs.crash.steps.torn_bytes.Given as goal

abbrev pub invariant-loop-i : goal.invariant-loop-i
invariant-loop-i l = length l.torn.items ≡ l.i
