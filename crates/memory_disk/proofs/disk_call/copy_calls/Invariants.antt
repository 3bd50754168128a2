use Rattle.std.proofs.Common.{◌≡◌, take}
use Rattle.memory_disk.proofs.disk_call.copy_calls.Given as goal

abbrev pub invariant-loop-call : goal.invariant-loop-call
invariant-loop-call l = l.copy.items ≡ take l.call-index l.calls
