use Rattle.std.proofs.Common.{length}
use Rattle.memory_disk.proofs.any_disk.+do_calls.Given as goal

abbrev pub decreases-do_calls : goal.decreases-do_calls
decreases-do_calls g l = length l.calls.now
