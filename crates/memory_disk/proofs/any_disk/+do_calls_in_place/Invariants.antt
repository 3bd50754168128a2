use Rattle.std.proofs.Common.{length}
use Rattle.memory_disk.proofs.any_disk.+do_calls_in_place.Given as goal

abbrev pub decreases-do_calls_in_place : goal.decreases-do_calls_in_place
decreases-do_calls_in_place g l = length l.calls.now
