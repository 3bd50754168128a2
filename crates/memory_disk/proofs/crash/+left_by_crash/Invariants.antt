use Rattle.std.proofs.Common.{length}
use Rattle.memory_disk.proofs.crash.+left_by_crash.Given as goal

abbrev pub decreases-left_by_crash : goal.decreases-left_by_crash
decreases-left_by_crash l = length l.calls.now
