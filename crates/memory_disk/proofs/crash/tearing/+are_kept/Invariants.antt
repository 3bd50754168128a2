use Rattle.std.proofs.Common.{length}
use Rattle.memory_disk.proofs.crash.tearing.+are_kept.Given as goal

abbrev pub decreases-are_kept : goal.decreases-are_kept
decreases-are_kept l = length l.calls.now
