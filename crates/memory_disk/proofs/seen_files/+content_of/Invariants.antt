use Rattle.std.proofs.Common.{length}
use Rattle.memory_disk.proofs.seen_files.+content_of.Given as goal

abbrev pub decreases-content_of : goal.decreases-content_of
decreases-content_of l = length l.calls.now
