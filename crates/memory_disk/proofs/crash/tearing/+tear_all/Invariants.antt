use Rattle.std.proofs.Common.{length}
use Rattle.memory_disk.proofs.crash.tearing.+tear_all.Given as goal

abbrev pub decreases-tear_all : goal.decreases-tear_all
decreases-tear_all l = length l.names.now
