use Rattle.std.proofs.Common.{length}
use Rattle.memory_disk.proofs.seen_files.+add_names.Given as goal

abbrev pub decreases-add_names : goal.decreases-add_names
decreases-add_names l = length l.calls.now
