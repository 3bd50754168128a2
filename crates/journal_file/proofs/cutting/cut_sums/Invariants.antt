use Rattle.std.proofs.Common.{length}
use Rattle.journal_file.proofs.TextLaws.{HasTakenSums}
use Rattle.journal_file.proofs.cutting.cut_sums.Given as goal

abbrev pub invariant-loop-cut : goal.invariant-loop-cut
invariant-loop-cut l = HasTakenSums l.word l.text l.rest

abbrev pub decreases-loop-cut : goal.decreases-loop-cut
decreases-loop-cut l = length l.rest
