use Rattle.std.proofs.Common.{List, length}
use Rattle.journal_file.specs.declared.sum.FileSum.{FileSum}
use Rattle.journal_file.specs.WholeText.{wrote_word}
use Rattle.audit_program.specs.Comparing.{AreLinesOf}
use Rattle.audit_program.proofs.ComparingLaws.{HasPassed}
use Rattle.audit_program.proofs.comparing.is_written_by_run.Given as goal

abbrev pub invariant-loop-told : goal.invariant-loop-told
invariant-loop-told l = (wrote : List FileSum) → AreLinesOf wrote_word l.lines wrote → HasPassed wrote_word wrote l.file l.rest

abbrev pub decreases-loop-told : goal.decreases-loop-told
decreases-loop-told l = length l.rest
