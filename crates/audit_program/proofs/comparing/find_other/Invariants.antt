use Rattle.std.proofs.Common.{List}
use Rattle.journal_file.specs.declared.sum.FileSum.{FileSum}
use Rattle.journal_file.specs.WholeText.{read_word}
use Rattle.audit_program.specs.Comparing.{AreLinesOf}
use Rattle.audit_program.proofs.ComparingLaws.{HasCompared}
use Rattle.audit_program.proofs.comparing.find_other.Given as goal

abbrev pub invariant-loop-file : goal.invariant-loop-file
invariant-loop-file l = (told : List FileSum) → AreLinesOf read_word l.lines told → HasCompared read_word told l.files l.file-index l.rest
