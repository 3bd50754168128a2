use Rattle.std.proofs.Common.{◌≡◌, List, drop}
use Rattle.journal_file.specs.declared.sum.FileSum.{FileSum}
use Rattle.journal_file.specs.WholeText.{wrote_word}
use Rattle.audit_program.specs.Comparing.{AreLinesOf, are_of_run}
use Rattle.audit_program.proofs.comparing.are_written_by_run.Given as goal

abbrev pub invariant-loop-file : goal.invariant-loop-file
invariant-loop-file l = (wrote : List FileSum) → AreLinesOf wrote_word l.lines wrote → are_of_run wrote l.files ≡ are_of_run wrote (drop l.file-index l.files)
