use Rattle.std.proofs.Common.{List, take}
use Rattle.std.specs.Prelude.{flat_map}
use Rattle.std.specs.Io.KnownBytes.{Appends}
use Rattle.journal_file.specs.declared.sum.FileSum.{FileSum}
use Rattle.journal_file.specs.WholeText.{wrote_word}
use Rattle.audit_program.specs.Comparing.{AreLinesOf}
use Rattle.audit_program.specs.Endings.{written_line}
use Rattle.audit_program.proofs.telling.print_written.Given as goal

abbrev pub invariant-loop-file : goal.invariant-loop-file
invariant-loop-file g l =
    (wrote : List FileSum) → AreLinesOf wrote_word l.lines wrote → Appends (g.W.Write.contents l.initial.out) (g.W.Write.contents l.out) (flat_map (written_line wrote) (take l.file-index l.files))
