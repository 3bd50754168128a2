use Rattle.std.proofs.Common.{take}
use Rattle.std.specs.Prelude.{flat_map}
use Rattle.std.specs.Io.KnownBytes.{Appends}
use Rattle.audit_program.specs.Endings.{read_line}
use Rattle.audit_program.proofs.telling.print_read.Given as goal

abbrev pub invariant-loop-file : goal.invariant-loop-file
invariant-loop-file g l = Appends (g.W.Write.contents l.initial.out) (g.W.Write.contents l.out) (flat_map read_line (take l.file-index l.files))
