use Rattle.audit_program.specs.Endings.{read_line}
use Rattle.audit_program.proofs.PrintingLaws.{printed_more}
use Rattle.audit_program.proofs.telling.print_read.Goals as goal

pub loop-file-preserved : goal.loop-file-preserved
loop-file-preserved g c =
    printed_more read_line (g.W.Write.contents c.args.out.now) (g.W.Write.contents c.loop-file.out) (g.W.Write.contents c.print_file.new.out) c.args.files.now c.loop-file.file-index c.file-item.result c.loop-file-test.true c.file-item.is
    c.loop-file.invariant c.in_ok-print_file.ensures.text
