use Rattle.std.proofs.Common.{List, sym, subst}
use Rattle.std.specs.Prelude.{flat_map}
use Rattle.std.specs.Io.KnownBytes.{Appends}
use Rattle.journal_file.specs.declared.sum.FileSum.{FileSum}
use Rattle.journal_file.specs.WholeText.{wrote_word}
use Rattle.program_frame.proofs.Printing.{appends_then}
use Rattle.audit_program.specs.Comparing.{AreLinesOf}
use Rattle.audit_program.specs.Endings.{count_line, read_line, written_line}
use Rattle.audit_program.proofs.telling.print_audited.Goals as goal

pub returns : goal.returns
returns g c =
    let old = g.W.Write.contents c.args.out.now in
    let first = g.W.Write.contents c.print_read.new.out in
    let second = g.W.Write.contents c.print_count.new.out in
    let last = g.W.Write.contents c.print_written.new.out in
    record {
      text = λ wrote lines.
          appends_then old first last (flat_map read_line c.args.audited.now.read.items) _ (subst (λ (files : List FileSum). Appends old first (flat_map read_line files)) c.deref.ensures.value c.in_ok-print_read.ensures.text)
          (appends_then first second last (count_line c.args.audited.now.count) (flat_map (written_line wrote) c.args.audited.now.written.items) c.in_ok-print_count.ensures.text
          (subst (λ (files : List FileSum). Appends second last (flat_map (written_line wrote) files)) c.deref-2.ensures.value
          (c.in_ok-print_written.ensures.text wrote (subst (λ (text : _). AreLinesOf wrote_word text wrote) (sym c.as_slice.ensures.value) lines))));
    }
