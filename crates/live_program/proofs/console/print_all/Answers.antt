use Rattle.std.proofs.Common.{subst, sym, take}
use Rattle.live_program.specs.Consoles.{HasPrinted, shown_texts}
use Rattle.live_program.proofs.ConsoleLaws.{texts_next}
use Rattle.live_program.proofs.console.print_all.Goals as goal

pub loop-answer-preserved : goal.loop-answer-preserved
loop-answer-preserved g c =
    subst (HasPrinted (g.W.Write.contents c.args.out.now) (g.W.Write.contents c.gather_line.new.out) c.gather_line.new.page.items)
    (sym (texts_next c.args.answers.now c.loop-answer.answer-index c.answer-item.result c.loop-answer-test.true c.answer-item.is))
    (rw c.as_slice.ensures.value at (c.in_ok-gather_line.ensures.text (g.W.Write.contents c.args.out.now) (shown_texts (take c.loop-answer.answer-index c.args.answers.now)) c.loop-answer.invariant))
