use Rattle.std.proofs.Common.{take}
use Rattle.live_program.specs.Consoles.{HasPrinted, shown_texts}
use Rattle.live_program.proofs.console.print_all.Given as goal

abbrev pub invariant-loop-answer : goal.invariant-loop-answer
invariant-loop-answer g l =
    HasPrinted (g.W.Write.contents l.initial.out) (g.W.Write.contents l.out) l.page.items (shown_texts (take l.answer-index l.answers))
