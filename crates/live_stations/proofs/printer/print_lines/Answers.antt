use Rattle.std.proofs.Common.{List, ℕ, subst}
use Rattle.std.specs.Io.KnownBytes.{Appends}
use Rattle.live_program.specs.Consoles.{shown_text, AppendsFront}
use Rattle.rtrb.specs.Ring.{received}
use Rattle.live_stations.proofs.HearingLaws.{same_consumer}
use Rattle.live_stations.proofs.PrinterLaws.{one_printed, part_taken}
use Rattle.live_stations.proofs.printer.print_lines.Goals as goal

pub returns-in-Err-clause-taken : goal.returns-in-Err-clause-taken
returns-in-Err-clause-taken g c =
    let old = g.W.Write.contents c.loop.screen in
    let new = g.W.Write.contents c.print_line.new.out in
    part_taken (g.W.Write.contents c.args.screen.now) old new (received c.args.answers.now) (received c.loop.answers) (received c.next_answer.new.answers) c.in-Some-next_answer.line
    c.loop.invariant.printed c.in-Some-next_answer.ensures.some (subst (λ (l : List ℕ). AppendsFront old new (shown_text l)) c.as_slice.ensures.value c.in-Err.ensures.front)

pub loop-preserved : goal.loop-preserved
loop-preserved g c =
    let old = g.W.Write.contents c.loop.screen in
    let new = g.W.Write.contents c.print_line.new.out in
    let line = c.in-Some-next_answer.line in
    record {
      ring = same_consumer c.args.answers.now c.loop.answers c.next_answer.new.answers c.loop.invariant.ring c.next_answer.ensures.ring;
      printed =
          one_printed (g.W.Write.contents c.args.screen.now) old new (received c.args.answers.now) (received c.loop.answers) (received c.next_answer.new.answers) line c.loop.invariant.printed
          c.in-Some-next_answer.ensures.some (subst (λ (l : List ℕ). Appends old new (shown_text l)) c.as_slice.ensures.value c.in-Ok.ensures.text);
    }
