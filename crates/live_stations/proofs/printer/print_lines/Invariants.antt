use Rattle.rtrb.specs.Ring.{received, SameConsumer}
use Rattle.live_stations.proofs.PrinterLaws.{HavePrinted}
use Rattle.live_stations.proofs.printer.print_lines.Given as goal

abbrev pub invariant-loop : goal.invariant-loop
invariant-loop g l = record {
  ring : SameConsumer l.initial.answers l.answers;
  printed : HavePrinted (g.W.Write.contents l.initial.screen) (g.W.Write.contents l.screen) (received l.initial.answers) (received l.answers);
}
