use Rattle.rtrb.specs.Ring.{sent, SameProducer}
use Rattle.live_stations.proofs.TypistLaws.{HaveGone}
use Rattle.live_stations.proofs.typist.send_lines.Given as goal

abbrev pub invariant-loop : goal.invariant-loop
invariant-loop g l = record {
  ring : SameProducer l.initial.lines l.lines;
  gone : HaveGone (g.K.Keyboard.text_left l.initial.keyboard) (g.K.Keyboard.text_left l.keyboard) (g.K.Keyboard.typed l.initial.keyboard) (g.K.Keyboard.typed l.keyboard) (sent l.initial.lines) (sent l.lines);
}
