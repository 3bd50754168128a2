use Rattle.std.proofs.Common.{◌∙◌, ◌++◌, ◌∷◌, [], List, arith, ap, refl}
use Rattle.rtrb.specs.Ring.{sent}
use Rattle.live_stations.specs.declared.heard.Heard.{Heard}
use Rattle.live_stations.specs.declared.heard.Heard.TheVariants.{Line}
use Rattle.live_stations.specs.declared.typist.LinesEnd.TheVariants.{DayOver, Quit, Unprinted}
use Rattle.live_day.specs.declared.keyboard.Typed.{Typed}
use Rattle.live_stations.proofs.HandedLaws.{same_producer}
use Rattle.live_stations.proofs.TypistLaws.{gone_last, one_gone}
use Rattle.live_stations.proofs.typist.send_lines.Goals as goal

pub returns-then-is_quit-clause-sent : goal.returns-then-is_quit-clause-sent
returns-then-is_quit-clause-sent g c =
    let line = c.in-Ok-Some.typed in
    gone_last (g.K.Keyboard.text_left c.args.keyboard.now) (g.K.Keyboard.text_left c.loop.keyboard) (g.K.Keyboard.text_left c.next_line.new.self) (g.K.Keyboard.typed c.args.keyboard.now) (g.K.Keyboard.typed c.loop.keyboard)
    (g.K.Keyboard.typed c.next_line.new.self) (sent c.args.lines.now) (sent c.loop.lines) (sent c.loop.lines) Quit line c.loop.invariant.gone (rw c.in-Ok-Some.field-0-is at c.in-Ok-Some.ensures.text)
    (rw c.in-Ok-Some.field-0-is at c.in-Ok-Some.ensures.typed) refl (λ rest. tt) (line, refl, c.is_quit.ensures.yes c.if-is_quit.true)

pub returns-then-is_gone-clause-sent : goal.returns-then-is_gone-clause-sent
returns-then-is_gone-clause-sent g c =
    gone_last (g.K.Keyboard.text_left c.args.keyboard.now) (g.K.Keyboard.text_left c.loop.keyboard) (g.K.Keyboard.text_left c.next_line.new.self) (g.K.Keyboard.typed c.args.keyboard.now) (g.K.Keyboard.typed c.loop.keyboard)
    (g.K.Keyboard.typed c.next_line.new.self) (sent c.args.lines.now) (sent c.loop.lines) (sent c.loop.lines) Unprinted c.in-Ok-Some.typed c.loop.invariant.gone (rw c.in-Ok-Some.field-0-is at c.in-Ok-Some.ensures.text)
    (rw c.in-Ok-Some.field-0-is at c.in-Ok-Some.ensures.typed) refl (λ rest. tt) (omega arith)

pub returns-then-not-send_waiting-clause-sent : goal.returns-then-not-send_waiting-clause-sent
returns-then-not-send_waiting-clause-sent g c =
    gone_last (g.K.Keyboard.text_left c.args.keyboard.now) (g.K.Keyboard.text_left c.loop.keyboard) (g.K.Keyboard.text_left c.next_line.new.self) (g.K.Keyboard.typed c.args.keyboard.now) (g.K.Keyboard.typed c.loop.keyboard)
    (g.K.Keyboard.typed c.next_line.new.self) (sent c.args.lines.now) (sent c.loop.lines) (sent c.send_waiting.new.items) DayOver c.in-Ok-Some.typed c.loop.invariant.gone (rw c.in-Ok-Some.field-0-is at c.in-Ok-Some.ensures.text)
    (rw c.in-Ok-Some.field-0-is at c.in-Ok-Some.ensures.typed) (c.send_waiting.ensures.unsent c.if-not-send_waiting.true) (λ rest. tt) (omega arith)

pub loop-preserved : goal.loop-preserved
loop-preserved g c = record {
  ring = same_producer c.args.lines.now c.loop.lines c.send_waiting.new.items c.loop.invariant.ring c.send_waiting.ensures.ring;
  gone =
      one_gone (g.K.Keyboard.text_left c.args.keyboard.now) (g.K.Keyboard.text_left c.loop.keyboard) (g.K.Keyboard.text_left c.next_line.new.self) (g.K.Keyboard.typed c.args.keyboard.now) (g.K.Keyboard.typed c.loop.keyboard)
      (g.K.Keyboard.typed c.next_line.new.self) (sent c.args.lines.now) (sent c.loop.lines) (sent c.send_waiting.new.items) c.in-Ok-Some.typed c.loop.invariant.gone (rw c.in-Ok-Some.field-0-is at c.in-Ok-Some.ensures.text)
      (rw c.in-Ok-Some.field-0-is at c.in-Ok-Some.ensures.typed) (c.is_quit.ensures.no c.if-is_quit.false)
      (c.send_waiting.ensures.sent c.if-not-send_waiting.false ∙ ap (λ (t : Typed). sent c.loop.lines ++ Line t ∷ []) c.as_own.ensures.value);
}
