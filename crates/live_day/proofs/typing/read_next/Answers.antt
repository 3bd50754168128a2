use Rattle.std.proofs.Common.{◌∙◌, [], ap, Option, Ok, Err, refl}
use Rattle.live_day.specs.declared.keyboard.TypingFault.{TypingFault}
use Rattle.live_day.specs.declared.keyboard.Typed.{Typed}
use Rattle.live_day.proofs.GroupLaws.{over_ends, over_quits}
use Rattle.live_day.proofs.StopLaws.{failed_is}
use Rattle.live_day.proofs.StoppedLaws.{failed_group}
use Rattle.live_day.proofs.typing.read_next.Goals as goal

pub returns-in-Ok-None-clause-end : goal.returns-in-Ok-None-clause-end
returns-in-Ok-None-clause-end g c =
    let ended = c.next_line.ensures.end (c.in-Ok-None.is ∙ ap (λ (o : Option Typed). Ok o) c.in-Ok-None.field-0-is) in
    let none = rw c.in-Ok-None.field-0-is at c.in-Ok-None.ensures.text in (
      refl,
      over_ends (g.K.Keyboard.has_ended c.next_line.new.self) (g.K.Keyboard.text_left c.args.keyboard.now) (g.K.Keyboard.text_left c.next_line.new.self)
          (g.K.Keyboard.typed c.args.keyboard.now) (g.K.Keyboard.typed c.next_line.new.self) ended.0 ended.1 none,
    )

pub returns-then-is_quit_typed-clause-end : goal.returns-then-is_quit_typed-clause-end
returns-then-is_quit_typed-clause-end g c =
    let read = rw c.in-Ok-Some.field-0-is at c.in-Ok-Some.ensures.typed in
    let next = rw c.in-Ok-Some.field-0-is at c.in-Ok-Some.ensures.text in (
      refl,
      over_quits (g.K.Keyboard.has_ended c.next_line.new.self) (g.K.Keyboard.text_left c.args.keyboard.now) (g.K.Keyboard.text_left c.next_line.new.self)
          (g.K.Keyboard.typed c.args.keyboard.now) (g.K.Keyboard.typed c.next_line.new.self) c.in-Ok-Some.typed read next (c.is_quit_typed.ensures.yes c.if-is_quit_typed.true),
    )

pub returns-in-Err-clause-failed : goal.returns-in-Err-clause-failed
returns-in-Err-clause-failed g c is = c.next_line.ensures.failed (c.in-Err.is ∙ ap (λ (f : TypingFault). Err f) (failed_is c.in-Err.fault _ is))

pub returns-in-Err-clause-end : goal.returns-in-Err-clause-end
returns-in-Err-clause-end g c = (
  refl,
  failed_group (g.K.Keyboard.has_ended c.next_line.new.self) (g.K.Keyboard.text_left c.args.keyboard.now) (g.K.Keyboard.text_left c.next_line.new.self)
      (g.K.Keyboard.typed c.args.keyboard.now) (g.K.Keyboard.typed c.next_line.new.self) [] c.in-Err.fault c.in-Err.ensures.unread refl,
)
