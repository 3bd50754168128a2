use Rattle.std.proofs.Common.{subst}
use Rattle.live_day.specs.declared.keyboard.Typed.{Typed}
use Rattle.live_day.specs.Sessions.{MeansTyped}
use Rattle.live_day.specs.Days.{AnswersLine}
use Rattle.live_day.proofs.SessionLaws.{answered_long, answered_text}
use Rattle.live_day.proofs.StoppedLaws.{entered_long, entered_text}
use Rattle.live_day.proofs.day.Day.perform_typed.Goals as goal

pub returns-in-Text-clause-answered : goal.returns-in-Text-clause-answered
returns-in-Text-clause-answered g c =
    answered_text (λ m answer. AnswersLine m c.args.station c.args.self.now.history c.perform_text.new.self.history answer) c.perform_text.result c.args.typed.now _ c.as_slice.result.now c.in-Text.is c.as_slice.ensures.value c.perform_text.ensures.answered

pub returns-in-TooLong-clause-answered : goal.returns-in-TooLong-clause-answered
returns-in-TooLong-clause-answered g c =
    answered_long (λ m answer. AnswersLine m c.args.station c.args.self.now.history c.perform_meaning.new.self.history answer) c.perform_meaning.result c.args.typed.now c.in-TooLong.is c.perform_meaning.ensures.answered

pub returns-in-Cut-clause-answered : goal.returns-in-Cut-clause-answered
returns-in-Cut-clause-answered g c = λ m means. absurd (subst (λ (t : Typed). MeansTyped t m) c.in-Cut.is means)

pub returns-in-Text-clause-performed : goal.returns-in-Text-clause-performed
returns-in-Text-clause-performed g c =
    entered_text c.args.station c.args.self.now.history c.perform_text.new.self.history c.perform_text.result c.args.typed.now _ c.as_slice.result.now c.in-Text.is c.as_slice.ensures.value c.perform_text.ensures.performed

pub returns-in-TooLong-clause-performed : goal.returns-in-TooLong-clause-performed
returns-in-TooLong-clause-performed g c =
    entered_long c.args.station c.args.self.now.history c.perform_meaning.new.self.history c.perform_meaning.result c.args.typed.now c.in-TooLong.is c.perform_meaning.ensures.performed
