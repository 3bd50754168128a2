use Rattle.station_lines.specs.Script.Meaning.{Means}
use Rattle.live_day.specs.Days.{AnswersLine}
use Rattle.live_day.proofs.DayLaws.{by_one}
use Rattle.live_day.proofs.StoppedLaws.{entered_one}
use Rattle.live_day.proofs.day.Day.perform_text.Goals as goal

pub returns-in-Ok-clause-answered : goal.returns-in-Ok-clause-answered
returns-in-Ok-clause-answered g c =
    by_one (λ m answer. AnswersLine m c.args.station c.args.self.now.history c.perform_meaning.new.self.history answer) (λ m. Means c.args.line.now m) c.in-Ok.meaning c.perform_meaning.result c.in-Ok.ensures.one
    c.perform_meaning.ensures.answered

pub returns-in-Ok-clause-performed : goal.returns-in-Ok-clause-performed
returns-in-Ok-clause-performed g c =
    entered_one (λ m. Means c.args.line.now m) c.in-Ok.meaning c.args.station c.args.self.now.history c.perform_meaning.new.self.history c.perform_meaning.result c.in-Ok.ensures.one c.perform_meaning.ensures.performed
