use Rattle.std.proofs.Common.{List, ℕ, Some, ◌∙◌, ap}
use Rattle.catalogue_core.specs.Status.{row}
use Rattle.station_lines.specs.AnswerLines.{status_text}
use Rattle.live_day.specs.Days.{DayValue}
use Rattle.live_day.proofs.day.Day.status_answer.Goals as goal

pub returns-in-Ok-clause-row : goal.returns-in-Ok-clause-row
returns-in-Ok-clause-row g c =
    ap (λ (l : List ℕ). Some l) (c.in-Ok.ensures.value ∙ ap status_text (c.status-row.ensures.value ∙ ap row (ap (λ (d : DayValue g.row.D.Denot). d.history) c.self.view_is)))
