use Rattle.std.proofs.Common.{List, ℕ, ◌∙◌, subst}
use Rattle.station_lines.specs.JournalLines.{IsNoNumber}
use Rattle.live_day.proofs.wish.wish_of.Goals as goal

pub returns-then-not-is_station_word : goal.returns-then-not-is_station_word
returns-then-not-is_station_word c = record { value = (cc, λ number begins. absurd (cc begins.0)) }

pub returns-in-None : goal.returns-in-None
returns-in-None c = record { value = (cc, λ number begins. subst (λ (l : List ℕ). IsNoNumber l) (c.split.ensures.others ∙ begins.1) c.in-None.ensures.none) }
