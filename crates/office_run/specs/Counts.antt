-- How many commands a run has performed, and how many of them were refused.
use Rattle.std.specs.Prelude.{◌≡◌, ◌<◌, ◌+◌, ◌&&◌, ◌==◌, ℕ, Bool, true, false, List, length, get_or, count_by}
use Rattle.catalogue_core.specs.declared.answer.Answer.{Answer}
use Rattle.catalogue_core.specs.declared.answer.Answer.TheVariants.{Refused}
use Rattle.catalogue_core.specs.declared.entry.Entry.{Entry}
use Rattle.catalogue_core.specs.Replay.{History}
use Rattle.office_run.specs.declared.counts.CommandCounts.{CommandCounts}

abbrev pub is_refusal : Answer → Bool
is_refusal (Refused refusal) = true
is_refusal answer = false

-- the command was refused: its entry in the journal has a refusal as its answer
abbrev pub is_refused : Entry → Bool
is_refused entry = is_refusal entry.answer

-- it was a command of this station, and was refused
abbrev pub is_refused_of : ℕ → Entry → Bool
is_refused_of station entry = entry.station == station && is_refused entry

-- of each station, from 1, how many of its commands in the journal were refused
pub record AreRefused (stations : ℕ) (journal : List Entry) (refused : List ℕ) : Type 0 where
  pub each_station : length refused ≡ stations
  pub counted : (index : ℕ) → index < stations → get_or refused index 0 ≡ count_by (is_refused_of (index + 1)) journal

-- so many of a history's commands were refused, and so many of each station's
pub record AreRefusedIn (h : History) (counts : CommandCounts) : Type 0 where
  pub refused : counts.refused ≡ count_by is_refused h.journal
  pub by_station : AreRefused h.opened.stations h.journal counts.refused_by_station.items
