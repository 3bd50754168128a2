-- Answers that wait until their entries are in the log.
use Rattle.std.specs.Prelude.{◌≡◌, ◌≤◌, List, ◌++◌, length, map}
use Rattle.files_in_place.specs.Disk.{DiskMeaning}
use Rattle.catalogue_core.specs.Replay.{History}
use Rattle.live_day.specs.declared.waiting.WaitingAnswer.{WaitingAnswer}
use Rattle.live_day.specs.Days.{DayValue}
use Rattle.live_day.specs.Shows.{ShownLine, MayBeTold, at_count}

-- An answer that waits may be told: it is one of the journal's first entries, as many as it counts.
pub record IsWaiting (h : History) (answer : WaitingAnswer) : Type 0 where
  pub among : answer.count ≤ length h.journal
  pub told : MayBeTold (at_count h answer.count) answer.station answer.line

-- an answer that waited, as it is shown now
abbrev pub shown_after : {D : Type 0} → DiskMeaning D → DayValue D → WaitingAnswer → ShownLine
shown_after m day answer = record { moment = m.moment day.log.disk; count = answer.count; station = answer.station; line = answer.line }

-- answers that waited, as they are shown now
abbrev pub all_shown_after : {D : Type 0} → DiskMeaning D → DayValue D → List WaitingAnswer → List ShownLine
all_shown_after m day answers = map (shown_after m day) answers

-- the first of these lines were shown, and no others
pub record ShowsFront (shown shown_then lines : List ShownLine) : Type 0 where
  pub front : List ShownLine
  pub others : List ShownLine
  pub order : lines ≡ front ++ others
  pub more : shown_then ≡ shown ++ front
