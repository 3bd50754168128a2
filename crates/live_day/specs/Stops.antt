-- How far the lines of a day were obeyed that was stopped.
use Rattle.std.specs.Prelude.{◌≡◌, ◌≤◌, ℕ, List, ◌++◌, length}
use Rattle.catalogue_core.specs.Replay.{History}
use Rattle.files_in_place.specs.Disk.{DiskMeaning}
use Rattle.files_in_place.specs.Folder.{Folder}
use Rattle.live_day.specs.declared.keyboard.Typed.{Typed}
use Rattle.live_day.specs.declared.typing.TheConstants.{MAX_GROUP_LINES}
use Rattle.live_day.specs.Days.{DayValue, parts_of}
use Rattle.live_day.specs.Sessions.{Told, AreObeyed, TellsMore}
use Rattle.live_day.specs.Shows.{ShownLine, HasFrontIn}

-- of what was to be told the first was told, in order, and nothing else
pub record TellsFront (shown shown_then : List ShownLine) (told : List Told) : Type 0 where
  pub first : List Told
  pub others : List Told
  pub order : told ≡ first ++ others
  pub tells : TellsMore shown shown_then first

-- the first of these lines were obeyed, one after another, and this is what they are answered
pub record AreFirstObeyed (station : ℕ) (lines : List Typed) (old new : History) : Type 0 where
  pub done : List Typed
  pub rest : List Typed
  pub order : lines ≡ done ++ rest
  pub next : ℕ
  pub told : List Told
  pub obeyed : AreObeyed done station old next new told

-- and of what they are answered the first was told
pub record AreCutShort (station : ℕ) (lines : List Typed) (old new : History) (shown shown_then : List ShownLine) : Type 0 where
  pub front : AreFirstObeyed station lines old new
  pub tells : TellsFront shown shown_then front.told

-- The first of these lines were obeyed, one after another, and all that they are answered was told; the entries of these are kept so. Of the lines after
-- them the first were obeyed too, so many at most, and of what those are answered the first was told.
pub record AreStopped (most : ℕ) (are_kept : ℕ → Type 0) (station : ℕ) (lines : List Typed) (old new : History) (shown shown_then : List ShownLine) : Type 0 where
  pub before : List Typed
  pub rest : List Typed
  pub order : lines ≡ before ++ rest
  pub next : ℕ
  pub mid : History
  pub told : List Told
  pub shown_before : List ShownLine
  pub obeyed : AreObeyed before station old next mid told
  pub tells : TellsMore shown shown_before told
  pub cut : AreCutShort next rest mid new shown_before shown_then
  pub few : length cut.front.done ≤ most
  pub kept : are_kept (length mid.journal)

-- So it is of all lines that were typed since, from the first station on: after those that were answered, no more were obeyed than one group has.
pub record IsDayStopped (are_kept : ℕ → Type 0) (typed typed_then : List Typed) (old new : History) (shown shown_then : List ShownLine) : Type 0 where
  pub lines : List Typed
  pub read : typed_then ≡ typed ++ lines
  pub stopped : AreStopped MAX_GROUP_LINES are_kept 1 lines old new shown shown_then

-- A crash now leaves a log of the journal's first entries behind its head, so many at least, and each other file as it is.
abbrev pub HasLogOf : {D : Type 0} → DiskMeaning D → DayValue D → ℕ → Type 0
HasLogOf m day least =
    m.keeps_promises → (left : Folder) → m.may_leave day.log.disk left → HasFrontIn day.log.name day.log.head least (parts_of day.history.journal) (m.seen day.log.disk) left
