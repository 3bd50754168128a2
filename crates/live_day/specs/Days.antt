-- A live day: tables as they were opened, what was performed since, and the log of it.
use Rattle.std.specs.Prelude.{◌≡◌, ◌⊎◌, ◌<◌, ◌++◌, ℕ, List, length, drop, map, Bool, false, Option, Some, None}
use Rattle.files_in_place.specs.Disk.{DiskMeaning}
use Rattle.audit.specs.Audits.{IsCommand}
use Rattle.catalogue_core.specs.declared.catalogue.TheConstants.{MAX_ENTRIES}
use Rattle.catalogue_core.specs.declared.command.Command.{Command}
use Rattle.catalogue_core.specs.declared.entry.Entry.{Entry}
use Rattle.catalogue_core.specs.Replay.{History, answer_of, with_entry}
use Rattle.catalogue_core.specs.Status.{row}
use Rattle.station_lines.specs.declared.script.line.Line.{Line}
use Rattle.station_lines.specs.declared.script.line.Line.TheVariants.{Run, Status, Blank}
use Rattle.station_lines.specs.AnswerLines.{line_of, status_text}
use Rattle.station_lines.specs.JournalLines.{line_parts}
use Rattle.live_log.specs.Gates.{LineParts}
use Rattle.live_day.specs.declared.faults.LineFault.{LineFault}
use Rattle.live_day.specs.declared.faults.LineFault.TheVariants.{NoMemory, JournalFull, Unanswered}
use Rattle.live_log.specs.Logs.{LogValue, HasLog, IsLogPut}
use Rattle.files_in_place.specs.Folder.{Folder}

-- What contracts see of a day: what was opened and performed, the log, and whether it takes lines.
pub record DayValue (D : Type 0) : Type 0 where
  pub history : History
  pub log : LogValue D
  pub takes : Bool

-- what the lines of a journal show
abbrev pub parts_of : List Entry → List LineParts
parts_of journal = map line_parts journal

-- the entries that the one history has after those of the other
abbrev pub entries_since : History → History → List Entry
entries_since old new = drop (length old.journal) new.journal

-- What a line of a station makes of a history, by its meaning, and what is answered: a command is performed and has its answer,
-- DISPLAY STATUS has the row, and a blank line has nothing.
abbrev pub AnswersLine : Line → ℕ → History → History → Option (List ℕ) → Type 0
AnswersLine (Run command) station old new answer = (new ≡ with_entry old station command) × (answer ≡ Some (line_of (answer_of old station command)))
AnswersLine Status station old new answer = (new ≡ old) × (answer ≡ Some (status_text (row old)))
AnswersLine Blank station old new answer = (new ≡ old) × (answer ≡ None)

-- a line that means so has the one answer, whether it could be made or not
abbrev pub IsAnsweredBy : (Line → Type 0) → ℕ → History → History → Type 0
IsAnsweredBy means station old new = (answer : Option (List ℕ)) × ((meaning : Line) → means meaning → AnswersLine meaning station old new answer)

-- the journal takes no more entries, and the line, which means so, would be one
abbrev pub HasNoRoomFor : (Line → Type 0) → History → Type 0
HasNoRoomFor means h = (length h.journal ≡ MAX_ENTRIES) × ((meaning : Line) → means meaning → IsCommand meaning)

-- the one history goes on as the other
pub record HasGoneOn (old new : History) : Type 0 where
  pub opened : new.opened ≡ old.opened
  pub more : List Entry
  pub journal : new.journal ≡ old.journal ++ more

-- the last entry of the journal is the station's, and this is the line of its answer
pub record IsLastAnswer (h : History) (station : ℕ) (line : List ℕ) : Type 0 where
  pub before : History
  pub command : Command
  pub entered : h ≡ with_entry before station command
  pub line_is : line ≡ line_of (answer_of before station command)

-- what a station is answered: the answer of the last entry, which is its own, or the status row
abbrev pub IsAnswerTold : History → ℕ → List ℕ → Type 0
IsAnswerTold h station line = IsLastAnswer h station line ⊎ (line ≡ status_text (row h))

-- why nothing was performed
abbrev pub IsUnperformed : LineFault → Type 0
IsUnperformed NoMemory = Unit {0}
IsUnperformed JournalFull = Unit {0}
IsUnperformed Unanswered = ⊥

module _ {D : Type 0} (m : DiskMeaning D) where
  -- a crash left the log of the journal as it was, with what was performed since or without it
  abbrev pub HasPutSince : DayValue D → DayValue D → Folder → Type 0
  HasPutSince old new = IsLogPut old.log.name old.log.head (m.seen old.log.disk) (parts_of old.history.journal) (parts_of (entries_since old.history new.history))

  -- the log on the disk, behind its head, is that of the journal
  abbrev pub IsLogged : DayValue D → Type 0
  IsLogged day = HasLog day.log.name day.log.head (parts_of day.history.journal) (m.seen day.log.disk)

-- The one day has gone on as the other, and nothing was put to the log since: nothing was performed, or something was, and then the day
-- takes no lines.
pub record HasPerformedSince {D : Type 0} (old new : DayValue D) : Type 0 where
  pub history : HasGoneOn old.history new.history
  pub log : new.log ≡ old.log
  pub either : (new ≡ old) ⊎ ((new.takes ≡ false) × (length old.history.journal < length new.history.journal))
