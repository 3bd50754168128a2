-- What is shown in a day, and what a crash leaves of it.
use Rattle.std.specs.Prelude.{◌≡◌, ◌⊎◌, ◌≤◌, ℕ, List, ◌++◌, length, take, codes, Some}
use Rattle.std.specs.List.{AllByRecursion}
use Rattle.files_in_place.specs.Folder.{Name, Folder, SameBut}
use Rattle.files_in_place.specs.Disk.{DiskMeaning, LeavesOnly}
use Rattle.catalogue_core.specs.declared.catalogue.TheConstants.{MAX_ENTRIES}
use Rattle.catalogue_core.specs.Replay.{History, history}
use Rattle.live_log.specs.Gates.{LineParts, StandsFor}
use Rattle.live_day.specs.declared.notice.Notice.{Notice}
use Rattle.live_day.specs.declared.notice.Notice.TheVariants as notice
use Rattle.live_day.specs.Days.{DayValue, HasGoneOn, IsAnswerTold, parts_of}

-- A line that was shown: the moment of the disk, how many entries the journal had then, the station, and the line.
pub record ShownLine : Type 0 where
  pub moment : ℕ
  pub count : ℕ
  pub station : ℕ
  pub line : List ℕ

-- what is said where nothing was performed
abbrev pub notice_text : Notice → List ℕ
notice_text notice.NoMemory = codes "NOT PERFORMED: OUT OF MEMORY"
notice_text notice.JournalFull = codes "NOT PERFORMED: THE JOURNAL IS FULL"
notice_text notice.NoStation = codes "NO SUCH STATION"
notice_text notice.Cut = codes "NOT PERFORMED: THE LINE WAS CUT"

-- what may be said where nothing was performed: that the journal is full, only where it is
abbrev pub MayBeSaid : History → Notice → Type 0
MayBeSaid h notice.JournalFull = length h.journal ≡ MAX_ENTRIES
MayBeSaid h why = Unit {0}

-- what may be told to a station: an answer or a row, or that nothing was performed
abbrev pub MayBeTold : History → ℕ → List ℕ → Type 0
MayBeTold h station line = IsAnswerTold h station line ⊎ ((n : Notice) × MayBeSaid h n × (line ≡ notice_text n))

-- the history as it was with the first so many entries
abbrev pub at_count : History → ℕ → History
at_count h count = history h.opened (take count h.journal)

-- a crash left the head, and behind it a log of the journal's first entries, so many at least
pub record HasFront (name : Name) (head : List ℕ) (least : ℕ) (journal : List LineParts) (c : Folder) : Type 0 where
  pub log : List ℕ
  pub there : c name ≡ Some (head ++ log)
  pub front : List LineParts
  pub rest : List LineParts
  pub order : journal ≡ front ++ rest
  pub stands : StandsFor log front
  pub enough : least ≤ length front

-- the file of the log has the journal's first entries so (`HasFront`), and each other file is as it was
pub record HasFrontIn (name : Name) (head : List ℕ) (least : ℕ) (journal : List LineParts) (old c : Folder) : Type 0 where
  pub kept : HasFront name head least journal c
  pub elsewhere : SameBut name old c

module _ {D : Type 0} (m : DiskMeaning D) where
  -- what is shown of a day now
  abbrev pub shown_now : DayValue D → ℕ → List ℕ → ShownLine
  shown_now day station line = record { moment = m.moment day.log.disk; count = length day.history.journal; station = station; line = line }

  -- A line that was shown was told of the journal's first entries, and whatever a crash since then might have left has these: a log of
  -- the journal's first entries, and these among them, and each other file as it is.
  pub record IsKeptLine (day : DayValue D) (s : ShownLine) : Type 0 where
    pub told : MayBeTold (at_count day.history s.count) s.station s.line
    pub among : s.count ≤ length day.history.journal
    pub past : m.keeps_promises → s.moment ≤ m.moment day.log.disk
    pub kept : m.keeps_promises → (c : Folder) → m.left_since day.log.disk s.moment c
        → HasFrontIn day.log.name day.log.head s.count (parts_of day.history.journal) (m.seen day.log.disk) c

  -- From one moment of a day to another the journal goes on, and a crash at any moment leaves a log of its first entries, those of
  -- the beginning among them, and each other file as it was.
  pub record IsDayAfter (old new : DayValue D) : Type 0 where
    pub name : new.log.name ≡ old.log.name
    pub head : new.log.head ≡ old.log.head
    pub history : HasGoneOn old.history new.history
    pub others : SameBut old.log.name (m.seen old.log.disk) (m.seen new.log.disk)
    pub moments : m.keeps_promises
        → LeavesOnly m old.log.disk new.log.disk (HasFrontIn old.log.name old.log.head (length old.history.journal) (parts_of new.history.journal) (m.seen old.log.disk))

  -- the day goes on so, and each line that was shown meanwhile is kept
  pub record KeepsShown (old new : DayValue D) (shown shown_then : List ShownLine) : Type 0 where
    pub lines : List ShownLine
    pub more : shown_then ≡ shown ++ lines
    pub each : AllByRecursion (IsKeptLine new) lines
    pub after : IsDayAfter old new
