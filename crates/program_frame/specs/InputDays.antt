-- Live days that are open in the folders from which a program reads.
use Rattle.std.specs.Prelude.{◌≡◌, ◌⊎◌, ℕ, Bool, true, false, List, Option, Some, None, Result, Ok, Err}
use Rattle.std.specs.List.{Contains}
use Rattle.folders.specs.declared.named.NamedFile.{NamedFile}
use Rattle.folders.specs.declared.source.LoadFault.{LoadFault}
use Rattle.folders.specs.declared.source.LoadFault.TheVariants as load
use Rattle.office_run.specs.declared.fault.FileFault.TheVariants.{CannotRead, Unrecovered}
use Rattle.office_run.specs.declared.fault.ServeFault.{ServeFault}
use Rattle.office_run.specs.WholeRun.{IsReadFault, IsSaid}
use Rattle.open_day.specs.OpenDay.{is_open_file, log_beside, mark_beside}
use Rattle.program_frame.specs.declared.ending.Failure.{Failure}
use Rattle.program_frame.specs.declared.ending.Failure.TheVariants as failure
use Rattle.program_frame.specs.declared.folder.FolderFault.TheVariants as folder
use Rattle.program_frame.specs.declared.folder.PlaceFault.{PlaceFault}
use Rattle.program_frame.specs.declared.folder.PlaceFault.TheVariants as place
use Rattle.station_lines.specs.declared.setup.entry.SetupEntry.{SetupEntry}
use Rattle.station_lines.specs.declared.setup.entry.SetupEntry.TheVariants.{Table, Index, Station}

-- what a system has answered where the file of a path was asked for: its bytes, that there is none, or why they can't be had
abbrev pub FileAnswers : Type 1
FileAnswers = List ℕ → Result (Option (List ℕ)) LoadFault → Type 0

-- ---- the files that are read of a setup, but for its scripts

-- the entry names a table, a memo file or an index of this path
abbrev pub IsNamedBy : SetupEntry → List ℕ → Type 0
IsNamedBy (Table name dbf dbt) path = (path ≡ dbf) ⊎ (dbt ≡ Some path)
IsNamedBy (Index table name ndx) path = path ≡ ndx
IsNamedBy (Station script) path = ⊥

-- one of the entries names it
abbrev pub IsNamedIn : List SetupEntry → List ℕ → Type 0
IsNamedIn entries path = (entry : SetupEntry) × Contains entries entry × IsNamedBy entry path

-- the path is that of the setup that says these entries, or one of them names it
abbrev pub IsInput : List ℕ → List SetupEntry → List ℕ → Type 0
IsInput setup entries path = (path ≡ setup) ⊎ IsNamedIn entries path

-- ---- the logs in their folders, and those that the marks in them name

-- the system has answered of the log of this path: a day is open by it, or none is
abbrev pub IsLogAt : FileAnswers → List ℕ → Bool → Type 0
IsLogAt answers path is = (log : Option (List ℕ)) × answers path (Ok log) × (is_open_file log ≡ is)

-- the same of the log that a mark names, whose bytes are its path; by no mark none is
abbrev pub IsMarkAt : FileAnswers → Option (List ℕ) → Bool → Type 0
IsMarkAt answers None is = is ≡ false
IsMarkAt answers (Some log) is = IsLogAt answers log is

-- the same of the mark in the folder of this path
abbrev pub IsMarkedBeside : FileAnswers → List ℕ → Bool → Type 0
IsMarkedBeside answers path is = (mark : Option (List ℕ)) × answers (mark_beside path) (Ok mark) × IsMarkAt answers mark is

-- the system has answered of the folder of this path: no day is open by the log that lies there, nor by one that its mark names
abbrev pub IsClosedBeside : FileAnswers → List ℕ → Type 0
IsClosedBeside answers path = IsLogAt answers (log_beside path) false × IsMarkedBeside answers path false

-- or a day is open there by one of the two
abbrev pub IsOpenBeside : FileAnswers → List ℕ → Type 0
IsOpenBeside answers path = IsLogAt answers (log_beside path) true ⊎ IsMarkedBeside answers path true

-- the one or the other
abbrev pub IsDayBeside : FileAnswers → List ℕ → Bool → Type 0
IsDayBeside answers path true = IsOpenBeside answers path
IsDayBeside answers path false = IsClosedBeside answers path

-- a day is open in one of the folders of such files, or in none of them
abbrev pub IsOpenAmong : FileAnswers → (List ℕ → Type 0) → Bool → Type 0
IsOpenAmong answers are true = (path : List ℕ) × are path × IsOpenBeside answers path
IsOpenAmong answers are false = (path : List ℕ) → are path → IsClosedBeside answers path

-- no day is open in the folder of the setup, nor in that of a table, memo file or index that it names
pub record HasNoInputDay (answers : FileAnswers) (files : Option (List NamedFile)) (setup : List ℕ) : Type 0 where
  pub entries : List SetupEntry
  pub said : IsSaid files setup (Ok entries)
  pub closed : IsOpenAmong answers (IsInput setup entries) false

-- a day is open in one of these folders
pub record HasInputDay (answers : FileAnswers) (files : Option (List NamedFile)) (setup : List ℕ) : Type 0 where
  pub entries : List SetupEntry
  pub said : IsSaid files setup (Ok entries)
  pub is_open : IsOpenAmong answers (IsInput setup entries) true

-- the one or the other
abbrev pub IsInputDay : FileAnswers → Option (List NamedFile) → List ℕ → Bool → Type 0
IsInputDay answers files setup true = HasInputDay answers files setup
IsInputDay answers files setup false = HasNoInputDay answers files setup

-- ---- why they are not looked at

-- what is said of a log whose bytes can't be had
abbrev pub unread_log : List ℕ → LoadFault → PlaceFault
unread_log log load.NoMemory = place.NoMemory
unread_log log load.CannotRead = place.Folder (folder.UnknownDay log CannotRead)
unread_log log load.Unrecovered = place.Folder (folder.UnknownDay log Unrecovered)

-- a file that is asked for of the folder of this path: its log, its mark, and the log that the mark names
abbrev pub IsAskedBeside : FileAnswers → List ℕ → List ℕ → Type 0
IsAskedBeside answers path asked = (asked ≡ log_beside path) ⊎ (asked ≡ mark_beside path) ⊎ answers (mark_beside path) (Ok (Some asked))

-- a file can't be had, and the fault says why
abbrev pub IsUnreadAt : FileAnswers → List ℕ → PlaceFault → Type 0
IsUnreadAt answers asked fault = (why : LoadFault) × answers asked (Err why) × (fault ≡ unread_log asked why)

-- one that is asked for of one of the folders of such files can't be had, and the fault says why
abbrev pub IsUnreadAmong : FileAnswers → (List ℕ → Type 0) → PlaceFault → Type 0
IsUnreadAmong answers are fault =
    (path : List ℕ) × (asked : List ℕ) × (why : LoadFault) × are path × IsAskedBeside answers path asked × answers asked (Err why)
    × (fault ≡ unread_log asked why)

-- the same of the folder of the setup, and of those of the tables, memo files and indexes that it names
pub record IsInputLogFault (answers : FileAnswers) (files : Option (List NamedFile)) (setup : List ℕ) (fault : PlaceFault) : Type 0 where
  pub entries : List SetupEntry
  pub said : IsSaid files setup (Ok entries)
  pub unread : IsUnreadAmong answers (IsInput setup entries) fault

-- why files are not read: a day is open in a folder of theirs, as this says, that is not known, or memory was refused
abbrev pub IsPlaceRefusal : FileAnswers → Type 0 → PlaceFault → Type 0
IsPlaceRefusal answers is_open place.NoMemory = Unit {0}
IsPlaceRefusal answers is_open (place.Folder folder.DayOpen) = is_open
IsPlaceRefusal answers is_open (place.Folder (folder.UnknownDay log said)) = (why : LoadFault) × answers log (Err why)
IsPlaceRefusal answers is_open (place.Folder why) = ⊥

-- why a program does not begin to read what a setup names: a day is open there, that is not known, or the setup was not read
abbrev pub IsInputRefusal : FileAnswers → Option (List NamedFile) → List ℕ → Failure ServeFault → Type 0
IsInputRefusal answers files setup failure.BadDate = ⊥
IsInputRefusal answers files setup (failure.Work fault) = IsReadFault files setup fault
IsInputRefusal answers files setup (failure.Folder folder.DayOpen) = HasInputDay answers files setup
IsInputRefusal answers files setup (failure.Folder (folder.UnknownDay log why)) = IsInputLogFault answers files setup (place.Folder (folder.UnknownDay log why))
IsInputRefusal answers files setup (failure.Folder why) = ⊥

-- why work is not begun for the folders from which it reads: a day is open there, a log can't be had, or the work fails so
abbrev pub IsWorkRefusal : {F : Type 0} → FileAnswers → (F → Type 0) → F → Failure F → Type 0
IsWorkRefusal answers fails no_memory failure.BadDate = ⊥
IsWorkRefusal answers fails no_memory (failure.Work fault) = (fault ≡ no_memory) ⊎ fails fault
IsWorkRefusal answers fails no_memory (failure.Folder folder.DayOpen) = Unit {0}
IsWorkRefusal answers fails no_memory (failure.Folder (folder.UnknownDay log said)) = (why : LoadFault) × answers log (Err why)
IsWorkRefusal answers fails no_memory (failure.Folder why) = ⊥

-- ---- a mark in the folder for the new files

-- why work is not begun for the mark in the folder for the new files: the log that it names is that of an open day, or can't be had, or
-- the mark itself can't be read
abbrev pub IsMarkRefusal : {F : Type 0} → FileAnswers → F → Failure F → Type 0
IsMarkRefusal answers no_memory failure.BadDate = ⊥
IsMarkRefusal answers no_memory (failure.Work fault) = fault ≡ no_memory
IsMarkRefusal answers no_memory (failure.Folder folder.DayOpen) = Unit {0}
IsMarkRefusal answers no_memory (failure.Folder folder.Unrecovered) = Unit {0}
IsMarkRefusal answers no_memory (failure.Folder (folder.UnknownDay log said)) = (why : LoadFault) × answers log (Err why)
IsMarkRefusal answers no_memory (failure.Folder why) = ⊥
