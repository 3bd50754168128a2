-- The marks of a day in the folders from which it reads, where its log lies elsewhere.
use Rattle.std.specs.Prelude.{◌≡◌, ◌⊎◌, ◌∷◌, [], ℕ, true, false, List, Option, Ok}
use Rattle.std.specs.List.{Contains}
use Rattle.clap.specs.Words.{Text}
use Rattle.files_in_place.specs.Disk.{DiskMeaning}
use Rattle.folders.specs.declared.named.NamedFile.{NamedFile}
use Rattle.folders.specs.Paths.{folder_of_path}
use Rattle.office_run.specs.WholeRun.{IsSaid}
use Rattle.office_run.specs.declared.close_fault.CloseFault.TheVariants.{Write}
use Rattle.office_run.specs.declared.fault.ServeFault.TheVariants.{Close, NoMemory}
use Rattle.open_day.specs.OpenDay.{is_day_file, mark_name}
use Rattle.program_frame.specs.BesideDay.{IsWithoutDay}
use Rattle.program_frame.specs.InputDays.{FileAnswers, IsInput}
use Rattle.program_frame.specs.Placing.{HasPutInto}
use Rattle.program_frame.specs.declared.ending.Failure.{Failure}
use Rattle.program_frame.specs.declared.ending.Failure.TheVariants as failure
use Rattle.program_frame.specs.declared.folder.FolderFault.TheVariants as folder
use Rattle.program_frame.specs.declared.folder.PlaceFault.{PlaceFault}
use Rattle.program_frame.specs.declared.folder.PlaceFault.TheVariants as place
use Rattle.station_lines.specs.declared.setup.entry.SetupEntry.{SetupEntry}
use Rattle.live_program.specs.Asked.{IsAskedIn}
use Rattle.live_program.specs.Endings.{no_memory}
use Rattle.live_program.specs.OtherDays.{others_answer}
use Rattle.live_program.specs.declared.failure.LiveFailure.{LiveFailure}
use Rattle.live_program.specs.declared.failure.LiveFailure.TheVariants as live
use Rattle.live_program.specs.declared.options.Options.{Options}

-- the mark of a day whose log has this path
abbrev pub mark_file : List ℕ → NamedFile
mark_file log = record { name = mark_name; bytes = log }

-- The mark was put into a folder that was opened so, by a system that has answered so of logs: no day of another was open there, and each
-- other file is as it was when what an earlier run left had been brought to its end. A crash at any moment left the old files, or the mark.
abbrev pub IsMarkPut : {D : Type 0} → DiskMeaning D → FileAnswers → (D → Type 0) → List ℕ → Type 0
IsMarkPut m answers is_folder log = HasPutInto m (IsWithoutDay m answers is_folder) (λ files. files ≡ mark_file log ∷ [])

-- the file of the path lies in the folder of the log, or its folder has the mark
abbrev pub IsMarked : {D : Type 0} → DiskMeaning D → FileAnswers → (List ℕ → List ℕ → Type 0) → (List ℕ → D → Type 0) → List ℕ → List ℕ → List ℕ → Type 0
IsMarked m answers lies opens out log path = lies path out ⊎ IsMarkPut m (others_answer answers lies out) (opens (folder_of_path path)) log

-- folders of these paths have the mark
abbrev pub AreMarkedAmong : {D : Type 0} → DiskMeaning D → FileAnswers → (List ℕ → List ℕ → Type 0) → (List ℕ → D → Type 0) → List ℕ → List ℕ → List (List ℕ) → Type 0
AreMarkedAmong m answers lies opens out log folders =
    (path : List ℕ) → Contains folders path → IsMarkPut m (others_answer answers lies out) (opens path) log

-- Each folder from which the day reads has its mark, but for the one of its log, and none of the files that it reads has the name of one
-- of its own: the marks name the log of this path, which is the day's.
pub record AreMarked {D : Type 0} (m : DiskMeaning D) (answers : FileAnswers) (lies : List ℕ → List ℕ → Type 0) (opens : List ℕ → D → Type 0)
    (names_log : List ℕ → List ℕ → Type 0) (files : Option (List NamedFile)) (options : Options) : Type 0 where
  pub log : List ℕ
  pub named : names_log options.out.now log
  pub entries : List SetupEntry
  pub said : IsSaid files options.setup.now (Ok entries)
  pub each : (path : List ℕ) → IsInput options.setup.now entries path → IsMarked m answers lies opens options.out.now log path
  pub own : (path : List ℕ) → IsInput options.setup.now entries path → is_day_file path ≡ false

-- ---- why they are not put

-- the whole path of the log is not known: memory was refused, or its folder can't be found
abbrev pub IsUnfound : PlaceFault → Type 0
IsUnfound fault = (fault ≡ place.NoMemory) ⊎ (fault ≡ place.Folder folder.Unopened)

-- memory was refused, or the folder has not taken the mark
abbrev pub IsMarkUnwritten : LiveFailure → Type 0
IsMarkUnwritten (live.Serve NoMemory) = Unit {0}
IsMarkUnwritten (live.Serve (Close (Write name))) = name ≡ mark_name
IsMarkUnwritten why = ⊥

-- what is said of the folder of a path where the work of marking it failed so
abbrev pub unmarked_for : List ℕ → Failure LiveFailure → Failure LiveFailure
unmarked_for path (failure.Folder folder.DayOpen) = failure.Folder folder.DayOpen
unmarked_for path (failure.Folder (folder.UnknownDay log said)) = failure.Folder (folder.UnknownDay log said)
unmarked_for path (failure.Work (live.Serve NoMemory)) = failure.Work no_memory
unmarked_for path why = failure.Work (live.Unmarked (folder_of_path path))

-- why the folder of a path has not got the mark: memory was refused, a day of another is open there or that is not known, it can't be
-- marked, or the path ends with the name of one of a day's own files
abbrev pub IsMarkRefused : List ℕ → Failure LiveFailure → Type 0
IsMarkRefused path (failure.Folder folder.DayOpen) = Unit {0}
IsMarkRefused path (failure.Folder (folder.UnknownDay log said)) = Unit {0}
IsMarkRefused path (failure.Work (live.Unmarked own)) = own ≡ folder_of_path path
IsMarkRefused path (failure.Work (live.OwnName own)) = (own ≡ path) × (is_day_file path ≡ true)
IsMarkRefused path (failure.Work why) = why ≡ no_memory
IsMarkRefused path why = ⊥

-- the words ask for a day whose folders have its marks
abbrev pub AskForMarks : {D : Type 0} → DiskMeaning D → (List ℕ → D → Type 0) → (List ℕ → List ℕ → Type 0) → FileAnswers → (List ℕ → List ℕ → Type 0) → Option (List NamedFile) → List Text → Type 0
AskForMarks m opens names_log answers lies files words =
    (options : Options) × IsAskedIn words options × AreMarked m answers lies opens names_log files options
