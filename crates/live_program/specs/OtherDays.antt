-- Days of others that are open where a day reads.
use Rattle.std.specs.Prelude.{◌≡◌, ◌⊎◌, ℕ, true, List, Option, None, Ok, Err}
use Rattle.clap.specs.Words.{Text}
use Rattle.files_in_place.specs.Disk.{DiskMeaning}
use Rattle.folders.specs.Paths.{folder_of_path}
use Rattle.folders.specs.declared.named.NamedFile.{NamedFile}
use Rattle.folders.specs.declared.source.LoadFault.TheVariants.{NoMemory}
use Rattle.office_run.specs.WholeRun.{IsReadFault, IsSaid}
use Rattle.office_run.specs.declared.fault.ServeFault.{ServeFault}
use Rattle.open_day.specs.OpenDay.{is_day_file}
use Rattle.program_frame.specs.BesideDay.{HasOpenDayIn}
use Rattle.program_frame.specs.InputDays.{FileAnswers, HasInputDay, HasNoInputDay, IsInput}
use Rattle.station_lines.specs.declared.setup.entry.SetupEntry.{SetupEntry}
use Rattle.program_frame.specs.declared.ending.Failure.{Failure}
use Rattle.program_frame.specs.declared.ending.Failure.TheVariants as failure
use Rattle.program_frame.specs.declared.folder.FolderFault.TheVariants as folder
use Rattle.live_program.specs.Asked.{IsAskedIn}
use Rattle.live_program.specs.declared.failure.LiveFailure.{LiveFailure}
use Rattle.live_program.specs.declared.failure.LiveFailure.TheVariants as live
use Rattle.live_program.specs.declared.options.Options.{Options}

-- what is answered of a file where the folder of this path is passed over: a file that is said to lie in it is not there; or memory was
-- refused before that was known
abbrev pub others_answer : FileAnswers → (List ℕ → List ℕ → Type 0) → List ℕ → FileAnswers
others_answer answers lies out path answer = answers path answer ⊎ (lies path out × (answer ≡ Ok None)) ⊎ (answer ≡ Err NoMemory)

-- no day is open in a folder from which the day reads, but for the folder of its own log
abbrev pub HasNoOtherDay : FileAnswers → (List ℕ → List ℕ → Type 0) → Option (List NamedFile) → Options → Type 0
HasNoOtherDay answers lies files options = HasNoInputDay (others_answer answers lies options.out.now) files options.setup.now

-- or a day is open in one of them
abbrev pub HasOtherDay : FileAnswers → (List ℕ → List ℕ → Type 0) → Option (List NamedFile) → Options → Type 0
HasOtherDay answers lies files options = HasInputDay (others_answer answers lies options.out.now) files options.setup.now

-- what is said of a day where the setup's files are not read for this
abbrev pub of_serving : Failure ServeFault → Failure LiveFailure
of_serving failure.BadDate = failure.BadDate
of_serving (failure.Work fault) = failure.Work (live.Serve fault)
of_serving (failure.Folder why) = failure.Folder why

-- such a one is among the paths of the files that the day reads
abbrev pub IsOfInput : Option (List NamedFile) → Options → (List ℕ → Type 0) → Type 0
IsOfInput files options is_such =
    (entries : List SetupEntry) × (path : List ℕ) × IsSaid files options.setup.now (Ok entries) × IsInput options.setup.now entries path × is_such path

-- why a day is not begun for the folders from which it reads, or for the mark in its own: another day is open there, that is not known, the
-- setup is not read, a folder can't be given its mark, a file has the name of one of the day's own, or the folder of its log failed
abbrev pub IsOtherRefusal : Option (List NamedFile) → Options → Failure LiveFailure → Type 0
IsOtherRefusal files options (failure.Work (live.Serve fault)) = IsReadFault files options.setup.now fault
IsOtherRefusal files options (failure.Work (live.Unmarked marked)) = IsOfInput files options (λ path. folder_of_path path ≡ marked)
IsOtherRefusal files options (failure.Work (live.OwnName own)) = IsOfInput files options (λ path. (path ≡ own) × (is_day_file path ≡ true))
IsOtherRefusal files options (failure.Folder folder.DayOpen) = Unit {0}
IsOtherRefusal files options (failure.Folder (folder.UnknownDay log said)) = Unit {0}
IsOtherRefusal files options (failure.Folder folder.Unrecovered) = Unit {0}
IsOtherRefusal files options (failure.Folder folder.Unopened) = Unit {0}
IsOtherRefusal files options why = ⊥

-- A day of another is open where this one reads; or it was found open, by its log or by the one that a mark names, in the folder of its
-- log or in one that was to be marked.
abbrev pub HasDayElsewhere : {D : Type 0} → DiskMeaning D → (List ℕ → D → Type 0) → FileAnswers → (List ℕ → List ℕ → Type 0) → Option (List NamedFile) → Options → Type 0
HasDayElsewhere m opens answers lies files options =
    HasOtherDay answers lies files options
    ⊎ ((path : List ℕ) × HasOpenDayIn m (others_answer answers lies options.out.now) (opens path))

-- the words ask for such a day
abbrev pub AskForNoOtherDay : FileAnswers → (List ℕ → List ℕ → Type 0) → Option (List NamedFile) → List Text → Type 0
AskForNoOtherDay answers lies files words = (options : Options) × IsAskedIn words options × HasNoOtherDay answers lies files options

-- or for one beside another
abbrev pub AskForOtherDay : {D : Type 0} → DiskMeaning D → (List ℕ → D → Type 0) → FileAnswers → (List ℕ → List ℕ → Type 0) → Option (List NamedFile) → List Text → Type 0
AskForOtherDay m opens answers lies files words = (options : Options) × IsAskedIn words options × HasDayElsewhere m opens answers lies files options
