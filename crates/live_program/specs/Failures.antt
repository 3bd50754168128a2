-- Why a life of the program failed.
use Rattle.std.specs.Prelude.{◌≡◌, ◌⊎◌, ◌≤◌, List, ℕ, Option}
use Rattle.std.specs.List.{Contains}
use Rattle.catalogue_core.specs.Replay.{History, IsLegal, Opened}
use Rattle.clap.specs.Words.{Text}
use Rattle.dbf_fields.specs.declared.day.Day.{Day}
use Rattle.files_in_place.specs.Disk.{DiskMeaning}
use Rattle.files_in_place.specs.Folder.{Folder, recovered}
use Rattle.files_in_place.specs.declared.faults.DiskFault.{DiskFault}
use Rattle.files_in_place.specs.declared.faults.SetFault.{SetFault}
use Rattle.folders.specs.declared.finish_fault.FinishFault.{FinishFault}
use Rattle.folders.specs.declared.named.NamedFile.{NamedFile}
use Rattle.live_day.specs.Starts.{IsLogFault}
use Rattle.live_day.specs.declared.run_fault.RunFault.{RunFault}
use Rattle.live_day.specs.declared.start_fault.StartFault.{StartFault}
use Rattle.live_log.specs.Gates.{or_empty_log}
use Rattle.office_run.specs.Closing.{answer_name}
use Rattle.office_run.specs.HandedOver.{AreHandedOver}
use Rattle.office_run.specs.TablesWritten.{dated_files, IsTablesFault}
use Rattle.office_run.specs.declared.close_fault.CloseFault.TheVariants.{Write}
use Rattle.office_run.specs.declared.closed.ClosedTable.{ClosedTable}
use Rattle.office_run.specs.declared.fault.ServeFault.{ServeFault}
use Rattle.office_run.specs.declared.fault.ServeFault.TheVariants.{Close, NoMemory}
use Rattle.open_day.specs.OpenDay.{log_name}
use Rattle.program_frame.specs.Endings.{place_failure}
use Rattle.program_frame.specs.Jobs.{IsUnrecovered}
use Rattle.program_frame.specs.PlaceFaults.{unplaced_files, IsOfLock}
use Rattle.program_frame.specs.declared.ending.Ending.{Ending}
use Rattle.program_frame.specs.declared.ending.Ending.TheVariants as ending
use Rattle.program_frame.specs.declared.ending.Failure.{Failure}
use Rattle.program_frame.specs.declared.ending.Failure.TheVariants as failure
use Rattle.program_frame.specs.declared.folder.PlaceFault.{PlaceFault}
use Rattle.live_program.specs.Asked.{IsAskedIn, IsWhyNotRead}
use Rattle.live_program.specs.Endings.{no_memory, run_failure, start_failure, unplaced_log, unread_log}
use Rattle.journal_file.specs.declared.sum.FileSum.{FileSum}
use Rattle.live_program.specs.Heads.{IsBehindHead, IsHeadFailure}
use Rattle.live_program.specs.Openings.{AreFilesRead, AreTablesOpened, AreTablesUnopened}
use Rattle.live_program.specs.OtherDays.{IsOtherRefusal}
use Rattle.live_program.specs.declared.failure.LiveFailure.{LiveFailure}
use Rattle.live_program.specs.declared.failure.LiveFailure.TheVariants as live
use Rattle.live_program.specs.declared.options.Options.{Options}

-- ---- a day that was not begun

-- why a day was not begun: the tables of the setup are not opened
pub record IsTablesFailure (files : Option (List NamedFile)) (options : Options) (why : LiveFailure) : Type 0 where
  pub fault : ServeFault
  pub unopened : AreTablesUnopened files options.setup.now options.reindex fault
  pub why_is : why ≡ live.Serve fault

-- they are, but what the folder's log says behind its head does not hold on them, up to this fault, where the disk keeps its promises
pub record IsLogFailure {D : Type 0} (m : DiskMeaning D) (folder : Folder) (files : Option (List NamedFile)) (options : Options) (why : LiveFailure) : Type 0 where
  pub opened : Opened
  pub tables : AreTablesOpened files options.setup.now options.reindex opened
  pub read : List FileSum
  pub known : AreFilesRead files options.setup.now read
  pub earlier : ℕ
  pub body : List ℕ
  pub behind : m.keeps_promises → IsBehindHead read options.reindex (or_empty_log (folder log_name)) earlier body
  pub fault : StartFault
  pub told : IsLogFault opened body fault
  pub why_is : why ≡ start_failure fault

-- the log was not read, or that of the same entries has not got its place
abbrev pub IsLogUnplaced : LiveFailure → Type 0
IsLogUnplaced why = ((fault : DiskFault) × (why ≡ unread_log fault)) ⊎ ((fault : SetFault) × (why ≡ unplaced_log fault))

-- or the folder's log is none of this version, or has not begun with the files that were read
pub record IsOtherDay {D : Type 0} (m : DiskMeaning D) (folder : Folder) (files : Option (List NamedFile)) (options : Options) (why : LiveFailure) : Type 0 where
  pub read : List FileSum
  pub known : AreFilesRead files options.setup.now read
  pub log : List ℕ
  pub there : m.keeps_promises → log ≡ or_empty_log (folder log_name)
  pub told : IsHeadFailure log read options.reindex why

-- one of the four
abbrev pub IsUnstarted : {D : Type 0} → DiskMeaning D → Folder → Option (List NamedFile) → Options → LiveFailure → Type 0
IsUnstarted m folder files options why =
    IsTablesFailure files options why ⊎ IsLogFailure m folder files options why ⊎ IsLogUnplaced why ⊎ IsOtherDay m folder files options why

-- The log that was found, its folder, or another from which the day reads lets no day begin: no day that was begun ends so.
abbrev pub IsOfStart : LiveFailure → Type 0
IsOfStart (live.NoLog number) = Unit {0}
IsOfStart (live.OtherFile path) = Unit {0}
IsOfStart live.OtherReindex = Unit {0}
IsOfStart live.OtherVersion = Unit {0}
IsOfStart (live.Entry fault) = Unit {0}
IsOfStart live.Unstarted = Unit {0}
IsOfStart (live.Unmarked folder) = Unit {0}
IsOfStart (live.OwnName path) = Unit {0}
IsOfStart why = ⊥

-- ---- a day that was begun

-- why the lines of a day that was begun were not all answered: a fault of which this says when it is told
abbrev pub IsStopFailure : (RunFault → Type 0) → LiveFailure → Type 0
IsStopFailure is_told why = (fault : RunFault) × is_told fault × (why ≡ run_failure fault)

-- memory was refused, or the folder has not taken a file, whose name is such a one
abbrev pub IsFileUnwritten : (List ℕ → Type 0) → ServeFault → Type 0
IsFileUnwritten is_such NoMemory = Unit {0}
IsFileUnwritten is_such (Close (Write name)) = is_such name
IsFileUnwritten is_such fault = ⊥

-- the name is that of the answers of one of so many stations
abbrev pub IsAnswerName : ℕ → List ℕ → Type 0
IsAnswerName stations name = (station : ℕ) × (1 ≤ station) × (station ≤ stations) × (name ≡ answer_name station)

-- the name is that of the answers of one of so many stations, or that of the log
abbrev pub IsNameBeside : ℕ → List ℕ → Type 0
IsNameBeside stations name = IsAnswerName stations name ⊎ (name ≡ log_name)

-- one of these files has the name
abbrev pub IsNameAmong : List NamedFile → List ℕ → Type 0
IsNameAmong files name = (bytes : List ℕ) × Contains files (record { name = name; bytes = bytes })

-- a file that the folder has not taken is one of the tables and their indexes
abbrev pub IsTableNamed : History → Day → ServeFault → Type 0
IsTableNamed h today (Close (Write name)) = (tables : List ClosedTable) × AreHandedOver h tables × IsNameAmong (dated_files today tables) name
IsTableNamed h today fault = Unit {0}

-- the tables can't be written as they stand at the end of a legal journal
abbrev pub IsTableFault : History → Day → ServeFault → Type 0
IsTableFault h today fault = IsLegal h.opened h.journal × IsTablesFault h today.year fault × IsTableNamed h today fault

-- the files of a day's end are not written, or not all
abbrev pub IsDayFailure : History → Day → LiveFailure → Type 0
IsDayFailure h today why =
    (fault : ServeFault) × (IsFileUnwritten (IsNameBeside h.opened.stations) fault ⊎ IsTableFault h today fault) × (why ≡ live.Serve fault)

-- the files of a day's end are written, but have not got their places
abbrev pub AreFilesUnplaced : Failure LiveFailure → Type 0
AreFilesUnplaced why = (fault : FinishFault) × (why ≡ place_failure no_memory (unplaced_files fault))

-- the day was not closed
abbrev pub IsUnclosed : History → Day → Failure LiveFailure → Type 0
IsUnclosed h today why = ((fault : LiveFailure) × IsDayFailure h today fault × (why ≡ failure.Work fault)) ⊎ AreFilesUnplaced why

-- the day was stopped or not closed
abbrev pub IsUnended : (RunFault → Type 0) → History → Day → Failure LiveFailure → Type 0
IsUnended is_told h today why = ((stop : LiveFailure) × IsStopFailure is_told stop × (why ≡ failure.Work stop)) ⊎ IsUnclosed h today why

-- ---- a life

-- A day on these tables was begun, and this is why it has not come to its end; where its lines were not all answered, this says when the
-- fault is told at the journal's end.
abbrev pub IsUnendedFrom : (History → RunFault → Type 0) → Opened → Day → Failure LiveFailure → Type 0
IsUnendedFrom is_told opened today why = (last : History) × (last.opened ≡ opened) × IsUnended (is_told last) last today why

-- the same of a day on the tables of the setup
abbrev pub IsUnendedOn : (History → RunFault → Type 0) → Option (List NamedFile) → Options → Failure LiveFailure → Type 0
IsUnendedOn is_told files options why =
    (opened : Opened) × AreTablesOpened files options.setup.now options.reindex opened × IsUnendedFrom is_told opened options.today why

-- a life over the folder of a disk failed: the folder was not recovered, another day is open where this one reads, the day was not begun, or has not come to its end
abbrev pub IsLifeFailure : {D : Type 0} → DiskMeaning D → (History → RunFault → Type 0) → Option (List NamedFile) → Options → D
    → Failure LiveFailure → Type 0
IsLifeFailure m is_told files options disk why =
    IsUnrecovered no_memory why
    ⊎ IsOtherRefusal files options why
    ⊎ ((fault : LiveFailure) × IsUnstarted m (recovered (m.seen disk)) files options fault × (why ≡ failure.Work fault))
    ⊎ IsUnendedOn is_told files options why

-- a life over the folder of a disk failed, or its folder was not opened
abbrev pub IsOptionsFailure : {D : Type 0} → DiskMeaning D → (D → Type 0) → (History → RunFault → Type 0) → Option (List NamedFile) → Options
    → Failure LiveFailure → Type 0
IsOptionsFailure {D} m is_opened is_told files options why =
    ((fault : PlaceFault) × IsOfLock fault × (why ≡ place_failure no_memory fault))
    ⊎ ((disk : D) × is_opened disk × IsLifeFailure m is_told files options disk why)

-- the words of a command line ask for a life that failed
pub record IsAskedFailure {D : Type 0} (m : DiskMeaning D) (opens : List ℕ → D → Type 0) (is_told : History → RunFault → Type 0)
    (files : Option (List NamedFile)) (words : List Text) (end : Ending (Failure LiveFailure)) : Type 0 where
  pub options : Options
  pub asked : IsAskedIn words options
  pub why : Failure LiveFailure
  pub failed : IsOptionsFailure m (opens options.out.now) is_told files options why
  pub end_is : end ≡ ending.Failed why

-- why there was no life that came to its end: the words were not read, or ask for one that failed
abbrev pub IsWhyUnlived : {D : Type 0} → DiskMeaning D → (List ℕ → D → Type 0) → (History → RunFault → Type 0) → Option (List NamedFile) → List Text
    → Ending (Failure LiveFailure) → Type 0
IsWhyUnlived m opens is_told files words end = IsWhyNotRead words end ⊎ IsAskedFailure m opens is_told files words end
