-- A setup that is checked.
use Rattle.std.specs.Prelude.{◌≡◌, ◌≢◌, ◌⊎◌, ℕ, Bool, true, false, not, List, ◌++◌, Option, Some, None, is_none, IfSome, Result, Ok, Err}
use Rattle.byte_io.specs.Sink.{grown}
use Rattle.catalogue_core.specs.declared.opening.OpenFault.{OpenFault}
use Rattle.catalogue_core.specs.Replay.{Opened}
use Rattle.folders.specs.declared.named.NamedFile.{NamedFile}
use Rattle.folders.specs.declared.source.LoadFault.{LoadFault}
use Rattle.folders.specs.declared.source.LoadFault.TheVariants as load
use Rattle.folders.specs.Files.{IsFileOf}
use Rattle.station_lines.specs.Script.Reading.{is_empty}
use Rattle.station_lines.specs.declared.setup.entry.SetupEntry.{SetupEntry}
use Rattle.station_lines.specs.Setup.{HasNextEntry, IsSetup}
use Rattle.setup_check.specs.declared.finding.Finding.{Finding}
use Rattle.setup_files.specs.declared.content.EntryContent.{EntryContent}
use Rattle.setup_files.specs.declared.fault.EntryFault.{EntryFault}
use Rattle.setup_files.specs.EntryFiles.{AreEntriesRead}
use Rattle.setup_files.specs.Loads.{AreEntryLoads}
use Rattle.setup_check.specs.Findings.{AreFindings, AreFoundOf}
use Rattle.setup_check.specs.KeptLines.{kept_lines}
use Rattle.setup_check.specs.Lines.{setup_lines}
use Rattle.setup_check.specs.OpenDays.{AreDaysTold}
use Rattle.setup_check.specs.declared.scripts.BadLinesTold.{BadLinesTold}
use Rattle.setup_check.specs.ScriptLines.{AreScriptTexts, IsBadSetupText}
use Rattle.office_run.specs.declared.fault.ServeFault.{ServeFault}
use Rattle.office_run.specs.declared.fault.ServeFault.TheVariants.{Refused, NoMemory as NoMemoryToServe}
use Rattle.office_run.specs.Loading.{first_refused}
use Rattle.office_run.specs.OpenedSetup.{IsOpenedBy, IsUnopened}
use Rattle.office_run.specs.WholeRun.{IsSaid}
use Rattle.tool_program.specs.Verdict.{verdict_line}
use Rattle.tool_program.specs.declared.checking.CheckFault.{CheckFault}
use Rattle.tool_program.specs.declared.checking.CheckFault.TheVariants.{CannotRead, Unrecovered, BadLine, NoMemory, Sink}

abbrev pub check_load_fault : LoadFault → CheckFault
check_load_fault load.CannotRead = CannotRead
check_load_fault load.Unrecovered = Unrecovered
check_load_fault load.NoMemory = NoMemory

-- what the server does with what the setup of this path names: it opens all, or nothing, and this is why
abbrev pub IsOpening : Option (List NamedFile) → List ℕ → Option ServeFault → Type 0
IsOpening files path None = (opened : Opened) × IsOpenedBy files path false opened
IsOpening files path (Some fault) = (fault ≢ NoMemoryToServe) × IsUnopened files path false fault

-- what is said of entries, of what was read of them, and of what was told of days that are open beside them
abbrev pub Loads : Type 1
Loads = List SetupEntry → List (Result EntryContent EntryFault) → List ℕ → Type 0

-- The files of the entries were loaded, and then the logs in the folders of their tables, of which this was told: what happened to the
-- count of loads that failed.
pub record AreCheckLoads (files : Option (List NamedFile)) (before after : Option ℕ) (entries : List SetupEntry) (reads : List (Result EntryContent EntryFault)) (days : List ℕ) : Type 0 where
  pub next : Option ℕ
  pub loads : AreEntryLoads files before next entries reads
  pub logs : AreDaysTold files next after entries days

-- what was read of the entries of a setup, where `loads` says what happened to the count of loads that failed
pub record IsSetupRead (files : Option (List NamedFile)) (loads : Loads) (path : List ℕ) (entries : List SetupEntry) (reads : List (Result EntryContent EntryFault)) (days : List ℕ) : Type 0 where
  pub said : IsSaid files path (Ok entries)
  pub read : AreEntriesRead files entries reads
  pub loaded : loads entries reads days

-- a fault is that of the first entry whose files are refused; or no entry's are, and it is one of opening
abbrev pub IsFirstFault : List SetupEntry → List (Result EntryContent EntryFault) → ServeFault → Type 0
IsFirstFault entries reads fault = (first_refused entries reads ≡ Some fault) ⊎ ((first_refused entries reads ≡ None) × (why : OpenFault) × (fault ≡ Refused why))

-- whether the server opens all; if it does not, why is one of what was read
abbrev pub IsVerdict : Option (List NamedFile) → Loads → List ℕ → Bool → Type 0
IsVerdict files loads path true = IsOpening files path None
IsVerdict files loads path false =
    (fault : ServeFault) × IsOpening files path (Some fault)
    × (entries : List SetupEntry) × (reads : List (Result EntryContent EntryFault)) × (days : List ℕ) × IsSetupRead files loads path entries reads days × IsFirstFault entries reads fault

-- What was told of a setup: what is found at each of its entries, which of its files stay as they are beside new ones, which lines
-- of its scripts are no commands, in which folders of its tables a day is open, and whether the server opens all, or why it opens
-- nothing. Of files that are refused it is told what was met where they were read.
pub record IsTold (files : Option (List NamedFile)) (loads : Loads) (path : List ℕ) (bad_lines : BadLinesTold) (opens : Bool) (old new : Option (List ℕ)) : Type 0 where
  pub entries : List SetupEntry
  pub reads : List (Result EntryContent EntryFault)
  pub findings : List Finding
  pub scripts : List ℕ
  pub days : List ℕ
  pub fault : Option ServeFault
  pub setup : IsSetupRead files loads path entries reads days
  pub looked : AreFindings files entries findings
  pub refused : AreFoundOf reads findings
  pub read : AreScriptTexts files bad_lines entries scripts
  pub opening : IsOpening files path fault
  pub first : IfSome fault (IsFirstFault entries reads)
  pub answer : opens ≡ is_none fault
  pub wrote : new ≡ grown old ((((setup_lines entries findings ++ kept_lines entries) ++ scripts) ++ days) ++ verdict_line (not (is_empty days)) fault)

-- what is told of the bad line of this number says why it is; it is nothing where memory was refused for it
abbrev pub IsReasonOf : List ℕ → ℕ → Option (List ℕ) → Type 0
IsReasonOf text number None = Unit {0}
IsReasonOf text number (Some told) = IsBadSetupText text number told

-- the fault says that the line of this number is bad, and why
abbrev pub IsBadLineFault : List ℕ → ℕ → CheckFault → Type 0
IsBadLineFault text number (BadLine told why) = (told ≡ number) × IsReasonOf text number why
IsBadLineFault text number fault = ⊥

-- a fault is one of a setup's lines: the first that is bad, and why, or out of memory at a line that may stand there
abbrev pub IsLineFault : List ℕ → CheckFault → Type 0
IsLineFault text (BadLine number why) = IsSetup text (Err number) × IsReasonOf text number why
IsLineFault text NoMemory = HasNextEntry text
IsLineFault text fault = ⊥

-- where the fault is a bad line, the setup of this path has it, first among its bad lines, and it is told why
abbrev pub TellsBadLine : Option (List NamedFile) → List ℕ → CheckFault → Type 0
TellsBadLine files path (BadLine number why) = (text : List ℕ) × IsFileOf files path text × IsLineFault text (BadLine number why)
TellsBadLine files path fault = Unit {0}

-- a fault after which nothing was printed: each except a failure of the sink
abbrev pub TellsNothing : CheckFault → Type 0
TellsNothing CannotRead = Unit {0}
TellsNothing Unrecovered = Unit {0}
TellsNothing (BadLine number why) = Unit {0}
TellsNothing NoMemory = Unit {0}
TellsNothing Sink = ⊥
