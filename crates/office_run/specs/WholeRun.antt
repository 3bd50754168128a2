-- A whole run, from a setup and its files to the files that are written.
use Rattle.std.specs.Prelude.{◌≡◌, ◌≢◌, ◌⊎◌, ◌≤◌, ℕ, Bool, List, length, Option, Some, IfSome, Result, Ok, Err}
use Rattle.dbf_image.specs.Image.{IsOutside}
use Rattle.catalogue_core.specs.declared.catalogue.TheConstants.{MAX_ENTRIES}
use Rattle.catalogue_core.specs.declared.opening.OpenFault.{OpenFault}
use Rattle.catalogue_core.specs.declared.opening.OpenFault.TheVariants.{NoMemory as NoMemoryToOpen}
use Rattle.catalogue_core.specs.Opening.{Opening}
use Rattle.catalogue_core.specs.Replay.{Opened, History, IsLegal, AreOfStations}
use Rattle.office_run.specs.declared.close_fault.CloseFault.{CloseFault}
use Rattle.office_run.specs.declared.close_fault.CloseFault.TheVariants.{DateOutside, TooManyBlocks, Write, NoMemory as NoMemoryToClose}
use Rattle.office_run.specs.declared.closed.ClosedTable.{ClosedTable}
use Rattle.folders.specs.declared.named.NamedFile.{NamedFile}
use Rattle.office_run.specs.declared.run_fault.RunFault.{RunFault}
use Rattle.office_run.specs.declared.run_fault.RunFault.TheVariants.{ScriptCount}
use Rattle.station_lines.specs.declared.setup.entry.SetupEntry.{SetupEntry}
use Rattle.station_lines.specs.declared.setup.fault.SetupFault.{SetupFault}
use Rattle.station_lines.specs.declared.setup.fault.SetupFault.TheVariants.{Bad, NoMemory as NoMemoryToParse}
use Rattle.office_run.specs.declared.fault.BadSetup.{BadSetup}
use Rattle.office_run.specs.declared.fault.FileFault.{FileFault}
use Rattle.office_run.specs.declared.fault.ServeFault.{ServeFault}
use Rattle.office_run.specs.declared.fault.ServeFault.TheVariants.{Setup, File, Refused, Run, Close, NoMemory}
use Rattle.office_run.specs.Closing.{first_blocked, IsCutBy}
use Rattle.folders.specs.Files.{IsFileOf}
use Rattle.office_run.specs.HandedOver.{AreHandedOver}
use Rattle.office_run.specs.Loading.{Read, nothing, LoadAll, IsUnloaded, IsFaultIn}
use Rattle.office_run.specs.RunFaults.{IsFaultOfRun}
use Rattle.office_run.specs.Reports.{AreReports}
use Rattle.setup_check.specs.ScriptLines.{IsBadSetupText}
use Rattle.station_lines.specs.Setup.{IsSetup}

-- ---- reading

-- what the setup of this path says
pub record IsSaid (files : Option (List NamedFile)) (setup : List ℕ) (said : Result (List SetupEntry) ℕ) : Type 0 where
  pub text : List ℕ
  pub found : IsFileOf files setup text
  pub says : IsSetup text said

-- what is read: the files that the setup of this path names
pub record IsAllRead (files : Option (List NamedFile)) (setup : List ℕ) (read : Read) : Type 0 where
  pub entries : List SetupEntry
  pub said : IsSaid files setup (Ok entries)
  pub loaded : LoadAll files entries nothing read

-- no bytes are had of the setup, or a file that it names is not read
abbrev pub IsUnreadFile : Option (List NamedFile) → List ℕ → List ℕ → FileFault → Type 0
IsUnreadFile files setup path fault =
    ((path ≡ setup) × IsUnloaded files path fault)
    ⊎ ((entries : List SetupEntry) × IsSaid files setup (Ok entries) × IsFaultIn files entries (File path fault))

-- why not all is read
abbrev pub IsReadFault : Option (List NamedFile) → List ℕ → ServeFault → Type 0
IsReadFault files setup NoMemory = Unit {0}
IsReadFault files setup (Setup bad) = IsSaid files setup (Err bad.number)
IsReadFault files setup (File path fault) = IsUnreadFile files setup path fault
IsReadFault files setup fault = ⊥

-- ---- faults of steps, where want of memory is the whole run's own

-- the line of a setup of this text that is bad, and what is told of it, which is why
pub record IsBadSetup (text : List ℕ) (number : ℕ) (bad : BadSetup) : Type 0 where
  pub line : bad.number ≡ number
  pub why : IfSome bad.told (IsBadSetupText text number)

-- why a setup of this text says nothing
abbrev pub IsSetupFault : List ℕ → SetupFault → ServeFault → Type 0
IsSetupFault text (Bad number) fault = (bad : BadSetup) × IsBadSetup text number bad × (fault ≡ Setup bad)
IsSetupFault text NoMemoryToParse fault = fault ≡ NoMemory

abbrev pub open_fault : OpenFault → ServeFault
open_fault NoMemoryToOpen = NoMemory
open_fault fault = Refused fault

abbrev pub close_fault : CloseFault → ServeFault
close_fault NoMemoryToClose = NoMemory
close_fault fault = Close fault

-- ---- running

-- the tables were opened and the scripts run: this is the history at the end, and these are the stations' answers, as
-- many as there are scripts
pub record IsRun (reindex : Bool) (read : Read) (h : History) (answers : List (List ℕ)) : Type 0 where
  pub opened : Opening reindex (length read.scripts) read.tables (Ok h.opened.tables)
  pub stations : h.opened.stations ≡ length read.scripts
  pub reports : AreReports h.opened h.journal read.scripts answers

-- the tables were opened for the stations, and the fault is one of a run over them
abbrev pub IsOpenedFault : Bool → Read → RunFault → Type 0
IsOpenedFault reindex read fault =
    (opened : Opened) × Opening reindex (length read.scripts) read.tables (Ok opened.tables) × (opened.stations ≡ length read.scripts) × IsFaultOfRun opened read.scripts fault

-- why there is no end
abbrev pub IsRunFault : Bool → Read → ServeFault → Type 0
IsRunFault reindex read NoMemory = Unit {0}
IsRunFault reindex read (Refused fault) = (fault ≢ NoMemoryToOpen) × Opening reindex (length read.scripts) read.tables (Err fault)
IsRunFault reindex read (Run fault) = (fault ≢ ScriptCount) × IsOpenedFault reindex read fault
IsRunFault reindex read fault = ⊥

-- ---- writing

-- why the files of these tables are not written, or not all
abbrev pub IsWriteFault : ℕ → List ClosedTable → ServeFault → Type 0
IsWriteFault year tables NoMemory = Unit {0}
IsWriteFault year tables (Close DateOutside) = IsOutside year
IsWriteFault year tables (Close (TooManyBlocks number)) = first_blocked 1 tables ≡ Some number
IsWriteFault year tables (Close (Write name)) = Unit {0}
IsWriteFault year tables fault = ⊥

-- if a file of the tables and answers could not be written, those before it are whole, and of it at most a front part is there; of
-- other faults nothing is said
abbrev pub IsCutWriting : List NamedFile → Option (List ℕ) → Option (List ℕ) → ServeFault → Type 0
IsCutWriting files old new (Close fault) = IsCutBy files old new fault
IsCutWriting files old new fault = Unit {0}

-- ---- the whole

-- A whole run: what the setup names was read and opened, the scripts were run, and these are the tables and answers that are left,
-- whose files are written, and the number of commands, no more than a journal's entries may be.
pub record IsWholeRun (files : Option (List NamedFile)) (setup : List ℕ) (reindex : Bool) (tables : List ClosedTable) (answers : List (List ℕ)) (count : ℕ) : Type 0 where
  pub read : Read
  pub history : History
  pub all : IsAllRead files setup read
  pub run : IsRun reindex read history answers
  pub legal : IsLegal history.opened history.journal
  pub of_stations : AreOfStations history.opened history.journal
  pub count_bounded : length history.journal ≤ MAX_ENTRIES
  pub handed : AreHandedOver history tables
  pub counted : count ≡ length history.journal

-- why a whole run does not come to its end, step by step
abbrev pub IsServeFault : Option (List NamedFile) → List ℕ → Bool → ℕ → ServeFault → Type 0
IsServeFault files setup reindex year NoMemory = Unit {0}
IsServeFault files setup reindex year (Setup bad) = IsReadFault files setup (Setup bad)
IsServeFault files setup reindex year (File path fault) = IsReadFault files setup (File path fault)
IsServeFault files setup reindex year (Refused fault) = (read : Read) × IsAllRead files setup read × IsRunFault reindex read (Refused fault)
IsServeFault files setup reindex year (Run fault) = (read : Read) × IsAllRead files setup read × IsRunFault reindex read (Run fault)
IsServeFault files setup reindex year (Close fault) =
    (tables : List ClosedTable) × (answers : List (List ℕ)) × (count : ℕ) × IsWholeRun files setup reindex tables answers count × IsWriteFault year tables (Close fault)
