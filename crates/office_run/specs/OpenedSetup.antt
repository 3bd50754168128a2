-- The tables of a setup, opened as a run opens them, and nothing run.
use Rattle.std.specs.Prelude.{◌≡◌, ◌≢◌, ℕ, Bool, List, length, Option, Some, Ok, Err}
use Rattle.catalogue_core.specs.declared.opening.OpenFault.TheVariants.{NoMemory as NoMemoryToOpen}
use Rattle.catalogue_core.specs.Opening.{Opening}
use Rattle.catalogue_core.specs.Replay.{Opened}
use Rattle.folders.specs.declared.named.NamedFile.{NamedFile}
use Rattle.folders.specs.Files.{IsFileOf}
use Rattle.office_run.specs.declared.fault.FileFault.TheVariants.{CannotRead}
use Rattle.office_run.specs.declared.fault.ServeFault.{ServeFault}
use Rattle.office_run.specs.declared.fault.ServeFault.TheVariants.{Setup, File, Refused, NoMemory}
use Rattle.office_run.specs.Loading.{Read}
use Rattle.office_run.specs.WholeRun.{IsAllRead, IsReadFault}

-- these are the tables that were read, opened for a station a script
pub record IsOpenedFrom (reindex : Bool) (read : Read) (opened : Opened) : Type 0 where
  pub opening : Opening reindex (length read.scripts) read.tables (Ok opened.tables)
  pub stations : opened.stations ≡ length read.scripts

-- why the tables that a setup names are not opened: the faults of a run up to its opening
abbrev pub IsOpenFault : Bool → Read → ServeFault → Type 0
IsOpenFault reindex read NoMemory = Unit {0}
IsOpenFault reindex read (Refused fault) = (fault ≢ NoMemoryToOpen) × Opening reindex (length read.scripts) read.tables (Err fault)
IsOpenFault reindex read fault = ⊥

-- these are the tables that the setup of this path names, read and opened for a station a script, as a run opens them
pub record IsOpenedBy (files : Option (List NamedFile)) (setup : List ℕ) (reindex : Bool) (opened : Opened) : Type 0 where
  pub read : Read
  pub all : IsAllRead files setup read
  pub from : IsOpenedFrom reindex read opened

-- why the setup's tables are not opened
abbrev pub IsUnopened : Option (List NamedFile) → List ℕ → Bool → ServeFault → Type 0
IsUnopened files setup reindex NoMemory = Unit {0}
IsUnopened files setup reindex (Setup bad) = IsReadFault files setup (Setup bad)
IsUnopened files setup reindex (File path fault) = IsReadFault files setup (File path fault)
IsUnopened files setup reindex (Refused fault) = (read : Read) × IsAllRead files setup read × IsOpenFault reindex read (Refused fault)
IsUnopened files setup reindex fault = ⊥

-- ---- opened again

-- a setup opens as the same tables, for the same number of stations, whenever it is read from the same files
abbrev pub OpensAsOne : List NamedFile → List ℕ → Type 0
OpensAsOne files setup = (reindex : Bool) (a b : Opened) → IsOpenedBy (Some files) setup reindex a → IsOpenedBy (Some files) setup reindex b → a ≡ b

-- the later files have each of the files still, under its path and with its bytes
abbrev pub HaveStill : List NamedFile → List NamedFile → Type 0
HaveStill files later = (path bytes : List ℕ) → IsFileOf (Some files) path bytes → IsFileOf (Some later) path bytes

-- what the setup opens as from the files, it opens as from the later ones
abbrev pub OpensAsBefore : List NamedFile → List NamedFile → List ℕ → Type 0
OpensAsBefore files later setup =
    (reindex : Bool) (opened : Opened) → IsOpenedBy (Some files) setup reindex opened → IsOpenedBy (Some later) setup reindex opened

-- a fault says that memory was refused, or that a file can't be read
abbrev pub IsOfLoads : ServeFault → Type 0
IsOfLoads NoMemory = Unit {0}
IsOfLoads (File path CannotRead) = Unit {0}
IsOfLoads fault = ⊥

-- what a setup opens as once, it is refused as only out of memory, or since a file can't be read
abbrev pub NeverRefused : List NamedFile → List ℕ → Type 0
NeverRefused files setup =
    (reindex : Bool) (opened : Opened) → IsOpenedBy (Some files) setup reindex opened
    → (fault : ServeFault) → IsUnopened (Some files) setup reindex fault → IsOfLoads fault
