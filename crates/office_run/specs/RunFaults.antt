-- Why a run of scripts over these opened tables did not come to its end.
use Rattle.std.specs.Prelude.{◌≡◌, ◌≢◌, ℕ, ◌+◌, ◌<◌, ◌≤◌, List, length}
use Rattle.catalogue_core.specs.declared.catalogue.Stop.{Stop}
use Rattle.catalogue_core.specs.declared.catalogue.Stop.TheVariants.{JournalFull}
use Rattle.catalogue_core.specs.declared.catalogue.TheConstants.{MAX_ENTRIES}
use Rattle.catalogue_core.specs.Replay.{Opened, History, IsHistoryOf}
use Rattle.office_run.specs.declared.run_fault.RunFault.{RunFault}
use Rattle.office_run.specs.declared.run_fault.RunFault.TheVariants.{ScriptCount, NoThread, Stopped, Settle, NoMemory}
use Rattle.office_run.specs.Reports.{HasEntriesOf, IsShownFor, IsShownForFirst}

-- there is a station of this number
abbrev pub IsStationOf : Opened → ℕ → Type 0
IsStationOf opened station = (1 ≤ station) × (station ≤ opened.stations)

-- The history of a run whose worker of this station was stopped: a legal one of these tables, in which each station has performed
-- the commands of first lines of its script, and each station below this one those of all lines, since it was not stopped. Where the
-- journal is told to be full, it is.
pub record IsStoppedRun (opened : Opened) (scripts : List (List ℕ)) (station : ℕ) (why : Stop) (h : History) : Type 0 where
  pub history : IsHistoryOf opened 0 h
  pub full : why ≡ JournalFull → length h.journal ≡ MAX_ENTRIES
  pub begun : (i : ℕ) → i < opened.stations → HasEntriesOf IsShownForFirst h.journal scripts i
  pub lower : (i : ℕ) → i + 1 < station → HasEntriesOf IsShownFor h.journal scripts i

-- why workers are not started, or not joined
abbrev pub IsFaultOfStart : Opened → RunFault → Type 0
IsFaultOfStart opened (NoThread station) = IsStationOf opened station
IsFaultOfStart opened NoMemory = Unit {0}
IsFaultOfStart opened fault = ⊥

-- Why a run of scripts did not come to its end. A fault names a station that there is. Each station has its seat, so a run that
-- comes to its end is settled.
abbrev pub IsFaultOfRun : Opened → List (List ℕ) → RunFault → Type 0
IsFaultOfRun opened scripts ScriptCount = length scripts ≢ opened.stations
IsFaultOfRun opened scripts (NoThread station) = IsStationOf opened station
IsFaultOfRun opened scripts (Stopped station why) = IsStationOf opened station × ((h : History) × IsStoppedRun opened scripts station why h)
IsFaultOfRun opened scripts (Settle fault) = ⊥
IsFaultOfRun opened scripts NoMemory = Unit {0}
