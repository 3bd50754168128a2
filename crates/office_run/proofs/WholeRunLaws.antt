-- A whole run by its parts, and the faults of its writing.
use Rattle.std.proofs.Common.{◌≡◌, ◌≤◌, ℕ, Bool, List, Option, Some, None, length, refl}
use Rattle.dbf_image.specs.Image.{IsOutside}
use Rattle.catalogue_core.specs.declared.catalogue.TheConstants.{MAX_ENTRIES}
use Rattle.catalogue_core.specs.Replay.{History, IsLegal, AreOfStations}
use Rattle.office_run.specs.declared.close_fault.CloseFault.{CloseFault}
use Rattle.office_run.specs.declared.close_fault.CloseFault.TheVariants.{DateOutside, TooManyBlocks, Write, NoMemory as NoMemoryToClose}
use Rattle.office_run.specs.declared.closed.ClosedTable.{ClosedTable}
use Rattle.office_run.specs.Closing.{first_blocked}
use Rattle.folders.specs.declared.named.NamedFile.{NamedFile}
use Rattle.office_run.specs.declared.fault.ServeFault.{ServeFault}
use Rattle.office_run.specs.declared.fault.ServeFault.TheVariants.{Close, NoMemory}
use Rattle.office_run.specs.HandedOver.{AreHandedOver}
use Rattle.office_run.specs.Loading.{Read}
use Rattle.office_run.specs.WholeRun.{close_fault, IsAllRead, IsRun, IsWriteFault, IsWholeRun, IsServeFault}

pub of_writing : (files : Option (List NamedFile)) (setup : List ℕ) (reindex : Bool) (year : ℕ) (fault : ServeFault) (tables : List ClosedTable) (answers : List (List ℕ)) (count : ℕ)
    → IsWholeRun files setup reindex tables answers count → IsWriteFault year tables fault → IsServeFault files setup reindex year fault
of_writing files setup reindex year NoMemory tables answers count run h = tt
of_writing files setup reindex year (Close why) tables answers count run h = (tables, answers, count, run, h)
of_writing files setup reindex year fault tables answers count run h = absurd h

-- why the files are not written, of a fault in closing
pub closing_fault : (year : ℕ) (tables : List ClosedTable) (fault : CloseFault) → (fault ≡ DateOutside → IsOutside year) → ((n : ℕ) → fault ≡ TooManyBlocks n → first_blocked 1 tables ≡ Some n) → IsWriteFault year tables (close_fault fault)
closing_fault year tables DateOutside outside blocks = outside refl
closing_fault year tables (TooManyBlocks n) outside blocks = blocks n refl
closing_fault year tables NoMemoryToClose outside blocks = tt
closing_fault year tables (Write name) outside blocks = tt

pub none_at : (o : Option ℕ) → ((n : ℕ) → o ≡ Some n → ⊥) → o ≡ None
none_at None h = refl
none_at (Some n) h = absurd (h n refl)

-- a whole run by its parts
abbrev pub is_whole_run : (files : Option (List NamedFile)) (setup : List ℕ) (reindex : Bool) (read : Read) (h : History) (tables : List ClosedTable) (answers : List (List ℕ)) (count : ℕ)
    → IsAllRead files setup read → IsRun reindex read h answers → IsLegal h.opened h.journal → AreOfStations h.opened h.journal → length h.journal ≤ MAX_ENTRIES → AreHandedOver h tables → count ≡ length h.journal → IsWholeRun files setup reindex tables answers count
is_whole_run files setup reindex read h tables answers count all run legal of_stations count_bounded handed counted =
    record { read = read; history = h; all = all; run = run; legal = legal; of_stations = of_stations; count_bounded = count_bounded; handed = handed; counted = counted }
