-- The tables of a setup, opened for a day.
use Rattle.std.specs.Prelude.{◌≡◌, ◌≢◌, ◌⊎◌, ℕ, Bool, true, false, List, [], ◌∷◌, ◌++◌, Option, Some, Ok, Err, count_by, max}
use Rattle.catalogue_core.specs.declared.opening.OpenFault.TheVariants.{NoMemory as NoMemoryToOpen}
use Rattle.catalogue_core.specs.declared.source.TableSource.{TableSource}
use Rattle.catalogue_core.specs.Opening.{Opening}
use Rattle.catalogue_core.specs.Replay.{Opened}
use Rattle.folders.specs.declared.named.NamedFile.{NamedFile}
use Rattle.office_run.specs.declared.fault.ServeFault.{ServeFault}
use Rattle.office_run.specs.declared.fault.ServeFault.TheVariants.{Setup, File, Refused, NoMemory}
use Rattle.office_run.specs.Loading.{LoadAll, Read, nothing, IsFaultIn}
use Rattle.office_run.specs.WholeRun.{IsReadFault, IsSaid}
use Rattle.office_run.specs.FileSums.{paths_in}
use Rattle.setup_files.specs.Noted.{AreNoted}
use Rattle.journal_file.specs.declared.sum.FileSum.{FileSum}
use Rattle.station_lines.specs.declared.setup.entry.SetupEntry.{SetupEntry}
use Rattle.station_lines.specs.declared.setup.entry.SetupEntry.TheVariants.{Station}

-- the entry is a station's
abbrev pub names_station : SetupEntry → Bool
names_station (Station script) = true
names_station entry = false

-- for how many stations a day is: as many as the setup names, and one where it names none
abbrev pub seats_in : List SetupEntry → ℕ
seats_in entries = max 1 (count_by names_station entries)

-- entries that are kept, and one more where it is no station's
abbrev pub with_table : List SetupEntry → SetupEntry → List SetupEntry
with_table kept (Station script) = kept
with_table kept entry = kept ++ entry ∷ []

-- an entry before those that are kept, if it is no station's
abbrev pub before_tables : SetupEntry → List SetupEntry → List SetupEntry
before_tables (Station script) kept = kept
before_tables entry kept = entry ∷ kept

-- the entries of tables and indexes, in their order
abbrev pub tables_in : List SetupEntry → List SetupEntry
tables_in [] = []
tables_in (entry ∷ entries) = before_tables entry (tables_in entries)

-- These are the tables that the setup of this path names, opened for its stations, or for one. Their scripts are not read.
pub record AreTablesOpened (files : Option (List NamedFile)) (setup : List ℕ) (reindex : Bool) (opened : Opened) : Type 0 where
  pub entries : List SetupEntry
  pub said : IsSaid files setup (Ok entries)
  pub read : Read
  pub loaded : LoadAll files (tables_in entries) nothing read
  pub opening : Opening reindex (seats_in entries) read.tables (Ok opened.tables)
  pub stations : opened.stations ≡ seats_in entries

-- These files were read for that: the setup, and then those of its tables and indexes, in their order. Of each it is told which path it
-- has, how many bytes, and their SHA-256.
pub record AreFilesRead (files : Option (List NamedFile)) (setup : List ℕ) (read : List FileSum) : Type 0 where
  pub entries : List SetupEntry
  pub said : IsSaid files setup (Ok entries)
  pub noted : AreNoted files (setup ∷ paths_in (tables_in entries)) (Some []) (Some read)

-- why tables that were read are not opened for so many stations
abbrev pub IsSeatFault : Bool → ℕ → List TableSource → ServeFault → Type 0
IsSeatFault reindex seats tables NoMemory = Unit {0}
IsSeatFault reindex seats tables (Refused fault) = (fault ≢ NoMemoryToOpen) × Opening reindex seats tables (Err fault)
IsSeatFault reindex seats tables fault = ⊥

-- why the setup's tables are not opened: the setup is not read, a file of a table or an index is not, or they are refused
abbrev pub AreTablesUnopened : Option (List NamedFile) → List ℕ → Bool → ServeFault → Type 0
AreTablesUnopened files setup reindex NoMemory = Unit {0}
AreTablesUnopened files setup reindex (Setup number) = IsReadFault files setup (Setup number)
AreTablesUnopened files setup reindex (File path fault) =
    IsReadFault files setup (File path fault)
    ⊎ ((entries : List SetupEntry) × IsSaid files setup (Ok entries) × IsFaultIn files (tables_in entries) (File path fault))
AreTablesUnopened files setup reindex (Refused fault) =
    (entries : List SetupEntry) × IsSaid files setup (Ok entries) × (read : Read) × LoadAll files (tables_in entries) nothing read
    × IsSeatFault reindex (seats_in entries) read.tables (Refused fault)
AreTablesUnopened files setup reindex fault = ⊥
