-- The tables and indexes of a catalogue, written as they stand now.
use Rattle.std.specs.Prelude.{◌≡◌, ℕ, List, [], map, Option, None}
use Rattle.std.specs.List.{AllByRecursion}
use Rattle.dbf_fields.specs.declared.day.Day.{Day}
use Rattle.byte_io.specs.Sink.{grown}
use Rattle.catalogue_core.specs.Replay.{History}
use Rattle.journal_file.specs.declared.sum.FileSum.{FileSum}
use Rattle.office_run.specs.declared.close_fault.CloseFault.TheVariants.{Write}
use Rattle.office_run.specs.declared.closed.ClosedTable.{ClosedTable}
use Rattle.folders.specs.declared.named.NamedFile.{NamedFile}
use Rattle.office_run.specs.Closing.{first_blocked, run_files, IsCutAt}
use Rattle.folders.specs.Files.{IsOfBytes, files_in, listing}
use Rattle.office_run.specs.declared.fault.ServeFault.{ServeFault}
use Rattle.office_run.specs.declared.fault.ServeFault.TheVariants.{Close, NoMemory}
use Rattle.office_run.specs.FileSums.{sum_of_named}
use Rattle.office_run.specs.HandedOver.{AreHandedOver}
use Rattle.office_run.specs.WholeRun.{IsWriteFault}

-- the files of tables and their indexes on a day: those of a run without the answers
abbrev pub dated_files : Day → List ClosedTable → List NamedFile
dated_files today tables = run_files today tables []

-- These are the tables at the history's end, none of them has more blocks than its file can have, and their files stand
-- after what was written before; of each is told how many bytes it has and their digest. Names and files are of bytes, so what
-- was written tells these files, and no others.
pub record AreTablesWritten (h : History) (today : Day) (old new : Option (List ℕ)) (sums : List FileSum) : Type 0 where
  pub tables : List ClosedTable
  pub handed : AreHandedOver h tables
  pub few_blocks : first_blocked 1 tables ≡ None
  pub written : new ≡ grown old (listing (dated_files today tables))
  pub bytes : AllByRecursion IsOfBytes (dated_files today tables)
  pub told : files_in (listing (dated_files today tables)) ≡ dated_files today tables
  pub summed : sums ≡ map sum_of_named (dated_files today tables)

-- the tables and indexes at a history's end are written, and nothing is told of their files
abbrev pub AreTablesPut : History → Day → Option (List ℕ) → Option (List ℕ) → Type 0
AreTablesPut h today old new = (sums : List FileSum) × AreTablesWritten h today old new sums

-- why the tables at the history's end are not written, or not all
abbrev pub IsTablesFault : History → ℕ → ServeFault → Type 0
IsTablesFault h year NoMemory = Unit {0}
IsTablesFault h year (Close fault) = (tables : List ClosedTable) × AreHandedOver h tables × IsWriteFault year tables (Close fault)
IsTablesFault h year fault = ⊥

-- where a file of theirs could not be written, those before it are whole; of other faults nothing is said
abbrev pub IsCutTables : History → Day → Option (List ℕ) → Option (List ℕ) → ServeFault → Type 0
IsCutTables h today old new (Close (Write name)) = (tables : List ClosedTable) × AreHandedOver h tables × IsCutAt name old new (dated_files today tables)
IsCutTables h today old new fault = Unit {0}
