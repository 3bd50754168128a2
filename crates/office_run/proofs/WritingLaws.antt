-- Tables that are written as they stand, and why they are not.
use Rattle.std.proofs.Common.{◌≡◌, ℕ, List, [], map, Option, None}
use Rattle.std.specs.List.{AllByRecursion}
use Rattle.dbf_fields.specs.declared.day.Day.{Day}
use Rattle.byte_io.specs.Sink.{grown}
use Rattle.catalogue_core.specs.Replay.{History}
use Rattle.office_run.specs.declared.close_fault.CloseFault.TheVariants.{Write}
use Rattle.office_run.specs.declared.closed.ClosedTable.{ClosedTable}
use Rattle.office_run.specs.Closing.{first_blocked, run_files}
use Rattle.folders.specs.Files.{listing, IsOfBytes}
use Rattle.folders.proofs.ListingLaws.{files_again}
use Rattle.office_run.specs.declared.fault.ServeFault.{ServeFault}
use Rattle.office_run.specs.declared.fault.ServeFault.TheVariants.{Close, NoMemory}
use Rattle.journal_file.specs.declared.sum.FileSum.{FileSum}
use Rattle.office_run.specs.FileSums.{sum_of_named}
use Rattle.office_run.specs.HandedOver.{AreHandedOver}
use Rattle.office_run.specs.WholeRun.{IsWriteFault, IsCutWriting}
use Rattle.office_run.specs.TablesWritten.{AreTablesWritten, IsTablesFault, IsCutTables}

pub tables_written : (h : History) (today : Day) (tables : List ClosedTable) (old new : Option (List ℕ)) (sums : List FileSum) → AreHandedOver h tables → first_blocked 1 tables ≡ None
    → new ≡ grown old (listing (run_files today tables [])) → AllByRecursion IsOfBytes (run_files today tables [])
    → sums ≡ map sum_of_named (run_files today tables []) → AreTablesWritten h today old new sums
tables_written h today tables old new sums handed few_blocks written bytes summed =
    record { tables = tables; handed = handed; few_blocks = few_blocks; written = written; bytes = bytes; told = files_again (run_files today tables []) bytes; summed = summed }

pub tables_fault : (h : History) (year : ℕ) (fault : ServeFault) (tables : List ClosedTable) → AreHandedOver h tables → IsWriteFault year tables fault → IsTablesFault h year fault
tables_fault h year NoMemory tables handed why = tt
tables_fault h year (Close fault) tables handed why = (tables, handed, why)
tables_fault h year fault tables handed why = absurd why

pub cut_tables : (h : History) (today : Day) (tables : List ClosedTable) (old new : Option (List ℕ)) (fault : ServeFault)
    → AreHandedOver h tables → IsCutWriting (run_files today tables []) old new fault → IsCutTables h today old new fault
cut_tables h today tables old new (Close (Write name)) handed cut = (tables, handed, cut)
cut_tables h today tables old new fault handed cut = tt
