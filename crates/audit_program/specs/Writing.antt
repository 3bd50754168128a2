-- The tables at the end of a journal that was audited, written into a folder.
use Rattle.std.specs.Prelude.{◌≡◌, ℕ, Bool, true, false, List, map, Option, None}
use Rattle.dbf_fields.specs.declared.day.Day.{Day}
use Rattle.catalogue_core.specs.Replay.{History}
use Rattle.office_run.specs.declared.close_fault.CloseFault.TheVariants.{Write}
use Rattle.office_run.specs.declared.closed.ClosedTable.{ClosedTable}
use Rattle.folders.specs.declared.named.NamedFile.{NamedFile}
use Rattle.office_run.specs.Closing.{first_blocked}
use Rattle.office_run.specs.declared.fault.ServeFault.TheVariants as serve
use Rattle.office_run.specs.FileSums.{sum_of_named}
use Rattle.office_run.specs.HandedOver.{AreHandedOver}
use Rattle.office_run.specs.TablesWritten.{IsCutTables, IsTablesFault, dated_files}
use Rattle.audit_program.specs.declared.audited.Audited.{Audited}
use Rattle.audit_program.specs.declared.failure.AuditFailure.{AuditFailure}
use Rattle.audit_program.specs.declared.failure.AuditFailure.TheVariants.{Serve}
use Rattle.audit_program.specs.declared.options.Options.{Options}
use Rattle.audit_program.specs.Program.{IsAuditedTo, IsFailedBy}

-- All entries hold, and these are the files of the tables at their end, dated: it is said of each how many bytes it has and their
-- digest. None of the tables has more blocks than its file can have.
pub record IsWrittenBy (files : Option (List NamedFile)) (options : Options) (today : Day) (written : List NamedFile) (audited : Audited) : Type 0 where
  pub history : History
  pub tables : List ClosedTable
  pub all : IsAuditedTo files options history audited
  pub handed : AreHandedOver history tables
  pub few_blocks : first_blocked 1 tables ≡ None
  pub summed : audited.written.items ≡ map sum_of_named written
  pub written_is : written ≡ dated_files today tables

-- why the tables are not written: all entries hold, and their files can't be written; or it is not said that all hold
abbrev pub IsUnwritten : Option (List NamedFile) → Options → ℕ → AuditFailure → Type 0
IsUnwritten files options year (Serve (serve.Close why)) = (h : History) × (audited : Audited) × IsAuditedTo files options h audited × IsTablesFault h year (serve.Close why)
IsUnwritten files options year why = IsFailedBy files options why

-- Where a file could not be written, all entries hold, and the files before it are whole. Of other failures nothing is said.
abbrev pub IsCutAudit : Option (List NamedFile) → Options → Day → Option (List ℕ) → Option (List ℕ) → AuditFailure → Type 0
IsCutAudit files options today old new (Serve (serve.Close (Write name))) =
    (h : History) × (audited : Audited) × IsAuditedTo files options h audited × IsCutTables h today old new (serve.Close (Write name))
IsCutAudit files options today old new why = Unit {0}

-- the folder has not taken one of the files of the tables
abbrev pub says_unwritten : AuditFailure → Bool
says_unwritten (Serve (serve.Close (Write name))) = true
says_unwritten why = false
