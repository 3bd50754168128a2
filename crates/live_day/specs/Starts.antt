-- Why what a log says was not performed once more.
use Rattle.std.specs.Prelude.{ℕ, List, []}
use Rattle.catalogue_core.specs.Replay.{Opened}
use Rattle.station_lines.specs.JournalLines.{lines_and}
use Rattle.audit.specs.declared.fault.AuditFault.{AuditFault}
use Rattle.audit.specs.declared.fault.AuditFault.TheVariants as of_audit
use Rattle.audit.specs.Audits.{IsAuditFault}
use Rattle.live_log.specs.Gates.{LineParts, StandsFor, IsChangedAt}
use Rattle.live_log.specs.declared.faults.ReadFault.{ReadFault}
use Rattle.live_log.specs.declared.faults.ReadFault.TheVariants as of_read
use Rattle.live_day.specs.declared.start_fault.StartFault.{StartFault}
use Rattle.live_day.specs.declared.start_fault.StartFault.TheVariants as of_start

-- a fault of the audit of a log, as one of a start
abbrev pub audit_fault_of : AuditFault → StartFault
audit_fault_of of_audit.NoMemory = of_start.NoMemory
audit_fault_of fault = of_start.Audit fault

abbrev pub read_fault_of : ReadFault → StartFault
read_fault_of (of_read.Changed number) = of_start.Changed number
read_fault_of of_read.NoMemory = of_start.NoMemory

-- The log is changed at the entry of this number, and stands for no entries; or the lines of its entries are those of a legal
-- history on the opened tables up to the fault.
abbrev pub IsLogFault : Opened → List ℕ → StartFault → Type 0
IsLogFault opened log (of_start.Changed number) = IsChangedAt log number
IsLogFault opened log (of_start.Audit fault) = (es : List LineParts) × StandsFor log es × IsAuditFault opened (lines_and es []) fault
IsLogFault opened log fault = Unit {0}
