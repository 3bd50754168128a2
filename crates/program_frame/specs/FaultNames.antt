-- The names of faults, without what they carry.
use Rattle.std.specs.Prelude.{ℕ, List, codes}
use Rattle.catalogue_core.specs.declared.catalogue.Stop.{Stop}
use Rattle.catalogue_core.specs.declared.catalogue.Stop.TheVariants as stop
use Rattle.catalogue_core.specs.declared.opening.OpenFault.{OpenFault}
use Rattle.catalogue_core.specs.declared.opening.OpenFault.TheVariants as opening
use Rattle.shared_catalogue.specs.declared.settle.SettleFault.{SettleFault}
use Rattle.shared_catalogue.specs.declared.settle.SettleFault.TheVariants as settle
use Rattle.office_run.specs.declared.run_fault.RunFault.{RunFault}
use Rattle.office_run.specs.declared.run_fault.RunFault.TheVariants as run
use Rattle.office_run.specs.declared.close_fault.CloseFault.{CloseFault}
use Rattle.office_run.specs.declared.close_fault.CloseFault.TheVariants as close

-- the name of a fault of opening, without what it carries
abbrev pub open_name : OpenFault → List ℕ
open_name opening.NoStation = codes "NoStation"
open_name opening.TooManyStations = codes "TooManyStations"
open_name opening.TooManyTables = codes "TooManyTables"
open_name (opening.DuplicateTable table) = codes "DuplicateTable"
open_name (opening.TooManyIndexes table) = codes "TooManyIndexes"
open_name (opening.DuplicateIndex table index) = codes "DuplicateIndex"
open_name (opening.BadExpression table index fault) = codes "BadExpression"
open_name (opening.IndexStale table index) = codes "IndexStale"
open_name opening.NoMemory = codes "NoMemory"

abbrev pub stop_name : Stop → List ℕ
stop_name stop.JournalFull = codes "JournalFull"
stop_name stop.NoMemory = codes "NoMemory"

abbrev pub settle_name : SettleFault → List ℕ
settle_name (settle.SeatMissing station) = codes "SeatMissing"
settle_name (settle.ReceiptMismatch station) = codes "ReceiptMismatch"

-- the name of a fault of the run, without what it carries; that of a run that was stopped or not settled is the name of the fault
-- for which it was
abbrev pub run_name : RunFault → List ℕ
run_name run.ScriptCount = codes "ScriptCount"
run_name (run.NoThread station) = codes "NoThread"
run_name (run.Stopped station why) = stop_name why
run_name (run.Settle why) = settle_name why
run_name run.NoMemory = codes "NoMemory"

-- the name of a fault of closing, without what it carries
abbrev pub close_name : CloseFault → List ℕ
close_name close.DateOutside = codes "DateOutside"
close_name (close.TooManyBlocks table) = codes "TooManyBlocks"
close_name close.NoMemory = codes "NoMemory"
close_name (close.Write name) = codes "Write"
