-- Why a run that was not begun has not come to its end.
use Rattle.std.proofs.Common.{ℕ, Bool, List, Option, Result, Ok, Err, IfErr}
use Rattle.folders.specs.declared.named.NamedFile.{NamedFile}
use Rattle.office_run.specs.declared.fault.ServeFault.{ServeFault}
use Rattle.office_run.specs.declared.fault.ServeFault.TheVariants.{File, NoMemory, Setup}
use Rattle.office_run.specs.WholeRun.{IsReadFault, IsServeFault}
use Rattle.program_frame.specs.declared.ending.Failure.{Failure}
use Rattle.program_frame.specs.declared.ending.Failure.TheVariants.{Folder as OfFolder}
use Rattle.program_frame.specs.declared.folder.FolderFault.TheVariants.{InUse, Unopened}
use Rattle.server_program.specs.Program.{IsPlaceFailure, IsUnserved}
use Rattle.server_program.specs.declared.options.Options.{Options}
use Rattle.server_program.specs.declared.served.Served.{Served}

-- why the setup is not read is why the run does not come to its end
pub read_is_served : (files : Option (List NamedFile)) (setup : List ℕ) (reindex : Bool) (year : ℕ) (fault : ServeFault) → IsReadFault files setup fault
    → IsServeFault files setup reindex year fault
read_is_served files setup reindex year NoMemory unread = tt
read_is_served files setup reindex year (Setup bad) unread = unread
read_is_served files setup reindex year (File path why) unread = unread
read_is_served files setup reindex year fault unread = absurd unread

-- why the files are not in the folder of a disk is why they are not in that of a path
pub place_unserved : (files : Option (List NamedFile)) (options : Options) (ended : Result Served (Failure ServeFault))
    → IfErr ended (IsPlaceFailure files options) → IfErr ended (IsUnserved files options)
place_unserved files options (Ok report) fault = tt
place_unserved files options (Err (OfFolder InUse)) fault = tt
place_unserved files options (Err (OfFolder Unopened)) fault = tt
place_unserved files options (Err why) fault = fault
