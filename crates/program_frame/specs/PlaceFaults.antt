-- Why new files are not in place: what a fault of their disk, their lock or their run says.
use Rattle.std.specs.Prelude.{◌≡◌}
use Rattle.files_in_place.specs.declared.faults.RecoveryFault.{RecoveryFault}
use Rattle.files_in_place.specs.declared.faults.RecoveryFault.TheVariants as recovery
use Rattle.files_in_place.specs.declared.folder_lock.LockFault.{LockFault}
use Rattle.files_in_place.specs.declared.folder_lock.LockFault.TheVariants as lock
use Rattle.folders.specs.declared.finish_fault.FinishFault.{FinishFault}
use Rattle.folders.specs.declared.finish_fault.FinishFault.TheVariants as finish
use Rattle.program_frame.specs.declared.folder.FolderFault.{FolderFault}
use Rattle.program_frame.specs.declared.folder.FolderFault.TheVariants as folder
use Rattle.program_frame.specs.declared.folder.PlaceFault.{PlaceFault}
use Rattle.program_frame.specs.declared.folder.PlaceFault.TheVariants as place

-- why the folder can't be opened
abbrev pub unlocked_folder : LockFault → PlaceFault
unlocked_folder lock.InUse = place.Folder folder.InUse
unlocked_folder lock.NoMemory = place.NoMemory
unlocked_folder lock.Failed = place.Folder folder.Unopened

-- why what an earlier run left is not brought to its end
abbrev pub unrecovered_folder : RecoveryFault → PlaceFault
unrecovered_folder recovery.NoMemory = place.NoMemory
unrecovered_folder recovery.Failed = place.Folder folder.Unrecovered
unrecovered_folder recovery.BadList = place.Folder folder.BadList
unrecovered_folder (recovery.Unreplaced name) = place.Folder (folder.Unreplaced name)

-- a fault says that what an earlier run left was not brought to its end
abbrev pub IsOfRecovery : FolderFault → Type 0
IsOfRecovery folder.InUse = ⊥
IsOfRecovery folder.Unopened = ⊥
IsOfRecovery folder.Unrecovered = Unit {0}
IsOfRecovery folder.BadList = Unit {0}
IsOfRecovery (folder.Unreplaced name) = Unit {0}
IsOfRecovery folder.DayOpen = ⊥
IsOfRecovery (folder.UnknownDay log why) = ⊥
IsOfRecovery folder.Unwritten = ⊥
IsOfRecovery folder.Unfinished = ⊥

-- it says that work was not begun in a folder that was opened: it was not recovered, or a day is open, or that is not known
abbrev pub IsOfBeginning : FolderFault → Type 0
IsOfBeginning folder.DayOpen = Unit {0}
IsOfBeginning (folder.UnknownDay log why) = Unit {0}
IsOfBeginning why = IsOfRecovery why

-- why new files were not put in place
abbrev pub unplaced_files : FinishFault → PlaceFault
unplaced_files finish.NoMemory = place.NoMemory
unplaced_files finish.Unwritten = place.Folder folder.Unwritten
unplaced_files finish.Unfinished = place.Folder folder.Unfinished

-- such a fault may come of opening a folder, which locks it: it is what one of its lock says
abbrev pub IsOfLock : PlaceFault → Type 0
IsOfLock fault = (why : LockFault) × (fault ≡ unlocked_folder why)
