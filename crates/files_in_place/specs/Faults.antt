-- Why a call failed, where a call of the system or of the disk did.
use Rattle.std.specs.Prelude.{◌≡◌, ◌≢◌, ◌⊎◌, ℕ, List, Result, Err}
use Rattle.std.specs.IoError.{error_kind}
use Rattle.std.specs.declared.io.Error.{Error}
use Rattle.std.specs.declared.io.ErrorKind.TheVariants.{OutOfMemory}
use Rattle.files_in_place.specs.declared.faults.DiskFault.{DiskFault}
use Rattle.files_in_place.specs.declared.faults.DiskFault.TheVariants as of_disk
use Rattle.files_in_place.specs.declared.faults.SetFault.{SetFault}
use Rattle.files_in_place.specs.declared.faults.SetFault.TheVariants as of_set
use Rattle.files_in_place.specs.declared.faults.RecoveryFault.{RecoveryFault}
use Rattle.files_in_place.specs.declared.faults.RecoveryFault.TheVariants as of_recovery
use Rattle.files_in_place.specs.declared.folder_lock.LockFault.{LockFault}
use Rattle.files_in_place.specs.declared.folder_lock.LockFault.TheVariants as of_lock

-- a fault of the disk, as the same one of a recovery
abbrev pub recovery_fault_of : DiskFault → RecoveryFault
recovery_fault_of of_disk.NoMemory = of_recovery.NoMemory
recovery_fault_of of_disk.Failed = of_recovery.Failed

-- a recovery has met a failure of the disk, and maybe one at the file of a name
abbrev pub IsDiskFailure : {T : Type 0} → Result T RecoveryFault → Type 0
IsDiskFailure result = (result ≡ Err of_recovery.Failed) ⊎ ((name : List ℕ) × (result ≡ Err (of_recovery.Unreplaced name)))

-- a fault of the disk, as the same one of a set
abbrev pub set_fault_of : DiskFault → SetFault
set_fault_of of_disk.NoMemory = of_set.NoMemory
set_fault_of of_disk.Failed = of_set.Failed

-- what a call of the disk answers if the system refuses: out of memory, or that the disk failed
pub record IsDiskFaultOf (error : Error) (fault : DiskFault) : Type 0 where
  pub memory : error_kind error ≡ OutOfMemory → fault ≡ of_disk.NoMemory
  pub other : error_kind error ≢ OutOfMemory → fault ≡ of_disk.Failed

-- what opening and locking a folder answers if the system refuses: out of memory, or that it failed, and never that another run has
-- the folder
pub record IsLockFaultOf (error : Error) (fault : LockFault) : Type 0 where
  pub memory : error_kind error ≡ OutOfMemory → fault ≡ of_lock.NoMemory
  pub other : error_kind error ≢ OutOfMemory → fault ≡ of_lock.Failed

-- a fault of a set that is out of memory or a failure of the disk: no refusal by the set itself
abbrev pub IsOfDisk : SetFault → Type 0
IsOfDisk fault = (fault ≡ of_set.NoMemory) ⊎ (fault ≡ of_set.Failed)
