-- Why a log took no group, where a call of the disk failed.
use Rattle.files_in_place.specs.declared.faults.DiskFault.{DiskFault}
use Rattle.files_in_place.specs.declared.faults.DiskFault.TheVariants as of_disk
use Rattle.live_log.specs.declared.faults.LogFault.{LogFault}
use Rattle.live_log.specs.declared.faults.LogFault.TheVariants as of_log

-- why a log took no group if a call of the disk failed
abbrev pub log_fault_of : DiskFault → LogFault
log_fault_of of_disk.NoMemory = of_log.NoMemory
log_fault_of of_disk.Failed = of_log.Failed
