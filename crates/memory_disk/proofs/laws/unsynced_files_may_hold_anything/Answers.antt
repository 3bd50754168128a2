use Rattle.memory_disk.proofs.Tearing.{may_tear}
use Rattle.memory_disk.proofs.laws.unsynced_files_may_hold_anything.Goals as goal

pub returns : goal.returns
returns c = may_tear
