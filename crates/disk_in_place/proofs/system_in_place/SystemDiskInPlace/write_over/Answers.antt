use Rattle.std.proofs.Common.{rules}
use Rattle.disk_in_place.proofs.system_in_place.SystemDiskInPlace.write_over.Goals as goal

pub returns-in_err-reached-clause-failed : goal.returns-in_err-reached-clause-failed
returns-in_err-reached-clause-failed g c is = rw (← c.self.view_is, ← c.as_str.ensures.value) (c.in_err-reached.ensures.failed (search rules))
