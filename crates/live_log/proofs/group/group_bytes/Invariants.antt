use Rattle.std.proofs.Common.{take}
use Rattle.live_log.specs.Gates.{HasPutEntries}
use Rattle.live_log.proofs.group.group_bytes.Given as goal

abbrev pub invariant-loop-entry : goal.invariant-loop-entry
invariant-loop-entry l = HasPutEntries (take l.entry-index l.entries) l.bytes.items
