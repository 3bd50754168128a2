use Rattle.std.proofs.Common.{◌≡◌, take}
use Rattle.catalogue_core.specs.Replay.{names_of}
use Rattle.office_run.proofs.closing.table_names.Given as goal

abbrev pub invariant-loop-i : goal.invariant-loop-i
invariant-loop-i l = l.names.items ≡ take l.i (names_of l.closed.opened)
