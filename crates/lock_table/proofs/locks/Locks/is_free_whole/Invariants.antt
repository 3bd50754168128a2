use Rattle.std.proofs.Common.{◌≡◌, false}
use Rattle.std.specs.List.{list_any}
use Rattle.lock_table.specs.Locks.{is_others}
use Rattle.lock_table.proofs.Rows.{rowed}
use Rattle.lock_table.proofs.locks.Locks.is_free_whole.Given as goal

abbrev pub invariant-loop-other : goal.invariant-loop-other
invariant-loop-other l = list_any (is_others l.station) (rowed l.table l.row l.other) ≡ false
