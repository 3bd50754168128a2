use Rattle.std.proofs.Common.{◌≡◌, ◌==◌, None}
use Rattle.std.specs.List.{find}
use Rattle.lock_table.proofs.Rows.{rowed}
use Rattle.lock_table.proofs.locks.Locks.holder.Given as goal

abbrev pub invariant-loop-other : goal.invariant-loop-other
invariant-loop-other l = find (λ m. m.number == l.number) (rowed l.table l.row l.other) ≡ None
