use Rattle.std.proofs.Common.{◌≡◌}
use Rattle.lock_table.specs.Locks.{held}
use Rattle.lock_table.proofs.Released.{without_first}
use Rattle.lock_table.proofs.locks.Locks.release_all.Given as goal

abbrev pub invariant-loop-table : goal.invariant-loop-table
invariant-loop-table l = l.self ≡ held l.initial.self.stations l.initial.self.tables (without_first l.initial.self.locks l.station l.table)
