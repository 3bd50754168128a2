use Rattle.std.proofs.Common.{◌≡◌, ◌-◌, ◌++◌, map, replicate}
use Rattle.ndx_index.specs.Places.{counted}
use Rattle.catalogue_core.specs.Rooms.{seen}
use Rattle.catalogue_core.specs.Status.{table_status}
use Rattle.catalogue_core.proofs.state.State.table_statuses.Given as goal

abbrev pub invariant-loop-index : goal.invariant-loop-index
invariant-loop-index l = l.statuses ≡ map (table_status (seen l.self)) (counted 1 l.index) ++ replicate (10 - l.index) (record { holder = 0; record_locks = 0 })
