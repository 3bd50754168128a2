use Rattle.std.proofs.Common.{ap}
use Rattle.lock_table.specs.Locks.{held}
use Rattle.lock_table.proofs.Writes.{new_slots, new_whole}
use Rattle.lock_table.proofs.locks.Locks.new.Goals as goal

pub invariant_of-result : goal.invariant_of-result
invariant_of-result c = new_whole c.args.stations c.args.tables _ c.in_ok-slots.ensures.value

pub returns : goal.returns
returns c = record { value = ap (held c.args.stations c.args.tables) (new_slots c.args.stations c.args.tables _ c.in_ok-slots.ensures.value) }
