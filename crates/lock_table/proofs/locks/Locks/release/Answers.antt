use Rattle.lock_table.proofs.Writes.{cleared, slots_cleared}
use Rattle.lock_table.proofs.locks.Locks.release.Goals as goal

pub invariant_of-self : goal.invariant_of-self
invariant_of-self c =
    slots_cleared c.self.inside.stations c.self.inside.tables c.args.station c.args.table c.slot_index-index.result c.self.inside.slots.items c.empty.result c.args.self.now c.self.view_is c.self.invariant c.empty.ensures.value
    (cleared c.self.inside.stations c.self.inside.tables c.args.station c.args.table c.slot_index-index.result c.self.inside.slots.items c.empty.result c.args.self.now c.self.view_is c.self.invariant.whole c.empty.ensures.value c.requires.table c.requires.station c.requires.stations c.slot_index-index.ensures.value c.slot_index-index.ensures.inside)

pub returns : goal.returns
returns c = record { value = cleared c.self.inside.stations c.self.inside.tables c.args.station c.args.table c.slot_index-index.result c.self.inside.slots.items c.empty.result c.args.self.now c.self.view_is c.self.invariant.whole c.empty.ensures.value c.requires.table c.requires.station c.requires.stations c.slot_index-index.ensures.value c.slot_index-index.ensures.inside }
