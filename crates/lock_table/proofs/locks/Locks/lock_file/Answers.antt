use Rattle.std.proofs.Common.{[], ◌∷◌}
use Rattle.lock_table.specs.Laws.{apart_whole}
use Rattle.lock_table.proofs.Each.{slot_table}
use Rattle.lock_table.proofs.Writes.{taken, slots_taken}
use Rattle.lock_table.proofs.locks.Locks.lock_file.Goals as goal

pub invariant_of-self : goal.invariant_of-self
invariant_of-self c =
    slots_taken c.self.inside.stations c.self.inside.tables c.args.station c.args.table c.slot_index-index.result c.self.inside.slots.items c.of_table.result (0 ∷ []) c.args.self.now c.self.view_is c.self.invariant c.of_table.ensures.value slot_table
    (taken c.self.inside.stations c.self.inside.tables c.args.station c.args.table c.slot_index-index.result c.self.inside.slots.items c.of_table.result (0 ∷ []) c.args.self.now c.self.view_is c.self.invariant.whole c.of_table.ensures.value c.requires.table c.requires.station c.requires.stations c.slot_index-index.ensures.value c.slot_index-index.ensures.inside)
    (apart_whole c.args.self.now.locks c.args.station c.args.table c.requires.free)

pub returns : goal.returns
returns c = record { value = taken c.self.inside.stations c.self.inside.tables c.args.station c.args.table c.slot_index-index.result c.self.inside.slots.items c.of_table.result (0 ∷ []) c.args.self.now c.self.view_is c.self.invariant.whole c.of_table.ensures.value c.requires.table c.requires.station c.requires.stations c.slot_index-index.ensures.value c.slot_index-index.ensures.inside }
