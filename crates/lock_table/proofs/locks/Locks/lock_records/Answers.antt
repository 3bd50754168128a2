use Rattle.lock_table.specs.Numbers.{different}
use Rattle.lock_table.specs.Laws.{apart_records}
use Rattle.lock_table.proofs.Each.{slot_records}
use Rattle.lock_table.proofs.Writes.{taken, slots_taken}
use Rattle.lock_table.proofs.locks.Locks.lock_records.Goals as goal

pub invariant_of-self : goal.invariant_of-self
invariant_of-self c =
    slots_taken c.self.inside.stations c.self.inside.tables c.args.station c.args.table c.slot_index-index.result c.self.inside.slots.items c.of_records.result (different c.args.numbers.now) c.args.self.now c.self.view_is c.self.invariant c.of_records.ensures.value (slot_records c.args.numbers.now c.requires.numbers c.requires.count_bounded)
    (taken c.self.inside.stations c.self.inside.tables c.args.station c.args.table c.slot_index-index.result c.self.inside.slots.items c.of_records.result (different c.args.numbers.now) c.args.self.now c.self.view_is c.self.invariant.whole c.of_records.ensures.value c.requires.table c.requires.station c.requires.stations c.slot_index-index.ensures.value c.slot_index-index.ensures.inside)
    (apart_records c.args.self.now.locks c.args.station c.args.table c.args.numbers.now c.requires.numbers c.requires.free)

pub returns : goal.returns
returns c = record { value = taken c.self.inside.stations c.self.inside.tables c.args.station c.args.table c.slot_index-index.result c.self.inside.slots.items c.of_records.result (different c.args.numbers.now) c.args.self.now c.self.view_is c.self.invariant.whole c.of_records.ensures.value c.requires.table c.requires.station c.requires.stations c.slot_index-index.ensures.value c.slot_index-index.ensures.inside }
