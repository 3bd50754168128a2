use Rattle.std.proofs.Common.{◌≡◌, ◌+◌, ◌-◌, length, sym, ◌∙◌, arith}
use Rattle.ndx_index.proofs.RunLaws.{count_is, length-pairs, copy_pairs, times_le}
use Rattle.ndx_index.proofs.pages.slots.PairSlots.copy_within.Goals as goal

pub copy_parts-requires-clause-inside : goal.copy_parts-requires-clause-inside
copy_parts-requires-clause-inside c =
    let inside = c.self.inside in
    let count = count_is inside c.args.self.now c.self.view_is in
    rw (inside.keys.ok.0, c.self.invariant.fit) (times_le c.args.end (length inside.numbers.items) inside.key_len (omega (arith, count, c.requires.inside)))

pub copy_parts-requires-clause-room : goal.copy_parts-requires-clause-room
copy_parts-requires-clause-room c =
    let inside = c.self.inside in
    let count = count_is inside c.args.self.now c.self.view_is in
    rw (inside.keys.ok.0, c.self.invariant.fit) (times_le (c.args.dest + (c.args.end - c.args.start)) (length inside.numbers.items) inside.key_len (omega (arith, count, c.requires.room)))

pub copy_within-requires-clause-in_bounds : goal.copy_within-requires-clause-in_bounds
copy_within-requires-clause-in_bounds c = omega (arith, c.requires.inside, count_is c.self.inside c.args.self.now c.self.view_is, c.self.inside.numbers.ok.0)

pub copy_within-requires-clause-dest_in_bounds : goal.copy_within-requires-clause-dest_in_bounds
copy_within-requires-clause-dest_in_bounds c = omega (arith, c.requires.room, count_is c.self.inside c.args.self.now c.self.view_is, c.self.inside.numbers.ok.0)

pub invariant_of-self : goal.invariant_of-self
invariant_of-self c =
    let runs = c.self.invariant in
    let same : length c.copy_within.new.self.items ≡ length c.self.inside.numbers.items = sym c.copy_within.new.self.ok.0 ∙ c.copy_within.ensures.len ∙ c.self.inside.numbers.ok.0 in
    let long : length c.copy_parts.new.run.items ≡ length c.self.inside.keys.items = sym c.copy_parts.new.run.ok.0 ∙ c.copy_parts.ensures.len ∙ c.self.inside.keys.ok.0 in
    record {
      short = runs.short;
      fit = rw (same, long) runs.fit;
      keys_room = rw (same, c.copy_parts.ensures.capacity) runs.keys_room;
      numbers_room = rw (same, c.copy_within.ensures.capacity) runs.numbers_room;
    }

pub returns-clause-pairs : goal.returns-clause-pairs
returns-clause-pairs c =
    let inside = c.self.inside in
    let count = count_is inside c.args.self.now c.self.view_is in
    rw (← c.self.view_is, c.copy_parts.ensures.items, c.copy_within.ensures.items)
    (copy_pairs inside.key_len c.args.start c.args.end c.args.dest inside.keys.items inside.numbers.items c.self.invariant.fit c.requires.order
    (omega (arith, count, c.requires.inside)) (omega (arith, count, c.requires.room)))

pub returns-clause-len : goal.returns-clause-len
returns-clause-len c =
    let inside = c.self.inside in
    length-pairs inside.key_len c.copy_parts.new.run.items c.copy_within.new.self.items ∙ (sym c.copy_within.new.self.ok.0 ∙ c.copy_within.ensures.len ∙ c.self.inside.numbers.ok.0) ∙ sym (count_is inside c.args.self.now c.self.view_is)
