use Rattle.std.proofs.Common.{◌≡◌, ◌<◌, length, set, ap, sym, ◌∙◌, arith}
use Rattle.std.proofs.lemmas.List.{length-set}
use Rattle.ndx_index.specs.Slots.{Slots}
use Rattle.ndx_index.proofs.RunLaws.{count_is, length-pairs, set_pairs, slot_inside}
use Rattle.ndx_index.proofs.pages.slots.PairSlots.set.Goals as goal

pub write_part-requires-clause-room : goal.write_part-requires-clause-room
write_part-requires-clause-room c = rw c.self.inside.keys.ok.0 (slot_inside c.self.inside c.args.self.now c.args.at c.self.view_is c.self.invariant c.requires.place)

pub index_mut-requires : goal.index_mut-requires
index_mut-requires c = omega (arith, c.requires.place, count_is c.self.inside c.args.self.now c.self.view_is, c.self.inside.numbers.ok.0)

pub invariant_of-self : goal.invariant_of-self
invariant_of-self c =
    let runs = c.self.invariant in
    let same : length (set c.self.inside.numbers.items c.args.at c.args.pair.now.number) ≡ length c.self.inside.numbers.items = length-set c.self.inside.numbers.items c.args.at c.args.pair.now.number in
    let long : length c.write_part.new.run.items ≡ length c.self.inside.keys.items = sym c.write_part.new.run.ok.0 ∙ c.write_part.ensures.len ∙ c.self.inside.keys.ok.0 in
    record {
      short = runs.short;
      fit = rw (same, long) runs.fit;
      keys_room = rw (same, c.write_part.ensures.capacity) runs.keys_room;
      numbers_room = rw same runs.numbers_room;
    }

pub returns-clause-pairs : goal.returns-clause-pairs
returns-clause-pairs c =
    let inside = c.self.inside in
    let pair = c.args.pair.now in
    let lt : c.args.at < length inside.numbers.items = omega (arith, c.requires.place, count_is inside c.args.self.now c.self.view_is) in
    let long : length pair.key ≡ inside.key_len = c.requires.key ∙ sym (ap (λ (s : Slots). s.key_len) c.self.view_is) in
    rw (← c.self.view_is, c.write_part.ensures.items, c.as_bytes.ensures.bytes)
    (set_pairs inside.key_len c.args.at pair.number inside.keys.items pair.key inside.numbers.items c.self.invariant.fit lt long)

pub returns-clause-len : goal.returns-clause-len
returns-clause-len c =
    let inside = c.self.inside in
    length-pairs inside.key_len c.write_part.new.run.items (set c.self.inside.numbers.items c.args.at c.args.pair.now.number) ∙ (length-set c.self.inside.numbers.items c.args.at c.args.pair.now.number) ∙ sym (count_is inside c.args.self.now c.self.view_is)
