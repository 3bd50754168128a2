use Rattle.std.proofs.Common.{◌<◌, length, refl, arith}
use Rattle.ndx_index.proofs.RunLaws.{length-pairs, pair_there}
use Rattle.ndx_index.proofs.pair_list.part.ListPart.number.Goals as goal

pub bounds-self-at : goal.bounds-self-at
bounds-self-at c = omega (arith, c.requires.place, length-pairs c.args.self.key_len c.args.self.keys.now c.args.self.numbers.now)

pub offset_bounds-self-at : goal.offset_bounds-self-at
offset_bounds-self-at c = omega (arith, c.requires.place, length-pairs c.args.self.key_len c.args.self.keys.now c.args.self.numbers.now, c.ranges.self)

pub returns : goal.returns
returns c =
    let part = c.args.self in
    let lt : c.args.at < length part.numbers.now = omega (arith, c.requires.place, length-pairs part.key_len part.keys.now part.numbers.now) in
    record { number = rw (pair_there part.key_len part.keys.now part.numbers.now c.args.at lt) refl }
