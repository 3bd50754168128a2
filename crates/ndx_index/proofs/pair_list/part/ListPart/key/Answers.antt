use Rattle.std.proofs.Common.{◌≡◌, ◌*◌, ◌<◌, length, drop, ap, ◌∙◌, arith}
use Rattle.std.proofs.lemmas.List.{length-drop, length-take-le}
use Rattle.ndx_index.proofs.RunLaws.{length-pairs, pair_there, place_inside}
use Rattle.ndx_index.proofs.pair_list.part.ListPart.key.Goals as goal

pub part-requires : goal.part-requires
part-requires c =
    let part = c.args.self in
    let lt : c.args.at < length part.numbers.now = omega (arith, c.requires.place, length-pairs part.key_len part.keys.now part.numbers.now) in
    record { inside = place_inside part.key_len c.args.at (length part.keys.now) (length part.numbers.now) lt part.fit }

pub returns-clause-key : goal.returns-clause-key
returns-clause-key c =
    let part = c.args.self in
    let lt : c.args.at < length part.numbers.now = omega (arith, c.requires.place, length-pairs part.key_len part.keys.now part.numbers.now) in
    rw (pair_there part.key_len part.keys.now part.numbers.now c.args.at lt) c.part.ensures.bytes

pub returns-clause-len : goal.returns-clause-len
returns-clause-len c =
    let part = c.args.self in
    let lt : c.args.at < length part.numbers.now = omega (arith, c.requires.place, length-pairs part.key_len part.keys.now part.numbers.now) in
    let room = place_inside part.key_len c.args.at (length part.keys.now) (length part.numbers.now) lt part.fit in
    ap length c.part.ensures.bytes ∙ length-take-le part.key_len (drop (c.args.at * part.key_len) part.keys.now) (omega (arith, room, length-drop (c.args.at * part.key_len) part.keys.now))

pub returns-clause-short : goal.returns-clause-short
returns-clause-short c =
    let part = c.args.self in
    let lt : c.args.at < length part.numbers.now = omega (arith, c.requires.place, length-pairs part.key_len part.keys.now part.numbers.now) in
    let room = place_inside part.key_len c.args.at (length part.keys.now) (length part.numbers.now) lt part.fit in
    let long : length c.part.result.now ≡ part.key_len =
    ap length c.part.ensures.bytes ∙ length-take-le part.key_len (drop (c.args.at * part.key_len) part.keys.now) (omega (arith, room, length-drop (c.args.at * part.key_len) part.keys.now)) in
    omega (arith, long, part.short)
