use Rattle.std.proofs.Common.{◌≡◌, ◌*◌, ◌<◌, ℕ, List, length, take, drop, ap, ◌∙◌, arith}
use Rattle.std.proofs.lemmas.List.{length-drop, length-take-le}
use Rattle.ndx_index.specs.Slots.{Slots}
use Rattle.ndx_index.proofs.RunLaws.{count_is, pair_there, slot_inside}
use Rattle.ndx_index.proofs.pages.slots.PairSlots.key.Goals as goal

pub part-requires : goal.part-requires
part-requires c = record { inside = rw c.as_slice.ensures.value (slot_inside c.self.inside c.args.self.now c.args.at c.self.view_is c.self.invariant c.requires.place) }

pub returns-clause-bytes : goal.returns-clause-bytes
returns-clause-bytes c =
    let inside = c.self.inside in
    let lt : c.args.at < length inside.numbers.items = omega (arith, c.requires.place, count_is inside c.args.self.now c.self.view_is) in
    rw (← c.self.view_is, pair_there inside.key_len inside.keys.items inside.numbers.items c.args.at lt)
    (c.part.ensures.bytes ∙ ap (λ (l : List ℕ). take inside.key_len (drop (c.args.at * inside.key_len) l)) c.as_slice.ensures.value)

pub returns-clause-len : goal.returns-clause-len
returns-clause-len c =
    let inside = c.self.inside in
    let k = inside.key_len in
    let room = slot_inside inside c.args.self.now c.args.at c.self.view_is c.self.invariant c.requires.place in
    let bytes = inside.keys.items in
    let is = c.part.ensures.bytes ∙ ap (λ (l : List ℕ). take k (drop (c.args.at * k) l)) c.as_slice.ensures.value in
    ap length is ∙ length-take-le k (drop (c.args.at * k) bytes) (omega (arith, room, length-drop (c.args.at * k) bytes)) ∙ ap (λ (s : Slots). s.key_len) c.self.view_is

pub returns-clause-short : goal.returns-clause-short
returns-clause-short c =
    let inside = c.self.inside in
    let k = inside.key_len in
    let room = slot_inside inside c.args.self.now c.args.at c.self.view_is c.self.invariant c.requires.place in
    let bytes = inside.keys.items in
    let is = c.part.ensures.bytes ∙ ap (λ (l : List ℕ). take k (drop (c.args.at * k) l)) c.as_slice.ensures.value in
    let long : length c.part.result.now ≡ k = ap length is ∙ length-take-le k (drop (c.args.at * k) bytes) (omega (arith, room, length-drop (c.args.at * k) bytes)) in
    omega (arith, long, c.self.invariant.short)
