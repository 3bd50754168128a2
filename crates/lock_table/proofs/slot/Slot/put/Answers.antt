use Rattle.std.proofs.Common.{◌≡◌, ◌+◌, ◌<◌, ◌≤◌, ℕ, List, length, take, slice_set, ap, ◌∙◌, arith, length-take}
use Rattle.std.specs.List.{insert}
use Rattle.lock_table.proofs.Places.{put_in}
use Rattle.lock_table.proofs.slot.Slot.put.Goals as goal

pub returns : goal.returns
returns c =
    let n = c.self.inside.count in
    let ns = c.self.inside.numbers in
    let a = c.args.at in
    let x = c.args.number in
    let long : length (take n ns) ≡ length c.args.self.now = ap (λ (l : List ℕ). length l) c.self.view_is in
    let le : a ≤ n = omega (arith, long, length-take n ns, c.requires.place) in
    let lt : n < length ns = omega (arith, long, length-take n ns, c.requires.room, c.self.told) in
    record { value = ap (λ (l : List ℕ). take (n + 1) (slice_set l a x)) c.copy_within.ensures.after ∙ put_in ns n a x le lt ∙ ap (λ (l : List ℕ). insert l a x) c.self.view_is }
