use Rattle.std.proofs.Common.{◌≡◌, ◌≤◌, ◌-◌, ◌+◌, List, ℕ, length, drop, refl, ap, ◌∙◌, arith}
use Rattle.std.proofs.lemmas.List.{length-drop, with_items_is}
use Rattle.std.specs.Vec.{with_items}
use borrow.Rule.Slice.PartMut.{put_mid}
use Rattle.dbf_image.proofs.BytesBehind.{put_behind}
use Rattle.dbf_image.proofs.Edits.{length-put}
use Rattle.dbf_image.proofs.table.records.RecordBytes.put.Goals as goal

pub slice_bounds-copy_from_slice-end : goal.slice_bounds-copy_from_slice-end
slice_bounds-copy_from_slice-end c =
    let inside = c.self.inside in
    let room : c.args.index + length c.args.part.now ≤ length (drop inside.start inside.bytes.items) = rw (← c.self.view_is) at c.requires.inside in
    let long : length c.deref_mut.result.now ≡ length inside.bytes.items = ap (length {A = ℕ}) c.deref_mut.ensures.value in
    omega (arith, room, long, length-drop inside.start inside.bytes.items)

pub returns : goal.returns
returns c =
    let inside = c.self.inside in
    let items = inside.bytes.items in
    let part = c.args.part.now in
    let start = inside.start + c.args.index in
    let end = start + length part in
    let room : c.args.index + length part ≤ length (drop inside.start items) = rw (← c.self.view_is) at c.requires.inside in
    let low : start ≤ length items = omega (arith, room, length-drop inside.start items, c.self.invariant, inside.bytes.ok.0) in
    let k : end - start ≡ length part = omega arith in
    let whole : put_mid start (end - start) c.deref_mut.result.now c.copy_from_slice.new.self ≡ put_mid start (length part) items part =
    rw (k, c.deref_mut.ensures.value, c.copy_from_slice.ensures.after) refl in
    let long : length (put_mid start (length part) items part) ≡ inside.bytes.len = omega (arith, length-put start items part (omega (arith, room, length-drop inside.start items, c.self.invariant, inside.bytes.ok.0))) in
    let kept : (with_items inside.bytes (put_mid start (end - start) c.deref_mut.result.now c.copy_from_slice.new.self)).items ≡ put_mid start (length part) items part =
    ap (λ (ws : List ℕ). (with_items inside.bytes ws).items) whole ∙ with_items_is inside.bytes (put_mid start (length part) items part) long in
    record { items = rw (← c.self.view_is) (ap (drop inside.start) kept ∙ put_behind inside.start c.args.index items part low) }
