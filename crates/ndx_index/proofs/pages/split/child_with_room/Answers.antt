use Rattle.std.proofs.Common.{◌≡◌, length, get_or, ap, sym, ◌∙◌, arith}
use Rattle.std.proofs.lemmas.Bool.{false≢true}
use Rattle.ndx_index.specs.declared.pair.Pair.{Pair}
use Rattle.ndx_index.specs.Order.{before}
use Rattle.ndx_index.specs.Slots.{slot_at}
use Rattle.ndx_index.specs.PageStore.{page_in}
use Rattle.ndx_index.proofs.ChildPlace.{is_inner, child_in}
use Rattle.ndx_index.proofs.SplitChild.{length_insert, child_there, can_split, child_lower, child_upper}
use Rattle.ndx_index.proofs.pages.split.child_with_room.Goals.{then-is_before, else-is_before}
use Rattle.ndx_index.proofs.pages.split.child_with_room.Goals as goal

pub child_for-at-requires : goal.child_for-at-requires
child_for-at-requires c =
    let page = is_inner c.requires.above c.requires.can.whole in
    record { there = page.there; order = page.order; keys = page.keys }

pub has_room-requires : goal.has_room-requires
has_room-requires c = record { there = child_in c.requires.above c.child_for-at.ensures.child c.requires.can.whole }

pub returns-then-has_room-clause-child : goal.returns-then-has_room-clause-child
returns-then-has_room-clause-child c = child_there c.requires.above c.child_for-at.ensures.child c.requires.can (c.has_room.ensures.value.0 c.if-has_room.true)

pub split_child-requires : goal.split_child-requires
split_child-requires c = record {
  can = can_split c.requires.above c.child_for-at.ensures.child c.requires.can (λ less. false≢true (sym c.if-has_room.false ∙ c.has_room.ensures.value.1 less)) c.has_room.ensures.bounded;
}

pub overflow_add-half : goal.overflow_add-half
overflow_add-half c = omega (arith, c.child_for-at.ensures.child.in_range, (can_split c.requires.above c.child_for-at.ensures.child c.requires.can (λ less. false≢true (sym c.if-has_room.false ∙ c.has_room.ensures.value.1 less)) c.has_room.ensures.bounded).room)

pub pair-requires-clause-place : goal.pair-requires-clause-place
pair-requires-clause-place c = omega (arith, c.child_for-at.ensures.child.in_range, (is_inner c.requires.above c.requires.can.whole).keys, ap length c.split_child.ensures.split.keys, length_insert {X = Pair})

pub link-requires-clause-place : goal.link-requires-clause-place
link-requires-clause-place c = elim c.if-is_before.branch [
  | then-is_before w ↦ omega (arith, c.child_for-at.ensures.child.in_range, w.half-is, c.split_child.ensures.split.links)
  | else-is_before w ↦ omega (arith, c.child_for-at.ensures.child.in_range, w.half-is, c.split_child.ensures.split.links)
]

pub returns-clause-child : goal.returns-clause-child
returns-clause-child c =
    let split = c.split_child.ensures.split in
    let pages = c.split_child.new.store.pages in
    let page = page_in pages c.args.page in
    let test : c.is_before.result ≡ before c.args.pair.now (slot_at page.pairs c.child_for-at.result.0) = c.is_before.ensures.value ∙ ap (before c.args.pair.now) c.pair.ensures.pair in
    elim c.if-is_before.branch [
      | then-is_before w ↦ child_lower split c.child_for-at.ensures.child (sym test ∙ w.if-is_before.true) (ap (λ k. get_or page.links k 0) (sym w.half-is) ∙ sym c.link.ensures.link)
      | else-is_before w ↦ child_upper split c.child_for-at.ensures.child (sym test ∙ w.if-is_before.false) (ap (λ k. get_or page.links k 0) (sym w.half-is) ∙ sym c.link.ensures.link)
    ]
