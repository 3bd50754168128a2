use Rattle.std.proofs.Common.{◌≡◌, ◌+◌, ◌<◌, length, sym, subst, ◌∙◌, arith}
use Rattle.ndx_index.specs.PageStore.{Page}
use Rattle.ndx_index.proofs.ChildPlace.{is_inner}
use Rattle.ndx_index.proofs.TreeRemove.{leaf_place, leaf_removes, leaf_empties, can_below, removes_above, removes_child, empties_child, page_stays, page_order, not_zero, is_zero}
use Rattle.ndx_index.proofs.pages.remove.+remove_under.Goals as goal

pub place_after-at-requires-clause-order : goal.place_after-at-requires-clause-order
place_after-at-requires-clause-order t c = page_order c.args.level c.args.store.now.pages c.args.free.now c.args.page c.requires.can.whole

pub overflow_sub-at : goal.overflow_sub-at
overflow_sub-at t c =
    let found = c.place_after-at.ensures in
    (leaf_place c.if-level-eq0.true c.requires.can found.within found.below found.above).one

pub returns-then-level-eq0-clause-removed : goal.returns-then-level-eq0-clause-removed
returns-then-level-eq0-clause-removed t c =
    let found = c.place_after-at.ensures in
    let place = leaf_place c.if-level-eq0.true c.requires.can found.within found.below found.above in
    λ some. leaf_removes c.if-level-eq0.true c.requires.can place c.take_pair.ensures.pages (subst (λ n. 0 < n) c.pair_count.ensures.count (not_zero c.pair_count.result some))

pub returns-then-level-eq0-clause-emptied : goal.returns-then-level-eq0-clause-emptied
returns-then-level-eq0-clause-emptied t c =
    let found = c.place_after-at.ensures in
    let place = leaf_place c.if-level-eq0.true c.requires.can found.within found.below found.above in
    λ none. leaf_empties c.if-level-eq0.true c.requires.can place c.take_pair.ensures.pages (sym c.pair_count.ensures.count ∙ is_zero c.pair_count.result none)

pub child_for-at-requires : goal.child_for-at-requires
child_for-at-requires t c =
    let page = is_inner (omega arith) c.requires.can.whole in
    record { there = page.there; order = page.order; keys = page.keys }

pub remove_under-requires : goal.remove_under-requires
remove_under-requires t c = (omega (arith, c.decreases), can_below (omega arith) c.child_for-at.ensures.child c.requires.can)

pub returns-then-not-remove_under-clause-removed : goal.returns-then-not-remove_under-clause-removed
returns-then-not-remove_under-clause-removed t c = λ _. removes_above (omega arith) c.child_for-at.ensures.child c.requires.can (c.remove_under.ensures.removed c.if-not-remove_under.true)

pub give_back-requires-clause-apart : goal.give_back-requires-clause-apart
give_back-requires-clause-apart t c r =
    let emptied = c.remove_under.ensures.emptied c.if-not-remove_under.false in
    omega (arith, emptied.uses_stay r, (can_below (omega arith) c.child_for-at.ensures.child c.requires.can).whole.apart r)

pub drop_child-requires : goal.drop_child-requires
drop_child-requires t c =
    let emptied = c.remove_under.ensures.emptied c.if-not-remove_under.false in
    let back = c.give_back.ensures in
    let same = page_stays (omega arith) c.child_for-at.ensures.child c.requires.can emptied (record { count = back.count; list = back.list; uses = back.uses; others = back.others; same_length = back.length }) in
    let page = is_inner (omega arith) c.requires.can.whole in
    record {
      there = omega (arith, page.there, back.length, emptied.same_length);
      place = subst (λ (y : Page). c.child_for-at.result.0 < length y.links) (sym same) c.child_for-at.ensures.child.in_range;
      keys = subst (λ (y : Page). length y.links ≡ length y.pairs + 1) (sym same) page.keys;
    }

pub returns-clause-removed : goal.returns-clause-removed
returns-clause-removed t c =
    let emptied = c.remove_under.ensures.emptied c.if-not-remove_under.false in
    let back = c.give_back.ensures in
    λ some. removes_child (omega arith) c.child_for-at.ensures.child c.requires.can emptied (record { count = back.count; list = back.list; uses = back.uses; others = back.others; same_length = back.length }) c.drop_child.ensures.dropped
    (subst (λ n. 0 < n) c.link_count.ensures.count (not_zero c.link_count.result some))

pub returns-clause-emptied : goal.returns-clause-emptied
returns-clause-emptied t c =
    let emptied = c.remove_under.ensures.emptied c.if-not-remove_under.false in
    let back = c.give_back.ensures in
    λ none. empties_child (omega arith) c.child_for-at.ensures.child c.requires.can emptied (record { count = back.count; list = back.list; uses = back.uses; others = back.others; same_length = back.length }) c.drop_child.ensures.dropped
    (sym c.link_count.ensures.count ∙ is_zero c.link_count.result none)
