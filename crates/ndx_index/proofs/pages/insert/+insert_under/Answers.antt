use Rattle.std.proofs.Common.{◌≡◌, suc, ◌-◌, sym, subst, ◌∙◌, arith}
use Rattle.std.specs.List.{insert}
use Rattle.ndx_index.specs.PageStore.{page_in, with_pairs}
use Rattle.ndx_index.specs.TreeSteps.{CanInsert, Inserts}
use Rattle.ndx_index.proofs.TreeInsert.{with_pair_above, insert_leaf, can_insert_below, insert_below}
use Rattle.ndx_index.proofs.pages.insert.+insert_under.Goals as goal

pub returns-then-level-eq0-clause-inserted : goal.returns-then-level-eq0-clause-inserted
returns-then-level-eq0-clause-inserted t c =
    let a = c.args.store.now.pages in
    let f = c.args.free.now in
    let p = c.args.page in
    let pair = c.args.pair.now in
    let e = c.if-level-eq0.true in
    let can = subst (λ d. CanInsert d a f p pair) e c.requires.can in
    let found = c.place_after-at.ensures in
    subst (λ d. Inserts d a c.put_pair.new.self.pages f f p pair) (sym e)
    (insert_leaf a c.put_pair.new.self.pages f p pair (with_pairs (insert (page_in a p).pairs c.place_after-at.result pair) (page_in a p)) can c.put_pair.ensures.pages (with_pair_above pair (page_in a p).pairs c.place_after-at.result found.within can.absent found.below found.above))

pub insert_under-requires : goal.insert_under-requires
insert_under-requires t c =
    let a = c.args.store.now.pages in
    let f = c.args.free.now in
    let p = c.args.page in
    let pair = c.args.pair.now in
    let e : c.args.level ≡ suc (c.args.level - 1) = omega arith in
    let can = subst (λ d. CanInsert d a f p pair) e c.requires.can in
    let made = c.child_with_room-child.ensures in
    (omega (arith, c.decreases), (can_insert_below (c.args.level - 1) a c.child_with_room-child.new.store.pages f c.child_with_room-child.new.free p pair c.child_with_room-child.result can made.child, c.requires.key ∙ sym made.key_len))

pub returns-clause-inserted : goal.returns-clause-inserted
returns-clause-inserted t c =
    let a = c.args.store.now.pages in
    let f = c.args.free.now in
    let p = c.args.page in
    let pair = c.args.pair.now in
    let e : c.args.level ≡ suc (c.args.level - 1) = omega arith in
    let can = subst (λ d. CanInsert d a f p pair) e c.requires.can in
    subst (λ d. Inserts d a c.insert_under.new.store.pages f c.insert_under.new.free p pair) (sym e)
    (insert_below (c.args.level - 1) a c.child_with_room-child.new.store.pages c.insert_under.new.store.pages f c.child_with_room-child.new.free c.insert_under.new.free p pair c.child_with_room-child.result can c.child_with_room-child.ensures.child c.insert_under.ensures.inserted)
