use Rattle.std.proofs.Common.{◌≡◌, ◌<◌, ◌+◌, ◌-◌, ℕ, suc, Option, length, ap, sym, subst, ◌∙◌, arith}
use Rattle.ndx_index.specs.PageStore.{Page, page_in}
use Rattle.ndx_index.specs.Slots.{slot_at}
use Rattle.ndx_index.specs.IndexTree.{IsTree}
use Rattle.ndx_index.specs.TreeSteps.{CanAppend, Appends, AppendsUnder, AppendsBeside, AddsLink}
use Rattle.ndx_index.proofs.TreeLists.{links_above}
use Rattle.ndx_index.proofs.Appending.{can_append_below, under_last, child_more, leaf_beside, is_first, ok_weaker}
use Rattle.ndx_index.proofs.pages.append.+append_under.Goals as goal

pub returns-then-level-eq0-clause-appended : goal.returns-then-level-eq0-clause-appended
returns-then-level-eq0-clause-appended t c =
    let a = c.args.store.now.pages in
    let e : c.args.level ≡ 0 = omega (arith, c.if-level-eq0.true) in
    subst (λ k. AppendsBeside k a a c.args.leaf c.args.leaf) (sym e) (leaf_beside a c.args.page c.args.leaf (subst (λ k. CanAppend k a c.args.page c.args.leaf) e c.requires.can))

pub overflow_sub-link_count : goal.overflow_sub-link_count
overflow_sub-link_count t c = omega (arith, c.link_count.ensures.count, links_above c.args.level c.args.store.now.pages c.args.page (omega arith) c.requires.can.tree)

pub link-last-requires-clause-place : goal.link-last-requires-clause-place
link-last-requires-clause-place t c = omega (arith, c.link_count.ensures.count, links_above c.args.level c.args.store.now.pages c.args.page (omega arith) c.requires.can.tree)

pub append_under-requires : goal.append_under-requires
append_under-requires t c =
    let a = c.args.store.now.pages in
    let p = c.args.page in
    let q = c.args.leaf in
    let d = c.args.level - 1 in
    let e : c.args.level ≡ suc d = omega arith in
    let can : CanAppend (suc d) a p q = subst (λ k. CanAppend k a p q) e c.requires.can in (
      omega (arith, c.decreases),
      subst (λ x. CanAppend d a x q) (sym c.link-last.ensures.link)
          (can_append_below d a p q (c.link_count.result - 1) can (omega (arith, c.link_count.ensures.count, links_above c.args.level c.args.store.now.pages c.args.page (omega arith) c.requires.can.tree))),
    )

pub pair-first-requires : goal.pair-first-requires
pair-first-requires t c =
    let a = c.args.store.now.pages in
    let b = c.append_under.new.store.pages in
    let q = c.args.leaf in
    let done : AppendsBeside (c.args.level - 1) a b q c.in-Some.beside = subst (λ s. Appends (c.args.level - 1) a b c.link-last.result q s) c.in-Some.is c.in_ok-append_under.ensures.appended in
    record {
      page = omega (arith, c.requires.can.leaf.0, done.longer);
      place = subst (λ (g : Page). 0 < length g.pairs) (sym (done.frame q c.requires.can.leaf.0)) c.requires.can.leaf.1;
    }

pub add_child-requires : goal.add_child-requires
add_child-requires t c =
    let a = c.args.store.now.pages in
    let b = c.append_under.new.store.pages in
    let p = c.args.page in
    let q = c.args.leaf in
    let d = c.args.level - 1 in
    let e : c.args.level ≡ suc d = omega arith in
    let tree : IsTree (suc d) a p = subst (λ k. IsTree k a p) e c.requires.can.tree in
    let done : AppendsBeside d a b q c.in-Some.beside = subst (λ s. Appends d a b c.link-last.result q s) c.in-Some.is c.in_ok-append_under.ensures.appended in
    let same = done.frame p tree.0 in
    record {
      there = omega (arith, tree.0, done.longer);
      some = omega (arith, ap (λ (g : Page). length g.links) same, links_above c.args.level c.args.store.now.pages c.args.page (omega arith) c.requires.can.tree);
      keys = subst (λ (g : Page). length g.links ≡ length g.pairs + 1) (sym same) (links_above c.args.level c.args.store.now.pages c.args.page (omega arith) c.requires.can.tree);
      key = c.pair-first.ensures.key;
    }

pub returns-in-None-clause-appended : goal.returns-in-None-clause-appended
returns-in-None-clause-appended t c =
    let a = c.args.store.now.pages in
    let b = c.append_under.new.store.pages in
    let p = c.args.page in
    let q = c.args.leaf in
    let d = c.args.level - 1 in
    let e : c.args.level ≡ suc d = omega arith in
    let can : CanAppend (suc d) a p q = subst (λ k. CanAppend k a p q) e c.requires.can in
    let done : AppendsUnder d a b c.link-last.result q = subst (λ s. Appends d a b c.link-last.result q s) c.in-None.is c.in_ok-append_under.ensures.appended in
    subst (λ k. AppendsUnder k a b p q) (sym e)
    (under_last d a b p q (c.link_count.result - 1) can (omega (arith, c.link_count.ensures.count, links_above c.args.level c.args.store.now.pages c.args.page (omega arith) c.requires.can.tree))
    (subst (λ x. AppendsUnder d a b x q) c.link-last.ensures.link done))

pub returns-in-Some-clause-appended : goal.returns-in-Some-clause-appended
returns-in-Some-clause-appended t c =
    let a = c.args.store.now.pages in
    let b = c.append_under.new.store.pages in
    let b1 = c.add_child.new.store.pages in
    let p = c.args.page in
    let q = c.args.leaf in
    let s = c.in-Some.beside in
    let d = c.args.level - 1 in
    let first = c.pair-first.result in
    let e : c.args.level ≡ suc d = omega arith in
    let can : CanAppend (suc d) a p q = subst (λ k. CanAppend k a p q) e c.requires.can in
    let done : AppendsBeside d a b q s = subst (λ x. Appends d a b c.link-last.result q x) c.in-Some.is c.in_ok-append_under.ensures.appended in
    let is : first ≡ slot_at (page_in a q).pairs 0 = c.pair-first.ensures.pair ∙ ap (λ (g : Page). slot_at g.pairs 0) (done.frame q can.leaf.0) in
    ok_weaker (AddsLink b b1 p s first) (Appends c.args.level a b1 p q)
    (λ (x : Option ℕ) h. subst (λ k. Appends k a b1 p q x) (sym e) (child_more d a b b1 p q first s (is_first (page_in a q).pairs first can.leaf.1 is) can done x h))
    c.add_child.result c.add_child.ensures.added
