use Rattle.std.proofs.Common.{◌≡◌, suc, ◌-◌, Some, length, get_or, sym, subst, ap, ◌∙◌, arith}
use Rattle.ndx_index.specs.PageStore.{page_in}
use Rattle.ndx_index.specs.Slots.{slot_at}
use Rattle.ndx_index.specs.IndexTree.{pairs_under, IsTree}
use Rattle.ndx_index.proofs.TreeLists.{links_above}
use Rattle.ndx_index.specs.LeafPlaces.{last_in}
use Rattle.ndx_index.proofs.Searching.{child_tree, last_some, last_under_child}
use Rattle.ndx_index.proofs.pages.search.+last_leaf.Goals as goal

pub overflow_sub-link_count : goal.overflow_sub-link_count
overflow_sub-link_count t c = omega (arith, c.link_count.ensures.count, links_above c.args.level c.args.store.now.pages c.args.page (omega arith) c.requires.tree)

pub link-requires-clause-place : goal.link-requires-clause-place
link-requires-clause-place t c = omega (arith, c.link_count.ensures.count, links_above c.args.level c.args.store.now.pages c.args.page (omega arith) c.requires.tree)

pub last_leaf-requires : goal.last_leaf-requires
last_leaf-requires t c =
    let a = c.args.store.now.pages in
    let d = c.args.level - 1 in
    let e : c.args.level ≡ suc (c.args.level - 1) = omega arith in
    let tree = subst (λ k. IsTree k a c.args.page) e c.requires.tree in
    (omega (arith, c.decreases), subst (λ q. IsTree d a q) (sym c.link.ensures.link) (child_tree d a c.args.page (c.link_count.result - 1) tree (omega (arith, c.link_count.ensures.count, links_above c.args.level c.args.store.now.pages c.args.page (omega arith) c.requires.tree))))

pub returns-then-level-eq0-clause-pair : goal.returns-then-level-eq0-clause-pair
returns-then-level-eq0-clause-pair t c =
    let a = c.args.store.now.pages in
    let p = c.args.page in
    let ps = (page_in a p).pairs in
    let e = c.if-level-eq0.true in
    let tree = subst (λ k. IsTree k a p) e c.requires.tree in
    subst (λ d. last_in (pairs_under d a p) ≡ Some (slot_at ps (length ps - 1))) (sym e) (last_some ps tree.1)

pub returns-else-level-eq0-clause-pair : goal.returns-else-level-eq0-clause-pair
returns-else-level-eq0-clause-pair t c =
    let a = c.args.store.now.pages in
    let p = c.args.page in
    let d = c.args.level - 1 in
    let ps = (page_in a c.last_leaf.result).pairs in
    let e : c.args.level ≡ suc (c.args.level - 1) = omega arith in
    subst (λ k. last_in (pairs_under k a p) ≡ Some (slot_at ps (length ps - 1))) (sym e)
    (last_under_child d a p (subst (λ k. IsTree k a p) e c.requires.tree)
    ∙ ap (λ n. last_in (pairs_under d a (get_or (page_in a p).links (n - 1) 0))) (sym c.link_count.ensures.count)
    ∙ ap (λ q. last_in (pairs_under d a q)) (sym c.link.ensures.link)
    ∙ c.last_leaf.ensures.pair)
