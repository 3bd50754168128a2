use Rattle.std.proofs.Common.{◌≡◌, suc, ◌-◌, Some, slice_get, sym, subst, ap, ◌∙◌, arith}
use Rattle.ndx_index.specs.IndexTree.{pairs_under, IsTree}
use Rattle.ndx_index.specs.PageStore.{page_in}
use Rattle.ndx_index.specs.Slots.{slot_at}
use Rattle.ndx_index.proofs.TreeLists.{links_above}
use Rattle.ndx_index.proofs.Searching.{child_tree, first_under_child}
use Rattle.ndx_index.proofs.pages.search.+first_leaf.Goals as goal

pub link-requires-clause-place : goal.link-requires-clause-place
link-requires-clause-place t c = omega (arith, links_above c.args.level c.args.store.now.pages c.args.page (omega arith) c.requires.tree)

pub first_leaf-requires : goal.first_leaf-requires
first_leaf-requires t c =
    let a = c.args.store.now.pages in
    let e : c.args.level ≡ suc (c.args.level - 1) = omega arith in
    let tree = subst (λ d. IsTree d a c.args.page) e c.requires.tree in
    (omega (arith, c.decreases), subst (λ q. IsTree (c.args.level - 1) a q) (sym c.link.ensures.link) (child_tree (c.args.level - 1) a c.args.page 0 tree (omega (arith, links_above c.args.level c.args.store.now.pages c.args.page (omega arith) c.requires.tree))))

pub returns-else-level-eq0-clause-pair : goal.returns-else-level-eq0-clause-pair
returns-else-level-eq0-clause-pair t c =
    let a = c.args.store.now.pages in
    let p = c.args.page in
    let e : c.args.level ≡ suc (c.args.level - 1) = omega arith in
    subst (λ d. slice_get (pairs_under d a p) 0 ≡ Some (slot_at (page_in a c.first_leaf.result).pairs 0)) (sym e)
    (first_under_child (c.args.level - 1) a p (subst (λ d. IsTree d a p) e c.requires.tree)
    ∙ ap (λ q. slice_get (pairs_under (c.args.level - 1) a q) 0) (sym c.link.ensures.link)
    ∙ c.first_leaf.ensures.pair)
