-- The child of a page under which a pair belongs.
use Rattle.std.proofs.Common.{◌≡◌, ℕ, suc, ◌+◌, ◌-◌, ◌<◌, ◌≤◌, true, false, List, length, ap, ◌∙◌, subst, arith}
use Rattle.std.proofs.lemmas.List.{get_or_default}
use Rattle.ndx_index.specs.declared.pair.Pair.{Pair}
use Rattle.ndx_index.specs.declared.pages.free.FreeList.{FreeList}
use Rattle.ndx_index.specs.Order.{before, AreInOrder}
use Rattle.ndx_index.specs.PageStore.{Page, page_in}
use Rattle.ndx_index.specs.Slots.{slot_at, no_pair}
use Rattle.ndx_index.specs.IndexTree.{IsTree}
use Rattle.ndx_index.specs.TreeSteps.{Chosen, IsChildAt, IsSubtreeApart}
use Rattle.ndx_index.proofs.TreeInsert.{chosen_at}
use Rattle.ndx_index.proofs.TreeLists.{all_at, links_length, tree_in}

-- where a bisection found the first key above the pair
pub chosen_there : (p : Pair) (i : ℕ) (ks : List Pair) → i ≤ length ks → ((k : ℕ) → k < i → before p (slot_at ks k) ≡ false) → ((k : ℕ) → i ≤ k → k < length ks → before p (slot_at ks k) ≡ true) → Chosen p i ks
chosen_there p i ks le low high = chosen_at p i ks le
    (λ k d lt. ap (before p) (get_or_default ks k d no_pair (omega (arith, le, lt))) ∙ low k lt)
    (λ d lt. ap (before p) (get_or_default ks i d no_pair lt) ∙ high i (omega arith) lt)

-- the level of a page that has children is one more than theirs
pub one_up : {level : ℕ} {a : List Page} {f : FreeList} {p : ℕ} → 0 < level → IsSubtreeApart level a f p → IsSubtreeApart (suc (level - 1)) a f p
one_up {level = level} {a = a} {f = f} {p = p} inner whole = subst (λ n. IsSubtreeApart n a f p) (omega arith) whole

-- an inner page is there, its keys stand in order, and it has one link more
pub record IsInner (a : List Page) (p : ℕ) : Type 0 where
  pub there : p < length a
  pub order : AreInOrder (page_in a p).pairs
  pub keys : length (page_in a p).links ≡ length (page_in a p).pairs + 1

pub is_inner : {level : ℕ} {a : List Page} {f : FreeList} {p : ℕ} → 0 < level → IsSubtreeApart level a f p → IsInner a p
is_inner {level = level} {a = a} {p = p} inner whole =
    let tree = (one_up inner whole).tree in
    record { there = tree.0; order = tree.2; keys = links_length (level - 1) a p tree }

pub child_in : {level : ℕ} {a : List Page} {f : FreeList} {p i c : ℕ} {pair : Pair} → 0 < level → IsChildAt pair (page_in a p) i c → IsSubtreeApart level a f p → c < length a
child_in {level = level} {a = a} {p = p} {i = i} {c = c} inner child whole =
    tree_in (level - 1) a c (subst (λ x. IsTree (level - 1) a x) child.is (all_at (λ x. IsTree (level - 1) a x) (page_in a p).links i child.in_range (one_up inner whole).tree.3))
