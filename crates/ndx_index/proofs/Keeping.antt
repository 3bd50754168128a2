-- Pages of a tree and free pages that a step keeps together.
use Rattle.std.proofs.Common.{◌≡◌, ℕ, ◌+◌, ◌<◌, ◌≤◌, List, length, set, refl, sym, ◌∙◌, subst, arith}
use Rattle.std.proofs.lemmas.List.{get_or-set_same, get_or-set_other, length-set}
use Rattle.ndx_index.specs.declared.pages.free.FreeList.{FreeList}
use Rattle.ndx_index.specs.PageStore.{Page, page_in, no_page}
use Rattle.ndx_index.specs.IndexTree.{pairs_under, here, uses, uses_free, uses_both, IsTree, IsFreeList}
use Rattle.ndx_index.specs.TreeSteps.{Keeps, IsSubtreeApart}
use Rattle.ndx_index.proofs.TreeFrame.{here_itself, framed, Framed}
use Rattle.ndx_index.proofs.FreeFrame.{free_framed, FreeFramed}

pub keeps_then : (d : ℕ) (a b c : List Page) (f g h : FreeList) (p : ℕ) → Keeps d a b f g p → Keeps d b c g h p → Keeps d a c f h p
keeps_then d a b c f g h p x y = record {
  tree = y.tree;
  list = y.list;
  uses_stay = λ r. y.uses_stay r ∙ x.uses_stay r;
  frame = λ r u. y.frame r (x.uses_stay r ∙ u) ∙ x.frame r u;
  same_length = y.same_length ∙ x.same_length;
}

pub keeps_itself : (d : ℕ) (a : List Page) (f : FreeList) (p : ℕ) → IsSubtreeApart d a f p → Keeps d a a f f p
keeps_itself d a f p whole = record {
  tree = whole.tree;
  list = whole.list;
  uses_stay = λ r. refl;
  frame = λ r u. refl;
  same_length = refl;
}

-- the free list stays where none of its pages changes
pub list_framed : (a b : List Page) (f : FreeList) → IsFreeList a f → length b ≡ length a → ((r : ℕ) → 0 < uses_free a f r → page_in b r ≡ page_in a r) → FreeFramed f.count a b f.head
list_framed a b f list n same = free_framed f.count a b f.head list (omega (arith, n)) (λ r h lt. same r h)

-- a page was taken off the free list, and is empty
pub record Took (d : ℕ) (a b : List Page) (f g : FreeList) (p q : ℕ) : Type 0 where
  pub pairs : pairs_under d b p ≡ pairs_under d a p
  pub uses_stay : (r : ℕ) → uses d b p r ≡ uses d a p r
  pub tree : IsTree d b p
  pub list : IsFreeList b g
  pub apart : (r : ℕ) → uses d b p r + here q r + uses_free b g r ≤ 1
  pub both : (r : ℕ) → here q r + uses_free b g r ≡ uses_free a f r
  pub there : q < length b
  pub empty : page_in b q ≡ no_page
  pub frame : (r : ℕ) → (r ≡ q → ⊥) → page_in b r ≡ page_in a r
  pub same_length : length b ≡ length a

pub took : (d : ℕ) (a b : List Page) (f g : FreeList) (p q : ℕ) → IsTree d a p → ((r : ℕ) → uses_both d a f p r ≤ 1) → q < length a → b ≡ set a q no_page → IsFreeList b g → ((r : ℕ) → here q r + uses_free b g r ≡ uses_free a f r) → Took d a b f g p q
took d a b f g p q tree apart there written list both =
    let n : length b ≡ length a = rw written (length-set a q no_page) in
    let other : (r : ℕ) → (r ≡ q → ⊥) → page_in b r ≡ page_in a r = λ r ne. rw written (get_or-set_other a q r no_page no_page ne) in
    let frame : Framed d a b p = framed d a b p (λ r u. other r (λ e. omega (arith, u, apart r, both r, subst (λ x. here q x ≡ 1) (sym e) (here_itself q)))) in
    record {
      pairs = frame.pairs;
      uses_stay = frame.uses_stay;
      tree = frame.tree (omega (arith, n)) tree;
      list = list;
      apart = λ r. omega (arith, apart r, both r, frame.uses_stay r);
      both = both;
      there = omega (arith, there, n);
      empty = rw written (get_or-set_same a q no_page no_page there);
      frame = other;
      same_length = n;
    }
