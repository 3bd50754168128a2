-- A pair is taken out of a tree by its top.
use Rattle.std.proofs.Common.{◌≡◌, ℕ, zero, suc, ◌+◌, ◌-◌, ◌<◌, List, [], ◌∷◌, length, Contains, ap, sym, ◌∙◌, subst, arith}
use Rattle.ndx_index.specs.declared.pair.Pair.{Pair}
use Rattle.ndx_index.specs.declared.pages.free.FreeList.{FreeList}
use Rattle.ndx_index.specs.declared.pages.root.Root.{Root}
use Rattle.ndx_index.specs.Order.{without_pair}
use Rattle.ndx_index.specs.PageStore.{Page}
use Rattle.ndx_index.specs.IndexTree.{here, uses_free, IsFreeList, pairs_of_levels, uses_of_levels}
use Rattle.ndx_index.specs.TreeSteps.{Empties, CanRemoveIn, RemovesIn}
use Rattle.ndx_index.proofs.Unparting.{without_itself}

some_levels : (k : ℕ) (a : List Page) (p : ℕ) (pair : Pair) → Contains (pairs_of_levels k a p) pair → 0 < k
some_levels zero a p pair held = absurd (omega (arith, held.1))
some_levels (suc k) a p pair held = omega arith

-- a tree that has a pair has a level
has_levels : (a : List Page) (f : FreeList) (t : Root) (pair : Pair) → CanRemoveIn a f t pair → 0 < t.levels
has_levels a f t pair can = some_levels t.levels a t.page pair can.held

-- nothing is left, and the top was given back
pub emptied_at_top : (a b e : List Page) (f g h : FreeList) (t : Root) (pair : Pair) → CanRemoveIn a f t pair → Empties (t.levels - 1) a b f g t.page pair → h.count ≡ g.count + 1 → IsFreeList e h → ((r : ℕ) → uses_free e h r ≡ here t.page r + uses_free b g r) → length e ≡ length b → RemovesIn a e f h t (record { page = t.page; levels = 0 }) pair
emptied_at_top a b e f g h t pair can done count list uses same =
    let level : suc (t.levels - 1) ≡ t.levels = omega (arith, has_levels a f t pair can) in
    let only : pairs_of_levels t.levels a t.page ≡ pair ∷ [] = subst (λ k. pairs_of_levels k a t.page ≡ pair ∷ []) level done.only in
    record {
      pairs = sym (without_itself pair) ∙ ap (without_pair pair) (sym only);
      tree = tt;
      list = list;
      uses_stay = λ r. omega (arith, uses r, done.uses_stay r, ap (λ k. uses_of_levels k a t.page r) level);
      same_length = same ∙ done.same_length;
      lower = omega arith;
      more = omega (arith, done.more, count);
    }
