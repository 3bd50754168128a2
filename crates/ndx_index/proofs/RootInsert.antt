-- An insert into a tree by its top.
use Rattle.std.proofs.Common.{◌≡◌, ℕ, suc, ◌+◌, ◌-◌, ◌<◌, ◌≤◌, List, [], ◌∷◌, length, map, set, refl, ap, sym, ◌∙◌, subst, arith}
use Rattle.std.proofs.lemmas.List.{append-nil, get_or-set_same, get_or-set_other, length-set}
use Rattle.std.specs.List.{AllByRecursion}
use Rattle.ndx_index.specs.declared.pair.Pair.{Pair}
use Rattle.ndx_index.specs.declared.pages.free.FreeList.{FreeList}
use Rattle.ndx_index.specs.declared.pages.root.Root.{Root}
use Rattle.ndx_index.specs.Order.{with_pair, AreInOrder}
use Rattle.ndx_index.specs.PageStore.{Page, page_in, no_page}
use Rattle.ndx_index.specs.IndexTree.{pairs_under, joined, total, here, uses, uses_free, uses_both, IsTree, IsFreeList, Parted, pairs_of_levels, uses_of_levels, IsTreeOfLevels}
use Rattle.ndx_index.specs.TreeSteps.{Inserts, CanInsertIn, InsertsIn, CanRaise, Raises}
use Rattle.ndx_index.proofs.Order.{sorted_none}
use Rattle.ndx_index.proofs.TreeFrame.{framed, Framed}
use Rattle.ndx_index.proofs.TreeInsert.{here_other}
use Rattle.ndx_index.proofs.FreeCount.{free_few}
use Rattle.ndx_index.proofs.Keeping.{took, list_framed}
use Rattle.ndx_index.proofs.SplitChild.{Takes}

-- there are more pages than levels
pub levels_few : (a : List Page) (f : FreeList) (t : Root) (pair : Pair) → CanInsertIn a f t pair → t.levels < length a
levels_few a f t pair can = omega (arith, can.enough, free_few a f can.whole.list (λ r. omega (arith, can.whole.apart r)))

-- ---- a tree of one pair
pub planted : (a b1 b : List Page) (f g : FreeList) (t : Root) (pair : Pair) (q : ℕ) (x : Page) → t.levels ≡ 0 → CanInsertIn a f t pair → Takes a b1 f g q → b ≡ set b1 q x → x.pairs ≡ pair ∷ [] → InsertsIn a b f g t (record { page = q; levels = 1 }) pair
planted a b1 b f g t pair q x none can takes written one =
    let n1 : length b1 ≡ length a = ap length takes.1 ∙ length-set a q no_page in
    let n : length b ≡ length b1 = ap length written ∙ length-set b1 q x in
    let at : page_in b q ≡ x = rw written (get_or-set_same b1 q x no_page (omega (arith, n1, takes.0))) in
    let pairs : (page_in b q).pairs ≡ pair ∷ [] = ap (λ (h : Page). h.pairs) at ∙ one in
    let other : (r : ℕ) → here q r ≡ 0 → page_in b r ≡ page_in b1 r = λ r h. rw written (get_or-set_other b1 q r x no_page (here_other q r h)) in
    let free = list_framed b1 b g takes.2 n (λ r h. other r (omega (arith, h, takes.3 r, can.whole.apart r))) in
    record {
      pairs = pairs ∙ sym (ap (λ k. with_pair pair (pairs_of_levels k a t.page)) none);
      tree = (omega (arith, n, n1, takes.0), omega (arith, ap length pairs));
      list = free.free;
      uses_stay = λ r. omega (arith, free.uses_stay r, takes.3 r, ap (λ k. uses_of_levels k a t.page r) none);
      same_length = n ∙ n1;
      deep = omega (arith, n, n1, takes.0);
    }

-- ---- a new top with one link
record Topped (d : ℕ) (a b : List Page) (f g : FreeList) (p q : ℕ) : Type 0 where
  pairs : pairs_under (suc d) b q ≡ pairs_under d a p
  tree : IsTree (suc d) b q
  list : IsFreeList b g
  uses_stay : (r : ℕ) → uses_both (suc d) b g q r ≡ uses_both d a f p r
  same_length : length b ≡ length a
  links : (page_in b q).links ≡ p ∷ []

topped : (d : ℕ) (a b1 b : List Page) (f g : FreeList) (p q : ℕ) (x : Page) → IsTree d a p → ((r : ℕ) → uses_both d a f p r ≤ 1) → Takes a b1 f g q → b ≡ set b1 q x → x.pairs ≡ [] → x.links ≡ p ∷ [] → Topped d a b f g p q
topped d a b1 b f g p q x tree apart takes written keys links =
    let t = took d a b1 f g p q tree apart takes.0 takes.1 takes.2 takes.3 in
    let n : length b ≡ length b1 = ap length written ∙ length-set b1 q x in
    let at : page_in b q ≡ x = rw written (get_or-set_same b1 q x no_page t.there) in
    let at_keys : (page_in b q).pairs ≡ [] = ap (λ (h : Page). h.pairs) at ∙ keys in
    let at_links : (page_in b q).links ≡ p ∷ [] = ap (λ (h : Page). h.links) at ∙ links in
    let other : (r : ℕ) → here q r ≡ 0 → page_in b r ≡ page_in b1 r = λ r h. rw written (get_or-set_other b1 q r x no_page (here_other q r h)) in
    let free = list_framed b1 b g t.list n (λ r h. other r (omega (arith, h, t.apart r))) in
    let child : Framed d b1 b p = framed d b1 b p (λ r h. other r (omega (arith, h, t.apart r))) in
    let under = λ (c : ℕ). pairs_under d b c in
    let parted : Parted (map under (p ∷ [])) [] = tt in
    let below : AllByRecursion (λ c. IsTree d b c) (p ∷ []) = (child.tree (omega (arith, n)) t.tree, tt) in
    let above : (r : ℕ) → uses (suc d) b q r ≡ here q r + total (λ c. uses d b c r) (p ∷ []) = λ r. ap (λ cs. here q r + total (λ c. uses d b c r) cs) at_links in
    record {
      pairs = ap (λ cs. joined (map under cs)) at_links ∙ append-nil (pairs_under d b p) ∙ child.pairs ∙ t.pairs;
      tree = (
        omega (arith, n, t.there),
        subst (λ ks. Parted (map under (page_in b q).links) ks) (sym at_keys) (subst (λ cs. Parted (map under cs) []) (sym at_links) parted),
        subst AreInOrder (sym at_keys) sorted_none,
        subst (λ cs. AllByRecursion (λ c. IsTree d b c) cs) (sym at_links) below,
      );
      list = free.free;
      uses_stay = λ r. omega (arith, above r, child.uses_stay r, free.uses_stay r, t.uses_stay r, t.both r);
      same_length = n ∙ t.same_length;
      links = at_links;
    }

pub raised : (a b1 b : List Page) (f g : FreeList) (t : Root) (q : ℕ) (x : Page) → CanRaise a f t → Takes a b1 f g q → g.count + 1 ≡ f.count → b ≡ set b1 q x → x.pairs ≡ [] → x.links ≡ t.page ∷ [] → Raises a b f g t (record { page = q; levels = t.levels + 1 })
raised a b1 b f g t q x can takes one written keys links =
    let d = t.levels - 1 in
    let e : t.levels ≡ suc d = omega (arith, can.levels) in
    let above : suc (suc d) ≡ t.levels + 1 = omega (arith, can.levels) in
    let whole = can.whole in
    let tree = subst (λ k. IsTreeOfLevels k a t.page) e whole.tree in
    let apart = subst (λ k. (r : ℕ) → uses_of_levels k a t.page r + uses_free a f r ≤ 1) e whole.apart in
    let top = topped d a b1 b f g t.page q x tree apart takes written keys links in
    let pairs : pairs_of_levels (t.levels + 1) b q ≡ pairs_of_levels t.levels a t.page = subst (λ k. pairs_of_levels k b q ≡ pairs_under d a t.page) above top.pairs ∙ sym (ap (λ k. pairs_of_levels k a t.page) e) in
    let stay : (r : ℕ) → uses_of_levels (t.levels + 1) b q r + uses_free b g r ≡ uses_of_levels t.levels a t.page r + uses_free a f r = λ r.
    ap (λ k. uses_of_levels k b q r + uses_free b g r) (sym above) ∙ top.uses_stay r ∙ ap (λ k. uses_of_levels k a t.page r + uses_free a f r) (sym e) in
    record {
      pairs = pairs;
      levels = refl;
      whole = record {
        tree = subst (λ k. IsTreeOfLevels k b q) above top.tree;
        order = subst AreInOrder (sym pairs) whole.order;
        list = top.list;
        apart = λ r. omega (arith, stay r, whole.apart r);
      };
      uses_stay = stay;
      room = ap length top.links;
      count = one;
      same_length = top.same_length;
    }

-- ---- for the goals of the code
-- the tree's top had room
pub inserted_at_top : (a b : List Page) (f g : FreeList) (t : Root) (pair : Pair) → 0 < t.levels → t.levels ≤ length a → Inserts (t.levels - 1) a b f g t.page pair → InsertsIn a b f g t t pair
inserted_at_top a b f g t pair some deep done =
    let e : suc (t.levels - 1) ≡ t.levels = omega (arith, some) in
    record {
      pairs = subst (λ k. pairs_of_levels k b t.page ≡ with_pair pair (pairs_of_levels k a t.page)) e done.pairs;
      tree = subst (λ k. IsTreeOfLevels k b t.page) e done.keeps.tree;
      list = done.keeps.list;
      uses_stay = λ r. subst (λ k. uses_of_levels k b t.page r + uses_free b g r ≡ uses_of_levels k a t.page r + uses_free a f r) e (done.keeps.uses_stay r);
      same_length = done.keeps.same_length;
      deep = omega (arith, deep, done.keeps.same_length);
    }

-- a new top was put above it
pub inserted_below_top : (a m b : List Page) (f h g : FreeList) (t u : Root) (pair : Pair) → CanInsertIn a f t pair → Raises a m f h t u → Inserts (u.levels - 1) m b h g u.page pair → InsertsIn a b f g t u pair
inserted_below_top a m b f h g t u pair can raise done =
    let x = inserted_at_top m b h g u pair (omega (arith, raise.levels)) (omega (arith, raise.levels, raise.same_length, levels_few a f t pair can)) done in
    record {
      pairs = x.pairs ∙ ap (with_pair pair) raise.pairs;
      tree = x.tree;
      list = x.list;
      uses_stay = λ r. x.uses_stay r ∙ raise.uses_stay r;
      same_length = x.same_length ∙ raise.same_length;
      deep = x.deep;
    }
