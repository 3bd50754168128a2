-- Leaves come under a tree, one after another.
use Rattle.std.proofs.Common.{◌≡◌, ℕ, ◌+◌, ◌<◌, ◌≤◌, ◌^◌, List, [], ◌∷◌, ◌++◌, map, take, drop, length, append_assoc, refl, ap, sym, ◌∙◌, subst, inl, inr, lit<, arith}
use Rattle.std.proofs.lemmas.Bool.{cases_eq, cases_lt}
use Rattle.std.proofs.lemmas.List.{append-nil, map-append, take_more, take_all, take-append-drop, nil_from_length}
use Rattle.std.proofs.lemmas.List.Elements.{All-from_recursion}
use Rattle.ndx_index.specs.declared.pair.Pair.{Pair}
use Rattle.ndx_index.specs.declared.pages.root.Root.{Root}
use Rattle.ndx_index.specs.Order.{AreInOrder}
use Rattle.ndx_index.specs.PageStore.{Page, page_in, no_page}
use Rattle.ndx_index.specs.IndexTree.{pairs_in, pairs_of_pages, joined, uses_in, IsTreeIn, IsPlain, HavePairs}
use Rattle.ndx_index.specs.TreeSteps.{CanAppendIn, AppendsIn}
use Rattle.ndx_index.proofs.Appending.{here_at}
use Rattle.ndx_index.proofs.FreeFrame.{here_zero, here_few}
use Rattle.ndx_index.proofs.TreeLists.{front_order}

joined-append : (xs ys : List (List Pair)) → joined (xs ++ ys) ≡ joined xs ++ joined ys
joined-append [] ys = refl
joined-append (x ∷ xs) ys = ap (λ zs. x ++ zs) (joined-append xs ys) ∙ sym (append_assoc x (joined xs) (joined ys))

pub pages-append : (a b : List Page) → pairs_of_pages (a ++ b) ≡ pairs_of_pages a ++ pairs_of_pages b
pages-append a b = ap joined (map-append (λ (g : Page). g.pairs) a b) ∙ joined-append (map (λ (g : Page). g.pairs) a) (map (λ (g : Page). g.pairs) b)

-- the pairs of one page more
pub pages_more : (a : List Page) (k : ℕ) → k < length a → pairs_of_pages (take (k + 1) a) ≡ pairs_of_pages (take k a) ++ (page_in a k).pairs
pages_more a k lt =
    ap pairs_of_pages (take_more a k no_page lt) ∙ pages-append (take k a) (page_in a k ∷ [])
    ∙ ap (λ (qs : List Pair). pairs_of_pages (take k a) ++ qs) (append-nil (page_in a k).pairs)

-- the tree has the first k of the leaves a, and all pages that came after these
pub record HasLeaves (a b : List Page) (t : Root) (k : ℕ) : Type 0 where
  pub tree : IsTreeIn b t
  pub levels : 0 < t.levels
  pub pairs : pairs_in b t ≡ pairs_of_pages (take k a)
  pub apart : (r : ℕ) → uses_in b t r ≤ 1
  pub longer : length a ≤ length b
  pub count_bounded : length b < 2 ^ 32
  pub first : (r : ℕ) → r < k → uses_in b t r ≡ 1
  pub rest : (r : ℕ) → k ≤ r → r < length a → uses_in b t r ≡ 0
  pub new : (r : ℕ) → length a ≤ r → r < length b → uses_in b t r ≡ 1
  pub same : (r : ℕ) → k ≤ r → r < length a → page_in b r ≡ page_in a r
  pub deep : t.levels ≤ length b

leaf_there : (a : List Page) (k : ℕ) → HavePairs a → k < length a → 0 < length (page_in a k).pairs
leaf_there a k leaves lt = All-from_recursion (λ (g : Page). 0 < length g.pairs) a leaves k no_page lt

pub one_leaf : (a : List Page) (t : Root) → HavePairs a → 0 < length a → length a < 2 ^ 32 → t ≡ record { page = 0; levels = 1 } → HasLeaves a a t 1
one_leaf [] t leaves some count_bounded e = absurd (omega (arith, some))
one_leaf (g ∷ gs) t leaves some count_bounded e = subst (λ (x : Root). HasLeaves (g ∷ gs) (g ∷ gs) x 1) (sym e) (record {
  tree = (some, leaves.0);
  levels = omega arith;
  pairs = sym (append-nil g.pairs);
  apart = λ r. here_few 0 r;
  longer = omega arith;
  count_bounded = count_bounded;
  first = λ r lt. here_at 0 r (omega (arith, lt));
  rest = λ r past lt. here_zero 0 r (λ i. omega (arith, i, past));
  new = λ r past lt. absurd (omega (arith, past, lt));
  same = λ r past lt. refl;
  deep = omega (arith, some);
})

pub can_append_leaf : (a b : List Page) (t : Root) (k : ℕ) → HavePairs a → AreInOrder (pairs_of_pages a) → HasLeaves a b t k → k < length a → CanAppendIn b t k
can_append_leaf a b t k leaves order has lt =
    let here_same = has.same k (omega arith) lt in
    let pairs : pairs_in b t ++ (page_in b k).pairs ≡ pairs_of_pages (take (k + 1) a) =
    (λ i. has.pairs i ++ (here_same i).pairs) ∙ sym (pages_more a k lt) in
    let all : pairs_of_pages a ≡ pairs_of_pages (take (k + 1) a) ++ pairs_of_pages (drop (k + 1) a) =
    ap pairs_of_pages (sym (take-append-drop (k + 1) a)) ∙ pages-append (take (k + 1) a) (drop (k + 1) a) in
    record {
      tree = has.tree;
      levels = has.levels;
      apart = has.apart;
      leaf = (omega (arith, lt, has.longer), subst (λ (g : Page). 0 < length g.pairs) (sym here_same) (leaf_there a k leaves lt));
      outside = has.rest k (omega arith) lt;
      order = subst AreInOrder (sym pairs) (front_order (pairs_of_pages (take (k + 1) a)) (pairs_of_pages (drop (k + 1) a)) (subst AreInOrder all order));
      deep = has.deep;
      count_bounded = has.count_bounded;
    }

pub leaf_more : (a b c : List Page) (t u : Root) (k : ℕ) → HasLeaves a b t k → k < length a → AppendsIn b c t u k → HasLeaves a c u (k + 1)
leaf_more a b c t u k has lt done =
    let other : (r : ℕ) → r < length b → (r ≡ k → ⊥) → uses_in c u r ≡ uses_in b t r = λ r there ne. omega (arith, done.uses_stay r there, here_zero k r ne) in
    record {
      tree = done.tree;
      levels = done.levels;
      pairs = done.pairs ∙ (λ i. has.pairs i ++ (has.same k (omega arith) lt i).pairs) ∙ sym (pages_more a k lt);
      apart = done.apart;
      longer = omega (arith, has.longer, done.longer);
      count_bounded = done.count_bounded;
      first = λ r below. elim (cases_eq r k) [
        | inl e ↦ omega (arith, done.uses_stay r (omega (arith, e, lt, has.longer)), has.rest r (omega (arith, e)) (omega (arith, e, lt)), here_at k r e)
        | inr ne ↦ other r (omega (arith, below, lt, has.longer)) ne ∙ has.first r (omega (arith, below, ne))
      ];
      rest = λ r past inside. other r (omega (arith, inside, has.longer)) (λ e. omega (arith, e, past)) ∙ has.rest r (omega (arith, past)) inside;
      new = λ r past there. elim (cases_lt r (length b)) [
        | inl old ↦ other r old (λ e. omega (arith, e, past, lt)) ∙ has.new r past old
        | inr added ↦ done.new_used r added there
      ];
      same = λ r past inside. done.frame r (omega (arith, inside, has.longer)) (has.rest r (omega (arith, past)) inside) ∙ has.same r (omega (arith, past)) inside;
      deep = done.deep;
    }

-- all leaves are in the tree
pub all_leaves : (a b : List Page) (t : Root) (k : ℕ) → length a ≤ k → HasLeaves a b t k → IsPlain b t
all_leaves a b t k le has = record {
  tree = has.tree;
  apart = has.apart;
  once = λ r lt. elim (cases_lt r (length a)) [
    | inl old ↦ has.first r (omega (arith, old, le))
    | inr new ↦ has.new r new lt
  ];
  deep = has.deep;
  count_bounded = has.count_bounded;
}

pub all_pairs : (a b : List Page) (t : Root) (k : ℕ) → length a ≤ k → HasLeaves a b t k → pairs_in b t ≡ pairs_of_pages a
all_pairs a b t k le has = has.pairs ∙ ap pairs_of_pages (take_all k a le)

-- no leaves make no tree
pub no_leaves : (a : List Page) (t : Root) → length a ≡ 0 → t ≡ record { page = 0; levels = 0 } → IsPlain a t × (pairs_in a t ≡ pairs_of_pages a)
no_leaves a t none e = subst (λ (x : List Page). IsPlain x t × (pairs_in x t ≡ pairs_of_pages x)) (sym (nil_from_length a none))
    (subst (λ (x : Root). IsPlain [] x × (pairs_in [] x ≡ [])) (sym e)
    (record { tree = tt; apart = λ r. omega arith; once = λ r lt. absurd (omega (arith, lt)); deep = omega arith; count_bounded = lit< tt }, refl))
