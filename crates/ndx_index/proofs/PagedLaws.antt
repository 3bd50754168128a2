-- What the steps of a tree make of an index.
use Rattle.std.proofs.Common.{◌≡◌, ℕ, zero, suc, ◌<◌, ◌≤◌, true, false, not, cond, List, [], ◌∷◌, length, get_or, find, Contains, Option, Some, None, refl, ap, sym, ◌∙◌, subst, inl, inr, lit<, arith}
use Rattle.std.specs.List.Sorted.{IsStrictlySortedBy}
use Rattle.std.specs.List.{AllByRecursion}
use Rattle.std.proofs.lemmas.Bool.{cases_eq, cases_lt, false≢true}
use Rattle.std.proofs.lemmas.List.Kept.{IsStrictlySortedBy-filter}
use Rattle.ndx_index.specs.declared.pair.Pair.{Pair}
use Rattle.ndx_index.specs.declared.pages.free.FreeList.{FreeList}
use Rattle.ndx_index.specs.declared.pages.root.Root.{Root}
use Rattle.ndx_index.specs.Index.{HaveLength}
use Rattle.ndx_index.specs.IndexTree.{pairs_of_levels, uses_of_levels, IsTreeOfLevels, pairs_in, uses_in}
use Rattle.ndx_index.specs.Order.{pair_cmp, before, same, AreInOrder}
use Rattle.ndx_index.specs.PageStore.{Page, page_in}
use Rattle.ndx_index.specs.PagedIndex.{HoldsIndex}
use Rattle.ndx_index.specs.TreeSteps.{MakesFree, InsertsIn, RemovesIn}
use Rattle.ndx_index.specs.Laws.Comparing.{irreflexive, before_is, same_itself}
use Rattle.ndx_index.specs.Laws.Sorting.{all-with_pair}
use Rattle.ndx_index.proofs.Order.{all-filter, sorted_none, sorted_with_pair}
use Rattle.ndx_index.proofs.TreeFrame.{framed}
use Rattle.ndx_index.proofs.FreeFrame.{uses_there}

-- ---- a tree by its top, where none of its pages is changed

pub record FramedOf (n : ℕ) (a b : List Page) (p : ℕ) : Type 0 where
  pub pairs : pairs_of_levels n b p ≡ pairs_of_levels n a p
  pub uses_stay : (r : ℕ) → uses_of_levels n b p r ≡ uses_of_levels n a p r
  pub tree : IsTreeOfLevels n b p

pub framed_of : (n : ℕ) (a b : List Page) (p : ℕ) → IsTreeOfLevels n a p → length a ≤ length b → ((r : ℕ) → 0 < uses_of_levels n a p r → page_in b r ≡ page_in a r) → FramedOf n a b p
framed_of zero a b p t le same = record { pairs = refl; uses_stay = λ r. refl; tree = tt }
framed_of (suc d) a b p t le same =
    let stays = framed d a b p same in
    record { pairs = stays.pairs; uses_stay = stays.uses_stay; tree = stays.tree le t }

pub there_of : (n : ℕ) (a : List Page) (p r : ℕ) → IsTreeOfLevels n a p → 0 < uses_of_levels n a p r → r < length a
there_of zero a p r t h = absurd (omega (arith, h))
there_of (suc d) a p r t h = uses_there d a p r t h

none_past : (n : ℕ) (a : List Page) (p r : ℕ) → IsTreeOfLevels n a p → length a ≤ r → uses_of_levels n a p r ≡ 0
none_past n a p r t le = elim (cases_eq (uses_of_levels n a p r) 0) [
  | inl e ↦ e
  | inr ne ↦ absurd (omega (arith, there_of n a p r t (omega (arith, ne))))
]

-- ---- the index after a step

pub holds_nothing : (k : ℕ) → HoldsIndex k [] (record { head = 0; count = 0 }) (record { page = 0; levels = 0 })
holds_nothing k = record { tree = tt; order = sorted_none; keys = tt; list = tt; apart = λ r. omega arith; once = λ r lt. absurd (omega (arith, lt)); deep = omega arith; count_bounded = lit< tt }

pub record HoldsMore (k : ℕ) (a b : List Page) (f g : FreeList) (t : Root) : Type 0 where
  pub holds : HoldsIndex k b g t
  pub pairs : pairs_in b t ≡ pairs_in a t

pub holds_more : (k : ℕ) (a b : List Page) (f g : FreeList) (t : Root) → HoldsIndex k a f t → MakesFree a b f g → HoldsMore k a b f g t
holds_more k a b f g t h m =
    let stays = framed_of t.levels a b t.page h.tree m.longer (λ r u. m.frame r (there_of t.levels a t.page r h.tree u) (omega (arith, u, h.apart r))) in
    record {
      holds = record {
        tree = stays.tree;
        order = subst AreInOrder (sym stays.pairs) h.order;
        keys = subst (HaveLength k) (sym stays.pairs) h.keys;
        list = m.list;
        apart = λ r. elim (cases_eq (uses_in a t r) 0) [
          | inl e ↦ omega (arith, e, stays.uses_stay r, m.apart r)
          | inr ne ↦ omega (arith, stays.uses_stay r, h.apart r, m.same r (there_of t.levels a t.page r h.tree (omega (arith, ne))))
        ];
        once = λ r lt. elim (cases_lt r (length a)) [
          | inl old ↦ omega (arith, stays.uses_stay r, h.once r old, m.same r old)
          | inr new ↦ omega (arith, stays.uses_stay r, none_past t.levels a t.page r h.tree new, m.new_free r new lt)
        ];
        deep = omega (arith, h.deep, m.longer);
        count_bounded = m.count_bounded h.count_bounded;
      };
      pairs = stays.pairs;
    }

pub holds_inserted : (k : ℕ) (a b : List Page) (f g : FreeList) (t u : Root) (pair : Pair) → HoldsIndex k a f t → length pair.key ≡ k → (Contains (pairs_in a t) pair → ⊥) → InsertsIn a b f g t u pair → HoldsIndex k b g u
holds_inserted k a b f g t u pair h key absent i = record {
  tree = i.tree;
  order = subst AreInOrder (sym i.pairs) (sorted_with_pair pair (pairs_in a t) h.order absent);
  keys = subst (HaveLength k) (sym i.pairs) (all-with_pair (λ p. length p.key ≡ k) pair (pairs_in a t) key h.keys);
  list = i.list;
  apart = λ r. omega (arith, i.uses_stay r, h.apart r);
  once = λ r lt. i.uses_stay r ∙ h.once r (omega (arith, lt, i.same_length));
  deep = i.deep;
  count_bounded = omega (arith, i.same_length, h.count_bounded);
}

pub holds_removed : (k : ℕ) (a b : List Page) (f g : FreeList) (t u : Root) (pair : Pair) → HoldsIndex k a f t → RemovesIn a b f g t u pair → HoldsIndex k b g u
holds_removed k a b f g t u pair h i =
    let others = λ (q : Pair). not (same pair q) in
    record {
      tree = i.tree;
      order = subst AreInOrder (sym i.pairs) (IsStrictlySortedBy-filter pair_cmp others (pairs_in a t) h.order);
      keys = subst (HaveLength k) (sym i.pairs) (all-filter _ others (pairs_in a t) h.keys);
      list = i.list;
      apart = λ r. omega (arith, i.uses_stay r, h.apart r);
      once = λ r lt. i.uses_stay r ∙ h.once r (omega (arith, lt, i.same_length));
      deep = omega (arith, i.lower, i.same_length, h.deep);
      count_bounded = omega (arith, i.same_length, h.count_bounded);
    }

-- ---- whether a pair is there

-- the least pair that isn't below p is p itself
pub held_found : (p : Pair) (ps : List Pair) → find (λ q. not (before q p)) ps ≡ Some p → Contains ps p
held_found p [] h = absurd (cc h)
held_found p (q ∷ qs) h = elim (before q p) as (λ b. cond (not b) (Some q) (find (λ x. not (before x p)) qs) ≡ Some p → Contains (q ∷ qs) p) [
  | true ↦ λ e. let there = held_found p qs e in (suc there.0, omega (arith, there.1), there.2)
  | false ↦ λ e. (zero, omega arith, cc e)
] h

all_after : (q p : Pair) (ps : List Pair) (i : ℕ) → AllByRecursion (λ r. pair_cmp q r ≡ Rattle.std.specs.declared.cmp.Ordering.TheVariants.Less) ps → i < length ps → get_or ps i p ≡ p → before q p ≡ true
all_after q p [] i all lt is = absurd (omega (arith, lt))
all_after q p (r ∷ rs) zero all lt is = ap Rattle.std.specs.Ordering.is_lt (subst (λ x. pair_cmp q x ≡ Rattle.std.specs.declared.cmp.Ordering.TheVariants.Less) is all.0)
all_after q p (r ∷ rs) (suc i) all lt is = all_after q p rs i all.1 (omega (arith, lt)) is

pub found_held : (p : Pair) (ps : List Pair) → AreInOrder ps → Contains ps p → find (λ q. not (before q p)) ps ≡ Some p
unfolding IsStrictlySortedBy
found_held p [] order h = absurd (omega (arith, h.1))
found_held p (q ∷ qs) order (zero, lt, is) = rw (itself q is) (ap Some is)
  where
    itself : (x : Pair) → x ≡ p → before x p ≡ false
    itself x e = elim (before x p) as (λ b. before x p ≡ b → b ≡ false) [
      | true ↦ λ t. absurd (irreflexive p (subst (λ y. pair_cmp y p ≡ Rattle.std.specs.declared.cmp.Ordering.TheVariants.Less) e (before_is x p t)))
      | false ↦ λ t. refl
    ] refl
found_held p (q ∷ qs) order (suc i, lt, is) = rw (all_after q p qs i order.0 (omega (arith, lt)) is) (found_held p qs order.1 (i, omega (arith, lt), is))

pub absent_unless : (p : Pair) (ps : List Pair) (r : Option Pair) → AreInOrder ps → r ≡ find (λ q. not (before q p)) ps → (r ≡ Some p → ⊥) → Contains ps p → ⊥
absent_unless p ps r order e ne held = ne (e ∙ found_held p ps order held)

-- a pair that differs from p
pub differs : (p q : Pair) → not (same q p) ≡ true → Some q ≡ Some p → ⊥
differs p q h e = let is : q ≡ p = cc e in false≢true (sym (ap not (ap (λ x. same x p) is ∙ same_itself p)) ∙ h)

pub none_differs : (p : Pair) (r : Option Pair) → r ≡ None → r ≡ Some p → ⊥
none_differs p r none some = cc (sym none ∙ some)
