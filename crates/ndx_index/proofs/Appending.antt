-- A leaf comes after all others of a tree.
use Rattle.std.proofs.Common.{Option, None, Some, Result, Ok, Err, IfOk, ◌≡◌, ℕ, suc, ◌+◌, ◌<◌, ◌≤◌, ◌^◌, List, [], ◌∷◌, ◌++◌, map, length, length-append, get_or, set, refl, ap, sym, ◌∙◌, subst, inl, inr, arith}
use Rattle.std.specs.List.{AllByRecursion, insert}
use Rattle.std.proofs.lemmas.Bool.{cases_eq, cases_lt}
use Rattle.std.proofs.lemmas.List.{append-nil, map-append, length-map, length-set, set-set, set_at, get_or_at, get_or-set_same, get_or-set_other, get_or_append_left, get_or_default}
use Rattle.ndx_index.specs.declared.pair.Pair.{Pair}
use Rattle.ndx_index.specs.Order.{AreInOrder}
use Rattle.ndx_index.specs.Slots.{no_pair, slot_at}
use Rattle.ndx_index.specs.PageStore.{Page, page_in, no_page, with_pairs, with_links}
use Rattle.ndx_index.specs.declared.pages.root.Root.{Root}
use Rattle.ndx_index.specs.IndexTree.{pairs_under, pairs_of_levels, joined, total, here, uses, uses_of_levels, IsTree, IsTreeOfLevels, AllBefore, AllFrom, Parted}
use Rattle.ndx_index.specs.TreeSteps.{CanAppend, Appends, AppendsUnder, AppendsBeside, CanAppendIn, AppendsIn, AddsLink, IsOver}
use Rattle.ndx_index.proofs.Order.{sorted_none}
use Rattle.ndx_index.proofs.TreeFrame.{Framed, framed, here_itself, agrees_itself}
use Rattle.ndx_index.proofs.FreeFrame.{uses_there, here_zero, here_few}
use Rattle.ndx_index.proofs.TreeInsert.{total_one}
use Rattle.ndx_index.proofs.TreeLists.{all_at, all_from, all_end, total_at, total_two, total_same, total-end, total_last, map_same, back_order, last_order, none_empty, order_end, insert_end, joined-end, grown, joined-grown, map_grown, keys_below, parted-grown, parted-end, first_after, none_before_first}

-- ---- pages
pub here_at : (p r : ℕ) → r ≡ p → here p r ≡ 1
here_at p r e = subst (λ x. here p x ≡ 1) (sym e) (here_itself p)

-- no tree has a page that isn't there
pub uses_past : (d : ℕ) (a : List Page) (p r : ℕ) → IsTree d a p → length a ≤ r → uses d a p r ≡ 0
uses_past d a p r t le = elim (cases_eq (uses d a p r) 0) [
  | inl e ↦ e
  | inr ne ↦ absurd (omega (arith, uses_there d a p r t (omega arith)))
]

-- a link and a key are put at the end of a page
pub adds_link : (a a1 b : List Page) (p n k : ℕ) (pair : Pair) (c : ℕ) → p < length a → n ≡ length (page_in a p).links → k ≡ length (page_in a p).pairs
    → a1 ≡ set a p (with_pairs (insert (page_in a p).pairs k pair) (page_in a p))
    → b ≡ set a1 p (with_links (insert (page_in a1 p).links n c) (page_in a1 p))
    → b ≡ set a p (record { pairs = (page_in a p).pairs ++ pair ∷ []; links = (page_in a p).links ++ c ∷ [] })
adds_link a a1 b p n k pair c lt links pairs e f =
    let g = page_in a p in
    let h = with_pairs (insert g.pairs k pair) g in
    let at : page_in a1 p ≡ h = ap (λ (xs : List Page). page_in xs p) e ∙ get_or-set_same a p h no_page lt in
    let new : with_links (insert (page_in a1 p).links n c) (page_in a1 p) ≡ with_links (insert g.links n c) h = ap (λ (x : Page). with_links (insert x.links n c) x) at in
    let more_pairs : insert g.pairs k pair ≡ g.pairs ++ pair ∷ [] = ap (λ i. insert g.pairs i pair) pairs ∙ insert_end g.pairs pair in
    let more_links : insert g.links n c ≡ g.links ++ c ∷ [] = ap (λ i. insert g.links i c) links ∙ insert_end g.links c in
    let both : with_links (insert g.links n c) h ≡ record { pairs = g.pairs ++ pair ∷ []; links = g.links ++ c ∷ [] } = λ i. record { pairs = more_pairs i; links = more_links i } in
    f ∙ ap (λ (xs : List Page). set xs p (with_links (insert (page_in a1 p).links n c) (page_in a1 p))) e
    ∙ set-set a p h (with_links (insert (page_in a1 p).links n c) (page_in a1 p))
    ∙ ap (λ (x : Page). set a p x) (new ∙ both)

-- a new page
pub new_page : (a a1 : List Page) (g : Page) (q : ℕ) → a1 ≡ a ++ g ∷ [] → q ≡ length a → page_in a1 q ≡ g
new_page a a1 g q e n = ap (λ (xs : List Page). page_in xs q) e ∙ get_or_at a g [] no_page q (sym n)

-- a new page is changed
pub new_page_set : (a a1 b : List Page) (g : Page) (q : ℕ) (f : Page → Page) → a1 ≡ a ++ g ∷ [] → q ≡ length a → b ≡ set a1 q (f (page_in a1 q)) → b ≡ a ++ f g ∷ []
new_page_set a a1 b g q f e n done = done ∙ ap (λ (x : Page). set a1 q (f x)) (new_page a a1 g q e n) ∙ ap (λ (xs : List Page). set xs q (f g)) e ∙ set_at a g [] (f g) q (sym n)

-- ---- what parts the pairs from those under a page
record PartsNew (d : ℕ) (a : List Page) (p : ℕ) (ps : List Pair) (k : Pair) : Type 0 where
  above : AllBefore k (pairs_under d a p)
  from : AllFrom k ps

abbrev pub IsFirst : List Pair → Pair → Type 0
IsFirst ps first = first ≡ get_or ps 0 first

first_is : (ps : List Pair) → 0 < length ps → IsFirst ps (get_or ps 0 no_pair)
first_is [] some = absurd (omega arith)
first_is (p ∷ ps) some = refl

pub is_first : (ps : List Pair) (first : Pair) → 0 < length ps → first ≡ slot_at ps 0 → IsFirst ps first
is_first ps first some is = is ∙ get_or_default ps 0 no_pair first some

-- the first of them does
parts_new : (d : ℕ) (a : List Page) (p q : ℕ) (first : Pair) → IsFirst (page_in a q).pairs first → CanAppend d a p q → PartsNew d a p (page_in a q).pairs first
parts_new d a p q first is can =
    let ps = (page_in a q).pairs in
    record {
      above = subst (λ k. AllBefore k (pairs_under d a p)) (sym is) (first_after (pairs_under d a p) ps first can.order can.leaf.1);
      from = subst (λ k. AllFrom k ps) (sym is) (none_before_first ps first (back_order (pairs_under d a p) ps can.order) can.leaf.1);
    }

-- the leaf is not in the tree
one_more : (d : ℕ) (a : List Page) (p q r : ℕ) → CanAppend d a p q → uses d a p r + here q r ≤ 1
one_more d a p q r can = elim (cases_eq r q) [
  | inl e ↦ omega (arith, subst (λ x. uses d a p x ≡ 0) (sym e) can.outside, here_few q r)
  | inr ne ↦ omega (arith, can.apart r, here_zero q r ne)
]

not_leaf : (d : ℕ) (a : List Page) (p q : ℕ) → CanAppend d a p q → p ≡ q → ⊥
not_leaf d a p q can e = omega (arith, agrees_itself d a p, subst (λ x. uses d a p x ≡ 0) (sym e) can.outside)

-- ---- the last child
pub can_append_below : (d : ℕ) (a : List Page) (p q m : ℕ) → CanAppend (suc d) a p q → suc m ≡ length (page_in a p).links → CanAppend d a (get_or (page_in a p).links m 0) q
can_append_below d a p q m can n =
    let links = (page_in a p).links in
    let lt : m < length links = omega arith in
    record {
      tree = all_at (λ x. IsTree d a x) links m lt can.tree.3;
      apart = λ r. omega (arith, can.apart r, total_at (λ x. uses d a x r) links m lt);
      leaf = can.leaf;
      outside = omega (arith, can.outside, total_at (λ x. uses d a x q) links m lt);
      order = last_order (λ (x : ℕ). pairs_under d a x) links m (page_in a q).pairs n can.order;
    }

-- the leaf went under the last child
pub under_last : (d : ℕ) (a b : List Page) (p q m : ℕ) → CanAppend (suc d) a p q → suc m ≡ length (page_in a p).links → AppendsUnder d a b (get_or (page_in a p).links m 0) q → AppendsUnder (suc d) a b p q
under_last d a b p q m can n done =
    let ps = (page_in a q).pairs in
    let first = get_or ps 0 no_pair in
    let parts = parts_new (suc d) a p q first (first_is ps can.leaf.1) can in
    let links = (page_in a p).links in
    let keys = (page_in a p).pairs in
    let last = get_or links m 0 in
    let lm : m < length links = omega arith in
    let le : length a ≤ length b = done.extends.longer in
    let here_same : page_in b p ≡ page_in a p = done.extends.frame p can.tree.0 (omega (arith, can.apart p, here_itself p, total_at (λ x. uses d a x p) links m lm)) in
    let tree : (j : ℕ) → j < length links → IsTree d a (get_or links j 0) = λ j lt. all_at (λ x. IsTree d a x) links j lt can.tree.3 in
    let other : (j : ℕ) → j < m → Framed d a b (get_or links j 0) = λ j lt. framed d a b (get_or links j 0)
    (λ r h. done.extends.frame r (uses_there d a (get_or links j 0) r (tree j (omega arith)) h)
    (omega (arith, h, can.apart r, total_two (λ x. uses d a x r) links j m (omega arith) lm (λ e. omega (arith, e, lt))))) in
    let maps : map (λ x. pairs_under d b x) links ≡ grown ps (map (λ x. pairs_under d a x) links) =
    map_grown (λ x. pairs_under d a x) (λ x. pairs_under d b x) ps links m n (λ j lt. (other j lt).pairs) done.pairs in
    let parted : Parted (grown ps (map (λ x. pairs_under d a x) links)) keys =
    parted-grown first ps (map (λ x. pairs_under d a x) links) keys can.tree.1 (none_empty d a links can.tree.3) parts.above parts.from in
    let tree_each : (j : ℕ) → j < length links → IsTree d b (get_or links j 0) = λ j lt. elim (cases_eq j m) [
      | inl e ↦ subst (λ k. IsTree d b (get_or links k 0)) (sym e) done.tree
      | inr ne ↦ (other j (omega arith)).tree le (tree j lt)
    ] in
    let at_links : (r : ℕ) → uses (suc d) b p r ≡ here p r + total (λ x. uses d b x r) links = λ r. ap (λ (g : Page). here p r + total (λ x. uses d b x r) g.links) here_same in
    let stays : (r : ℕ) → r < length a → uses (suc d) b p r ≡ uses (suc d) a p r + here q r = λ r old.
    omega (arith, at_links r, done.uses_stay r old, total_one (λ x. uses d a x r) (λ x. uses d b x r) links m lm (λ j lt ne. (other j (omega (arith, lt, ne, n))).uses_stay r)) in
    record {
      extends = record {
        longer = le;
        count_bounded = done.extends.count_bounded;
        frame = λ r old h. done.extends.frame r old (omega (arith, h, total_at (λ x. uses d a x r) links m lm));
      };
      pairs = ap (λ (g : Page). joined (map (λ x. pairs_under d b x) g.links)) here_same ∙ ap joined maps
          ∙ joined-grown ps (map (λ x. pairs_under d a x) links) (omega (arith, length-map links (λ x. pairs_under d a x)));
      tree = (
        omega (arith, can.tree.0, le),
        subst (λ (g : Page). Parted (map (λ x. pairs_under d b x) g.links) g.pairs) (sym here_same) (subst (λ pss. Parted pss keys) (sym maps) parted),
        subst (λ (g : Page). AreInOrder g.pairs) (sym here_same) can.tree.2,
        subst (λ (g : Page). AllByRecursion (λ x. IsTree d b x) g.links) (sym here_same) (all_from (λ x. IsTree d b x) links tree_each),
      );
      uses_stay = stays;
      apart = λ r. elim (cases_lt r (length a)) [
        | inl old ↦ omega (arith, stays r old, one_more (suc d) a p q r can)
        | inr new ↦
            let others : (j : ℕ) → j < m → uses d b (get_or links j 0) r ≡ 0 = λ j lt. (other j lt).uses_stay r ∙ uses_past d a (get_or links j 0) r (tree j (omega arith)) new in
            omega (arith, at_links r, here_zero p r (λ e. omega (arith, e, new, can.tree.0)), total_last (λ x. uses d b x r) links m n others, done.apart r)
      ];
      new_used = λ r new lt.
          let others : (j : ℕ) → j < m → uses d b (get_or links j 0) r ≡ 0 = λ j l. (other j l).uses_stay r ∙ uses_past d a (get_or links j 0) r (tree j (omega arith)) new in
          omega (arith, at_links r, here_zero p r (λ e. omega (arith, e, new, can.tree.0)), total_last (λ x. uses d b x r) links m n others, done.new_used r new lt);
    }

-- the leaf is under a page s, which became p's last child
under_more : (d : ℕ) (a b b1 : List Page) (p q : ℕ) (pair : Pair) (s : ℕ) → IsFirst (page_in a q).pairs pair → CanAppend (suc d) a p q → AppendsBeside d a b q s
    → b1 ≡ set b p (record { pairs = (page_in b p).pairs ++ pair ∷ []; links = (page_in b p).links ++ s ∷ [] }) → AppendsUnder (suc d) a b1 p q
under_more d a b b1 p q pair s is can done e =
    let ps = (page_in a q).pairs in
    let parts = parts_new (suc d) a p q pair is can in
    let links = (page_in a p).links in
    let keys = (page_in a p).pairs in
    let le : length a ≤ length b = done.longer in
    let was : page_in b p ≡ page_in a p = done.frame p can.tree.0 in
    let n : length b1 ≡ length b = ap length e ∙ length-set b p _ in
    let more : Page = record { pairs = keys ++ pair ∷ []; links = links ++ s ∷ [] } in
    let e1 : b1 ≡ set b p more = e ∙ ap (λ (g : Page). set b p (record { pairs = g.pairs ++ pair ∷ []; links = g.links ++ s ∷ [] })) was in
    let at : page_in b1 p ≡ more = ap (λ (xs : List Page). page_in xs p) e1 ∙ get_or-set_same b p more no_page (omega (arith, can.tree.0, le)) in
    let aside : (r : ℕ) → (r ≡ p → ⊥) → page_in b1 r ≡ page_in b r = λ r ne. ap (λ (xs : List Page). page_in xs r) e1 ∙ get_or-set_other b p r more no_page ne in
    let tree : (j : ℕ) → j < length links → IsTree d a (get_or links j 0) = λ j lt. all_at (λ x. IsTree d a x) links j lt can.tree.3 in
    let below : (r j : ℕ) → j < length links → 0 < uses d a (get_or links j 0) r → r ≡ p → ⊥ = λ r j lt h i.
    omega (arith, subst (λ x. 0 < uses d a (get_or links j 0) x) i h, can.apart p, here_itself p, total_at (λ x. uses d a x p) links j lt) in
    let other : (j : ℕ) → j < length links → Framed d a b1 (get_or links j 0) = λ j lt. framed d a b1 (get_or links j 0)
    (λ r h. aside r (below r j lt h) ∙ done.frame r (uses_there d a (get_or links j 0) r (tree j lt) h)) in
    let outside : here q p ≡ 0 = here_zero q p (not_leaf (suc d) a p q can) in
    let new : Framed d b b1 s = framed d b b1 s (λ r h. aside r (λ i. omega (arith, subst (λ x. 0 < uses d b s x) i h, done.old_used p can.tree.0, outside))) in
    let maps : map (λ x. pairs_under d b1 x) (links ++ s ∷ []) ≡ map (λ x. pairs_under d a x) links ++ ps ∷ [] =
    map-append (λ x. pairs_under d b1 x) links (s ∷ [])
    ∙ (λ i. map_same (λ x. pairs_under d a x) (λ x. pairs_under d b1 x) links (λ j lt. (other j lt).pairs) i ++ (new.pairs ∙ done.pairs) i ∷ []) in
    let sums : (r : ℕ) → uses (suc d) b1 p r ≡ uses (suc d) a p r + uses d b s r = λ r.
    ap (λ (g : Page). here p r + total (λ x. uses d b1 x r) g.links) at
    ∙ omega (arith, total-end (λ x. uses d b1 x r) links s, total_same (λ x. uses d a x r) (λ x. uses d b1 x r) links (λ j lt. (other j lt).uses_stay r), new.uses_stay r) in
    record {
      extends = record {
        longer = omega (arith, le, n);
        count_bounded = λ h. omega (arith, done.count_bounded h, n);
        frame = λ r old h. aside r (λ i. omega (arith, here_itself p, subst (λ x. uses (suc d) a p x ≡ 0) i h)) ∙ done.frame r old;
      };
      pairs = ap (λ (g : Page). joined (map (λ x. pairs_under d b1 x) g.links)) at ∙ ap joined maps ∙ joined-end (map (λ x. pairs_under d a x) links) ps;
      tree = (
        omega (arith, can.tree.0, le, n),
        subst (λ (g : Page). Parted (map (λ x. pairs_under d b1 x) g.links) g.pairs) (sym at)
            (subst (λ pss. Parted pss (keys ++ pair ∷ [])) (sym maps) (parted-end pair ps (map (λ x. pairs_under d a x) links) keys can.tree.1 parts.above parts.from)),
        subst (λ (g : Page). AreInOrder g.pairs) (sym at)
            (order_end keys pair can.tree.2 (keys_below pair (map (λ x. pairs_under d a x) links) keys can.tree.1 (none_empty d a links can.tree.3) parts.above)),
        subst (λ (g : Page). AllByRecursion (λ x. IsTree d b1 x) g.links) (sym at)
            (all_end (λ x. IsTree d b1 x) links s (all_from (λ x. IsTree d b1 x) links (λ j lt. (other j lt).tree (omega (arith, le, n)) (tree j lt))) (new.tree (omega (arith, n)) done.tree)),
      );
      uses_stay = λ r old. omega (arith, sums r, done.old_used r old);
      apart = λ r. elim (cases_lt r (length a)) [
        | inl old ↦ omega (arith, sums r, done.old_used r old, one_more (suc d) a p q r can)
        | inr past ↦ omega (arith, sums r, uses_past (suc d) a p r can.tree past, done.apart r)
      ];
      new_used = λ r new lt. omega (arith, sums r, uses_past (suc d) a p r can.tree new, done.new_used r new (omega (arith, lt, n)));
    }

-- the leaf is under a page s, which has a new page t above it
beside_more : (d : ℕ) (a b b1 : List Page) (q s t : ℕ) → AppendsBeside d a b q s → t ≡ length b → length b1 < 2 ^ 32 → b1 ≡ b ++ record { pairs = []; links = s ∷ [] } ∷ [] → AppendsBeside (suc d) a b1 q t
beside_more d a b b1 q s t done top count_bounded e =
    let one : Page = record { pairs = []; links = s ∷ [] } in
    let n : length b1 ≡ length b + 1 = ap length e ∙ length-append b (one ∷ []) in
    let at : page_in b1 t ≡ one = ap (λ (xs : List Page). page_in xs t) e ∙ get_or_at b one [] no_page t (sym top) in
    let old : (r : ℕ) → r < length b → page_in b1 r ≡ page_in b r = λ r lt. ap (λ (xs : List Page). page_in xs r) e ∙ get_or_append_left b (one ∷ []) no_page r lt in
    let new : Framed d b b1 s = framed d b b1 s (λ r h. old r (uses_there d b s r done.tree h)) in
    let sums : (r : ℕ) → uses (suc d) b1 t r ≡ here t r + uses d b s r = λ r.
    ap (λ (g : Page). here t r + total (λ x. uses d b1 x r) g.links) at ∙ omega (arith, new.uses_stay r) in
    record {
      longer = omega (arith, done.longer, n);
      count_bounded = λ h. count_bounded;
      frame = λ r lt. old r (omega (arith, lt, done.longer)) ∙ done.frame r lt;
      pairs = ap (λ (g : Page). joined (map (λ x. pairs_under d b1 x) g.links)) at ∙ append-nil (pairs_under d b1 s) ∙ new.pairs ∙ done.pairs;
      tree = (
        omega (arith, top, n),
        subst (λ (g : Page). Parted (map (λ x. pairs_under d b1 x) g.links) g.pairs) (sym at) tt,
        subst (λ (g : Page). AreInOrder g.pairs) (sym at) sorted_none,
        subst (λ (g : Page). AllByRecursion (λ x. IsTree d b1 x) g.links) (sym at) (new.tree (omega (arith, n)) done.tree, tt),
      );
      old_used = λ r lt. omega (arith, sums r, here_zero t r (λ i. omega (arith, i, top, lt, done.longer)), done.old_used r lt);
      apart = λ r. elim (cases_lt r (length b)) [
        | inl lt ↦ omega (arith, sums r, here_zero t r (λ i. omega (arith, i, top, lt)), done.apart r)
        | inr past ↦ omega (arith, sums r, here_few t r, uses_past d b s r done.tree past)
      ];
      new_used = λ r new lt. elim (cases_lt r (length b)) [
        | inl old ↦ omega (arith, sums r, here_zero t r (λ i. omega (arith, i, top, old)), done.new_used r new old)
        | inr past ↦ omega (arith, sums r, here_at t r (omega (arith, past, lt, n, top)), uses_past d b s r done.tree past)
      ];
    }

-- the leaf is under a page s, which became a child
pub child_more : (d : ℕ) (a b b1 : List Page) (p q : ℕ) (pair : Pair) (s : ℕ) → IsFirst (page_in a q).pairs pair → CanAppend (suc d) a p q → AppendsBeside d a b q s → (t : Option ℕ) → AddsLink b b1 p s pair t → Appends (suc d) a b1 p q t
child_more d a b b1 p q pair s is can done None e = under_more d a b b1 p q pair s is can done e
child_more d a b b1 p q pair s is can done (Some t) e = beside_more d a b b1 q s t done e.0 e.1 e.2

-- the leaf itself
pub leaf_beside : (a : List Page) (p q : ℕ) → CanAppend 0 a p q → AppendsBeside 0 a a q q
leaf_beside a p q can = record {
  longer = omega arith;
  count_bounded = λ h. h;
  frame = λ r lt. refl;
  pairs = refl;
  tree = can.leaf;
  old_used = λ r lt. refl;
  apart = λ r. here_few q r;
  new_used = λ r new lt. absurd (omega (arith, new, lt));
}

pub ok_weaker : {X E : Type 0} (P Q : X → Type 0) → ((x : X) → P x → Q x) → (r : Result X E) → IfOk r P → IfOk r Q
ok_weaker P Q f (Ok x) h = f x h
ok_weaker P Q f (Err e) h = tt

-- ---- the top
pub can_append_top : (d : ℕ) (a : List Page) (t : Root) (q : ℕ) → t.levels ≡ suc d → CanAppendIn a t q → CanAppend d a t.page q
can_append_top d a t q e can = record {
  tree = subst (λ n. IsTreeOfLevels n a t.page) e can.tree;
  apart = λ r. subst (λ n. uses_of_levels n a t.page r ≤ 1) e (can.apart r);
  leaf = can.leaf;
  outside = subst (λ n. uses_of_levels n a t.page q ≡ 0) e can.outside;
  order = subst (λ n. AreInOrder (pairs_of_levels n a t.page ++ (page_in a q).pairs)) e can.order;
}

-- trees by their levels
abbrev Tops : List Page → List Page → ℕ → ℕ → ℕ → ℕ → ℕ → Type 0
Tops a b n p m s q = AppendsIn a b (record { page = p; levels = n }) (record { page = s; levels = m }) q

-- the leaf is under it, and no new top is over it
pub grown_under : (d : ℕ) (a b : List Page) (t : Root) (q : ℕ) → t.levels ≡ suc d → CanAppendIn a t q → AppendsUnder d a b t.page q → AppendsIn a b t t q
grown_under d a b t q levels can done = subst (λ n. Tops a b n t.page n t.page q) (sym levels) (record {
  longer = done.extends.longer;
  count_bounded = done.extends.count_bounded can.count_bounded;
  frame = done.extends.frame;
  pairs = done.pairs;
  tree = done.tree;
  levels = omega arith;
  uses_stay = done.uses_stay;
  apart = done.apart;
  new_used = done.new_used;
  deep = omega (arith, levels, can.deep, done.extends.longer);
})

-- the leaf is under a page s, and a new top is over both
pub over_both : (d : ℕ) (a b b1 : List Page) (t u : Root) (q : ℕ) (pair : Pair) (s : ℕ) → IsFirst (page_in a q).pairs pair → t.levels ≡ suc d → CanAppendIn a t q
    → AppendsBeside d a b q s → IsOver b b1 t s pair u → AppendsIn a b1 t u q
over_both d a b b1 t u q pair s is levels all done over =
    let can : CanAppend d a t.page q = can_append_top d a t q levels all in
    let parts = parts_new d a t.page q pair is can in
    let ps = (page_in a q).pairs in
    let p = t.page in
    let v = u.page in
    let top : Page = record { pairs = pair ∷ []; links = p ∷ s ∷ [] } in
    let n : length b1 ≡ length b + 1 = ap length over.pages ∙ length-append b (top ∷ []) in
    let more : u.levels ≡ suc (suc d) = omega (arith, over.levels, levels) in
    let at : page_in b1 v ≡ top = new_page b b1 top v over.pages over.page in
    let old : (r : ℕ) → r < length b → page_in b1 r ≡ page_in b r = λ r lt. ap (λ (xs : List Page). page_in xs r) over.pages ∙ get_or_append_left b (top ∷ []) no_page r lt in
    let first : Framed d a b1 p = framed d a b1 p (λ r h.
    let lt = uses_there d a p r can.tree h in
    old r (omega (arith, lt, done.longer)) ∙ done.frame r lt) in
    let second : Framed d b b1 s = framed d b b1 s (λ r h. old r (uses_there d b s r done.tree h)) in
    let alone : pairs_under d b1 s ≡ ps = second.pairs ∙ done.pairs in
    let pairs : pairs_under (suc d) b1 v ≡ pairs_under d a p ++ ps =
    ap (λ (g : Page). joined (map (λ x. pairs_under d b1 x) g.links)) at ∙ (λ i. first.pairs i ++ append-nil (alone i) i) in
    let sums : (r : ℕ) → uses (suc d) b1 v r ≡ here v r + (uses d a p r + uses d b s r) = λ r.
    ap (λ (g : Page). here v r + total (λ x. uses d b1 x r) g.links) at ∙ omega (arith, first.uses_stay r, second.uses_stay r) in
    let not_new : (r : ℕ) → r < length b → here v r ≡ 0 = λ r lt. here_zero v r (λ i. omega (arith, i, over.page, lt)) in
    let stays : (r : ℕ) → r < length a → uses (suc d) b1 v r ≡ uses d a p r + here q r = λ r lt.
    omega (arith, sums r, not_new r (omega (arith, lt, done.longer)), done.old_used r lt) in
    let apart : (r : ℕ) → uses (suc d) b1 v r ≤ 1 = λ r. elim (cases_lt r (length a)) [
      | inl lt ↦ omega (arith, stays r lt, one_more d a p q r can)
      | inr past ↦ elim (cases_lt r (length b)) [
        | inl lt ↦ omega (arith, sums r, uses_past d a p r can.tree past, not_new r lt, done.apart r)
        | inr new ↦ omega (arith, sums r, uses_past d a p r can.tree past, uses_past d b s r done.tree new, here_few v r)
      ]
    ] in
    let new_used : (r : ℕ) → length a ≤ r → r < length b1 → uses (suc d) b1 v r ≡ 1 = λ r past there. elim (cases_lt r (length b)) [
      | inl lt ↦ omega (arith, sums r, uses_past d a p r can.tree past, not_new r lt, done.new_used r past lt)
      | inr new ↦ omega (arith, sums r, uses_past d a p r can.tree past, uses_past d b s r done.tree new, here_at v r (omega (arith, new, there, n, over.page)))
    ] in
    let tree : IsTree (suc d) b1 v = (
      omega (arith, over.page, n),
      subst (λ (g : Page). Parted (map (λ x. pairs_under d b1 x) g.links) g.pairs) (sym at)
          (subst (λ qs. AllBefore pair qs) (sym first.pairs) parts.above, subst (λ qs. AllFrom pair qs) (sym alone) parts.from, tt),
      subst (λ (g : Page). AreInOrder g.pairs) (sym at) (order_end [] pair sorted_none tt),
      subst (λ (g : Page). AllByRecursion (λ x. IsTree d b1 x) g.links) (sym at)
          (first.tree (omega (arith, done.longer, n)) can.tree, (second.tree (omega (arith, n)) done.tree, tt)),
    ) in
    let tops : Tops a b1 (suc d) p (suc (suc d)) v q = record {
      longer = omega (arith, done.longer, n);
      count_bounded = over.count_bounded;
      frame = λ r lt h. old r (omega (arith, lt, done.longer)) ∙ done.frame r lt;
      pairs = pairs;
      tree = tree;
      levels = omega arith;
      uses_stay = stays;
      apart = apart;
      new_used = new_used;
      deep = omega (arith, levels, all.deep, done.longer, n);
    } in
    subst (λ k. Tops a b1 k p u.levels v q) (sym levels) (subst (λ k. Tops a b1 (suc d) p k v q) (sym more) tops)
