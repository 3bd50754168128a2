-- The walk that breaks no rule is the tree, and there is one walk.
use Rattle.std.proofs.Common.{◌≡◌, ℕ, Bool, true, false, cond, nat_eq, List, [], ◌∷◌, ◌++◌, Option, None, Ok, Err, refl, ap, sym, ◌∙◌, subst, append_assoc, append-nil}
use Rattle.std.specs.List.{IsDistinct, AllByRecursion}
use Rattle.std.proofs.lemmas.Bool.{or_parts}
use Rattle.std.proofs.lemmas.Cmp.{nat_eq_equiv}
use Rattle.ndx_index.specs.declared.pair.Pair.{Pair}
use Rattle.ndx_index.specs.declared.read.page.PageLayout.{PageLayout}
use Rattle.ndx_index.specs.declared.fault.NdxFault.TheVariants.{PageOutside, PageTwice}
use Rattle.ndx_index.specs.Pages.{Node, leaf, inner, node_of, page_of, is_page}
use Rattle.ndx_index.specs.Laws.Lists.{all_weaker, all_zip}
use Rattle.ndx_index.specs.NdxTree.{BadPage, Visits, Trees, IsFileTree, Holds, is_visited, look, none, at_leaf, at_inner, done, stops, visit_leaf, visit_inner}

-- each page is new where it comes
abbrev pub Apart : List ℕ → List ℕ → Type 0
Apart visited [] = Unit {0}
Apart visited (p ∷ ps) = (is_visited p visited ≡ false) × Apart (p ∷ visited) ps

pub record Split (s : PageLayout) (bytes xs ys pages : List ℕ) (pairs : List Pair) : Type 0 where
  pub below : List ℕ
  pub rest : List ℕ
  pub own : List Pair
  pub others : List Pair
  pub left : Trees s bytes xs below own
  pub right : Trees s bytes ys rest others
  pub pages_are : pages ≡ below ++ rest
  pub pairs_are : pairs ≡ own ++ others

module _ (s : PageLayout) (bytes : List ℕ) where
  pub trees_split : (xs ys : List ℕ) {pages : List ℕ} {pairs : List Pair} → Trees s bytes (xs ++ ys) pages pairs → Split s bytes xs ys pages pairs
  trees_split [] ys {pages} {pairs} t = record { below = []; rest = pages; own = []; others = pairs; left = none; right = t; pages_are = refl; pairs_are = refl }
  trees_split (x ∷ xs) ys (at_leaf {p = p} {own = own} holds t) =
      let r = trees_split xs ys t in
      record {
        below = p ∷ r.below;
        rest = r.rest;
        own = own ++ r.own;
        others = r.others;
        left = at_leaf holds r.left;
        right = r.right;
        pages_are = ap (λ ps. p ∷ ps) r.pages_are;
        pairs_are = ap (λ ps. own ++ ps) r.pairs_are ∙ sym (append_assoc own r.own r.others);
      }
  trees_split (x ∷ xs) ys (at_inner {p = p} {below = deep} {own = own} holds down t) =
      let r = trees_split xs ys t in
      record {
        below = p ∷ (deep ++ r.below);
        rest = r.rest;
        own = own ++ r.own;
        others = r.others;
        left = at_inner holds down r.left;
        right = r.right;
        pages_are = ap (λ ps. p ∷ (deep ++ ps)) r.pages_are ∙ ap (λ ps. p ∷ ps) (sym (append_assoc deep r.below r.rest));
        pairs_are = ap (λ ps. own ++ ps) r.pairs_are ∙ sym (append_assoc own r.own r.others);
      }

  looked : (visited : List ℕ) (p : ℕ) (node : Node) → look s bytes visited p ≡ Ok node → Holds s bytes p node × (is_visited p visited ≡ false)
  looked visited p node h = step (is_page bytes p) (is_visited p visited) refl refl h
    where
      step : (a b : Bool) → is_page bytes p ≡ a → is_visited p visited ≡ b → cond a (cond b (Err PageTwice) (node_of s (page_of bytes p))) (Err PageOutside) ≡ Ok node → Holds s bytes p node × (is_visited p visited ≡ false)
      step true true x y k = absurd cc
      step true false x y k = (record { whole = x; keeps = k }, y)
      step false b x y k = absurd cc

  looks_new : (visited : List ℕ) (p : ℕ) (node : Node) → Holds s bytes p node → is_visited p visited ≡ false → look s bytes visited p ≡ Ok node
  looks_new visited p node holds new = rw (holds.whole, new) holds.keeps

  pub visits_trees : {visited pending pages : List ℕ} {pairs : List Pair} {r : Option BadPage} → Visits s bytes visited pending pages pairs r → r ≡ None → Trees s bytes pending pages pairs × Apart visited pages
  visits_trees done e = (none, tt)
  visits_trees (stops h) e = absurd cc
  visits_trees (visit_leaf {visited = visited} {p = p} {own = own} h v) e =
      let t = visits_trees v e in
      let k = looked visited p (leaf own) h in
      (at_leaf k.0 t.0, (k.1, t.1))
  visits_trees (visit_inner {visited = visited} {pending = pending} {children = children} {pages = pages} {p = p} {pairs = pairs} h v) e =
      let t = visits_trees v e in
      let k = looked visited p (inner children) h in
      let holds = k.0 in
      let r = trees_split children pending t.0 in
      let tree : Trees s bytes (p ∷ pending) (p ∷ (r.below ++ r.rest)) (r.own ++ r.others) = at_inner holds r.left r.right in
      (subst (λ ps. Trees s bytes (p ∷ pending) (p ∷ ps) pairs) (sym r.pages_are) (subst (λ qs. Trees s bytes (p ∷ pending) (p ∷ (r.below ++ r.rest)) qs) (sym r.pairs_are) tree), (k.1, t.1))

  -- the pages visited after these
  pushed : List ℕ → List ℕ → List ℕ
  pushed [] visited = visited
  pushed (p ∷ ps) visited = pushed ps (p ∷ visited)

  pushed-append : (ps qs visited : List ℕ) → pushed (ps ++ qs) visited ≡ pushed qs (pushed ps visited)
  unfolding pushed
  pushed-append [] qs visited = refl
  pushed-append (p ∷ ps) qs visited = pushed-append ps qs (p ∷ visited)

  apart_front : (ps qs visited : List ℕ) → Apart visited (ps ++ qs) → Apart visited ps × Apart (pushed ps visited) qs
  unfolding pushed
  apart_front [] qs visited h = (tt, h)
  apart_front (p ∷ ps) qs visited h = let r = apart_front ps qs (p ∷ visited) h.1 in ((h.0, r.0), r.1)

  trees_visit : {roots pages : List ℕ} {pairs : List Pair} → Trees s bytes roots pages pairs → (visited pending pages' : List ℕ) (pairs' : List Pair) (r : Option BadPage) → Apart visited pages → Visits s bytes (pushed pages visited) pending pages' pairs' r → Visits s bytes visited (roots ++ pending) (pages ++ pages') (pairs ++ pairs') r
  unfolding pushed
  trees_visit none visited pending pages' pairs' r apart v = v
  trees_visit (at_leaf {p = p} {rest = rest} {pages = pages} {own = own} {pairs = pairs} holds t) visited pending pages' pairs' r apart v =
      subst (λ ps. Visits s bytes visited (p ∷ (rest ++ pending)) (p ∷ (pages ++ pages')) ps r) (sym (append_assoc own pairs pairs')) (visit_leaf (looks_new visited p (leaf own) holds apart.0) (trees_visit t (p ∷ visited) pending pages' pairs' r apart.1 v))
  trees_visit (at_inner {p = p} {children = children} {below = below} {rest = rest} {pages = pages} {own = own} {pairs = pairs} holds down t) visited pending pages' pairs' r apart v =
      let parts = apart_front below pages (p ∷ visited) apart.1 in
      let after = trees_visit t (pushed below (p ∷ visited)) pending pages' pairs' r parts.1 (subst (λ m. Visits s bytes m pending pages' pairs' r) (pushed-append below pages (p ∷ visited)) v) in
      let under = trees_visit down (p ∷ visited) (rest ++ pending) (pages ++ pages') (pairs ++ pairs') r parts.0 after in
      let here = visit_inner {pending = rest ++ pending} (looks_new visited p (inner children) holds apart.0) under in
      subst (λ ps. Visits s bytes visited (p ∷ (rest ++ pending)) (p ∷ ps) ((own ++ pairs) ++ pairs') r) (sym (append_assoc below pages pages'))
      (subst (λ qs. Visits s bytes visited (p ∷ (rest ++ pending)) (p ∷ (below ++ (pages ++ pages'))) qs r) (sym (append_assoc own pairs pairs')) here)

  -- there is one walk
  pub one_walk : {visited pending pages pages' : List ℕ} {pairs pairs' : List Pair} {r r' : Option BadPage} → Visits s bytes visited pending pages pairs r → Visits s bytes visited pending pages' pairs' r' → (pages ≡ pages') × (pairs ≡ pairs') × (r ≡ r')
  one_walk done done = (refl, refl, refl)
  one_walk (stops h) (stops k) = (refl, refl, cc)
  one_walk (stops h) (visit_leaf k w) = absurd cc
  one_walk (stops h) (visit_inner k w) = absurd cc
  one_walk (visit_leaf h v) (stops k) = absurd cc
  one_walk (visit_leaf {p = p} {own = own} {pairs = pairs} h v) (visit_leaf {own = own'} {pairs = pairs'} k w) =
      let t = one_walk v w in
      let same : own ≡ own' = cc in
      (ap (λ ps. p ∷ ps) t.0, ap (λ ps. own ++ ps) t.1 ∙ ap (λ o. o ++ pairs') same, t.2)
  one_walk (visit_leaf h v) (visit_inner k w) = absurd cc
  one_walk (visit_inner h v) (stops k) = absurd cc
  one_walk (visit_inner h v) (visit_leaf k w) = absurd cc
  one_walk (visit_inner {visited = visited} {pending = pending} {children = children} {p = p} h v) (visit_inner {children = children'} {pages = pages'} {pairs = pairs'} {r = r'} k w) =
      let same : children' ≡ children = cc in
      let t = one_walk v (subst (λ cs. Visits s bytes (p ∷ visited) (cs ++ pending) pages' pairs' r') same w) in
      (ap (λ ps. p ∷ ps) t.0, t.1, t.2)

  -- pages that are new where they come differ
  apart_distinct : (ps visited : List ℕ) → Apart visited ps → IsDistinct nat_eq ps × AllByRecursion (λ q. is_visited q visited ≡ false) ps
  unfolding IsDistinct
  apart_distinct [] visited h = (tt, tt)
  apart_distinct (p ∷ ps) visited h =
      let r = apart_distinct ps (p ∷ visited) h.1 in
      let parts = λ (q : ℕ) (e : is_visited q (p ∷ visited) ≡ false). or_parts (nat_eq q p) (is_visited q visited) e in
      ((all_weaker _ _ (λ q e. nat_eq_equiv.symm p q ∙ (parts q e).0) ps r.1, r.0), (h.0, all_weaker _ _ (λ q e. (parts q e).1) ps r.1))

  distinct_apart : (ps visited : List ℕ) → IsDistinct nat_eq ps → AllByRecursion (λ q. is_visited q visited ≡ false) ps → Apart visited ps
  unfolding IsDistinct
  distinct_apart [] visited d h = tt
  distinct_apart (p ∷ ps) visited d h =
      (h.0, distinct_apart ps (p ∷ visited) d.1 (all_weaker _ _ (λ (q : ℕ) (k : (nat_eq p q ≡ false) × (is_visited q visited ≡ false)). rw (nat_eq_equiv.symm q p ∙ k.0, k.1) refl) ps (all_zip _ _ ps d.0 h.1)))

  all_unvisited : (ps : List ℕ) → AllByRecursion (λ q. is_visited q [] ≡ false) ps
  all_unvisited [] = tt
  all_unvisited (p ∷ ps) = (refl, all_unvisited ps)

  pub tree_from_visits : (root : ℕ) (pages : List ℕ) (pairs : List Pair) → Visits s bytes [] (root ∷ []) pages pairs None → IsFileTree s bytes root pages pairs
  tree_from_visits root pages pairs v =
      let t = visits_trees v refl in
      record { tree = t.0; apart = (apart_distinct pages [] t.1).0 }

  pub visits_from_tree : (root : ℕ) (pages : List ℕ) (pairs : List Pair) → IsFileTree s bytes root pages pairs → Visits s bytes [] (root ∷ []) pages pairs None
  visits_from_tree root pages pairs t =
      let v = trees_visit t.tree [] [] [] [] None (distinct_apart pages [] t.apart (all_unvisited pages)) done in
      subst (λ ps. Visits s bytes [] (root ∷ []) ps pairs None) (append-nil pages) (subst (λ qs. Visits s bytes [] (root ∷ []) (pages ++ []) qs None) (append-nil pairs) v)
