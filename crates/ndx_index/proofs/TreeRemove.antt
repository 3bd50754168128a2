-- A pair is taken out of a tree, one level up.
use Rattle.std.proofs.Common.{◌≡◌, ℕ, zero, suc, ◌+◌, ◌-◌, ◌<◌, ◌≤◌, nat_eq, true, false, List, [], ◌∷◌, map, length, get_or, set, Contains, refl, ap, sym, ◌∙◌, subst, inl, inr, arith}
use Rattle.std.specs.List.{AllByRecursion, remove}
use Rattle.std.specs.Ordering.{is_lt}
use Rattle.std.proofs.lemmas.Bool.{cases_eq, cases_lt, eqb-true, false≢true}
use Rattle.std.proofs.lemmas.List.{set-set, get_or-set_same, get_or-set_other, length-set, get_or-map, length-map, get_or_default, append-nil}
use Rattle.std.proofs.lemmas.List.Edits.{length-remove}
use Rattle.std.proofs.lemmas.Map.Keys.{Less-from_sorted}
use Rattle.ndx_index.specs.declared.pair.Pair.{Pair}
use Rattle.ndx_index.specs.declared.pages.free.FreeList.{FreeList}
use Rattle.ndx_index.specs.Order.{pair_cmp, before, without_pair, AreInOrder}
use Rattle.ndx_index.specs.Laws.Comparing.{irreflexive, before_is}
use Rattle.ndx_index.specs.PageStore.{Page, page_in, no_page, with_pairs, with_links, without_child, keys_without}
use Rattle.ndx_index.specs.Slots.{slot_at, no_pair, AllPassFrom}
use Rattle.ndx_index.specs.IndexTree.{pairs_under, joined, total, here, uses, uses_free, uses_both, IsTree, IsFreeList, Parted}
use Rattle.ndx_index.specs.TreeSteps.{Chosen, IsChildAt, IsSubtreeApart, CanRemove, Removes, Empties}
use Rattle.ndx_index.proofs.Order.{without_at}
use Rattle.ndx_index.proofs.TreeFrame.{framed, Framed, here_itself, agrees_itself}
use Rattle.ndx_index.proofs.TreeLists.{total_at, total_two, all_at, all_from, child_order}
use Rattle.ndx_index.proofs.TreeInsert.{here_other, total_one, map_one}
use Rattle.ndx_index.proofs.Keeping.{list_framed}
use Rattle.ndx_index.proofs.Unparting.{takes_out_of_one, out_of_last, parted_remove, order_without, map_remove, map_but, total_but, total_remove, all_but}

-- ---- a leaf

-- the pair stands before the place where greater ones begin
pub record IsAtPlace (ps : List Pair) (pair : Pair) (at : ℕ) : Type 0 where
  pub one : 1 ≤ at
  pub inside : at - 1 < length ps
  pub is : (d : Pair) → get_or ps (at - 1) d ≡ pair

is_at_place : (ps : List Pair) (pair : Pair) (at : ℕ) → AreInOrder ps → Contains ps pair → at ≤ length ps → ((k : ℕ) → k < at → before pair (slot_at ps k) ≡ false) → ((k : ℕ) → at ≤ k → k < length ps → before pair (slot_at ps k) ≡ true) → IsAtPlace ps pair at
is_at_place ps pair at order held le low high =
    let n = held.0 in
    let there : (d : Pair) → get_or ps n d ≡ pair = λ d. get_or_default ps n d pair held.1 ∙ held.2 in
    let past : n < at = elim (cases_lt n at) [
      | inl less ↦ less
      | inr more ↦ absurd (irreflexive pair (before_is pair pair (subst (λ q. before pair q ≡ true) (there no_pair) (high n more held.1))))
    ] in
    let near : at ≤ suc n = elim (cases_lt (suc n) at) [
      | inl less ↦ absurd (false≢true (sym (low (suc n) less) ∙ ap is_lt (subst (λ q. pair_cmp q (slot_at ps (suc n)) ≡ Rattle.std.specs.declared.cmp.Ordering.TheVariants.Less) (there no_pair) (Less-from_sorted pair_cmp ps n (suc n) no_pair order (omega arith) (omega (arith, less, le))))))
      | inr more ↦ more
    ] in
    let same : at - 1 ≡ n = omega (arith, past, near) in
    record { one = omega (arith, past); inside = omega (arith, same, held.1); is = λ d. ap (λ k. get_or ps k d) same ∙ there d }

pub leaf_place : {level : ℕ} {a : List Page} {f : FreeList} {p at : ℕ} {pair : Pair} → level ≡ 0 → CanRemove level a f p pair → at ≤ length (page_in a p).pairs
    → ((k : ℕ) → k < at → before pair (slot_at (page_in a p).pairs k) ≡ false) → AllPassFrom (before pair) (page_in a p).pairs at → IsAtPlace (page_in a p).pairs pair at
leaf_place {a = a} {f = f} {p = p} {at = at} {pair = pair} leaf can le low high =
    let can0 : CanRemove 0 a f p pair = subst (λ d. CanRemove d a f p pair) leaf can in
    is_at_place (page_in a p).pairs pair at can0.whole.order can0.held le low high

-- a pair goes out of a leaf that is there
record LeafTaken (a b : List Page) (f : FreeList) (p i : ℕ) (pair : Pair) : Type 0 where
  pub own : (page_in b p).pairs ≡ remove (page_in a p).pairs i
  pub list : IsFreeList b f
  pub free_stays : (r : ℕ) → uses_free b f r ≡ uses_free a f r
  pub frame : (r : ℕ) → here p r ≡ 0 → page_in b r ≡ page_in a r
  pub same_length : length b ≡ length a

leaf_taken : (a b : List Page) (f : FreeList) (p i : ℕ) (pair : Pair) → CanRemove 0 a f p pair → b ≡ set a p (with_pairs (remove (page_in a p).pairs i) (page_in a p)) → LeafTaken a b f p i pair
leaf_taken a b f p i pair can written =
    let g = with_pairs (remove (page_in a p).pairs i) (page_in a p) in
    let at : page_in b p ≡ g = rw written (get_or-set_same a p g no_page can.whole.tree.0) in
    let n : length b ≡ length a = rw written (length-set a p g) in
    let other : (r : ℕ) → here p r ≡ 0 → page_in b r ≡ page_in a r = λ r h. rw written (get_or-set_other a p r g no_page (here_other p r h)) in
    let free = list_framed a b f can.whole.list n (λ r h. other r (omega (arith, h, can.whole.apart r))) in
    record { own = ap (λ (h : Page). h.pairs) at; list = free.free; free_stays = free.uses_stay; frame = other; same_length = n }

pub leaf_removes : {level : ℕ} {a b : List Page} {f : FreeList} {p at : ℕ} {pair : Pair} → level ≡ 0 → CanRemove level a f p pair → IsAtPlace (page_in a p).pairs pair at
    → b ≡ set a p (with_pairs (remove (page_in a p).pairs (at - 1)) (page_in a p)) → 0 < length (page_in b p).pairs → Removes level a b f f p pair
leaf_removes {a = a} {b = b} {f = f} {p = p} {at = at} {pair = pair} leaf can place written some =
    let can0 : CanRemove 0 a f p pair = subst (λ d. CanRemove d a f p pair) leaf can in
    let taken = leaf_taken a b f p (at - 1) pair can0 written in
    subst (λ d. Removes d a b f f p pair) (sym leaf) (record {
      pairs = taken.own ∙ sym (without_at pair (page_in a p).pairs (at - 1) can0.whole.order place.inside place.is);
      keeps = record {
        tree = (omega (arith, can0.whole.tree.0, taken.same_length), some);
        list = taken.list;
        uses_stay = λ r. ap (λ k. here p r + k) (taken.free_stays r);
        frame = λ r h. taken.frame r (omega (arith, h));
        same_length = taken.same_length;
      };
      more = omega arith;
    })

only_one : (ps : List Pair) (i : ℕ) (pair : Pair) → i < length ps → length (remove ps i) ≡ 0 → ((d : Pair) → get_or ps i d ≡ pair) → ps ≡ pair ∷ []
only_one [] i pair lt none is = absurd (omega (arith, lt))
only_one (q ∷ []) zero pair lt none is = ap (λ x. x ∷ []) (is q)
only_one (q ∷ []) (suc i) pair lt none is = absurd (omega (arith, lt))
only_one (q ∷ r ∷ qs) i pair lt none is = absurd (omega (arith, none, length-remove (q ∷ r ∷ qs) i lt))

pub leaf_empties : {level : ℕ} {a b : List Page} {f : FreeList} {p at : ℕ} {pair : Pair} → level ≡ 0 → CanRemove level a f p pair → IsAtPlace (page_in a p).pairs pair at
    → b ≡ set a p (with_pairs (remove (page_in a p).pairs (at - 1)) (page_in a p)) → length (page_in b p).pairs ≡ 0 → Empties level a b f f p pair
leaf_empties {a = a} {b = b} {f = f} {p = p} {at = at} {pair = pair} leaf can place written none =
    let can0 : CanRemove 0 a f p pair = subst (λ d. CanRemove d a f p pair) leaf can in
    let taken = leaf_taken a b f p (at - 1) pair can0 written in
    subst (λ d. Empties d a b f f p pair) (sym leaf) (record {
      only = only_one (page_in a p).pairs (at - 1) pair place.inside (sym (ap length taken.own) ∙ none) place.is;
      there = omega (arith, can0.whole.tree.0, taken.same_length);
      list = taken.list;
      uses_stay = λ r. ap (λ k. here p r + k) (taken.free_stays r);
      frame = λ r h. taken.frame r (omega (arith, h));
      more = omega arith;
      same_length = taken.same_length;
    })

-- ---- an inner page

held_below : (d : ℕ) (a : List Page) (f : FreeList) (p i : ℕ) (pair : Pair) → CanRemove (suc d) a f p pair → i < length (page_in a p).links → Chosen pair i (page_in a p).pairs → CanRemove d a f (get_or (page_in a p).links i 0) pair
held_below d a f p i pair can lt chosen =
    let links = (page_in a p).links in
    let under = λ (x : ℕ). pairs_under d a x in
    let takes = takes_out_of_one pair i (map under links) (page_in a p).pairs can.whole.tree.1 can.whole.tree.2 chosen in
    record {
      whole = record {
        tree = all_at (λ x. IsTree d a x) links i lt can.whole.tree.3;
        order = child_order under links i lt can.whole.order;
        list = can.whole.list;
        apart = λ r. omega (arith, can.whole.apart r, total_at (λ x. uses d a x r) links i lt);
      };
      count_bounded = can.count_bounded;
      held = subst (λ l. Contains l pair) (get_or-map under links i 0 [] lt) (takes.held can.held);
    }

remove_above : (d : ℕ) (a b : List Page) (f g : FreeList) (p i : ℕ) (pair : Pair) → CanRemove (suc d) a f p pair → i < length (page_in a p).links → Chosen pair i (page_in a p).pairs → Removes d a b f g (get_or (page_in a p).links i 0) pair → Removes (suc d) a b f g p pair
remove_above d a b f g p i pair can lt chosen done =
    let links = (page_in a p).links in
    let keys = (page_in a p).pairs in
    let c = get_or links i 0 in
    let tree = can.whole.tree in
    let apart = can.whole.apart in
    let fa = λ (x : ℕ). pairs_under d a x in
    let fb = λ (x : ℕ). pairs_under d b x in
    let in_c : (r : ℕ) → uses d a c r ≤ total (λ y. uses d a y r) links = λ r. total_at (λ x. uses d a x r) links i lt in
    let here_same : page_in b p ≡ page_in a p = done.keeps.frame p (omega (arith, apart p, in_c p, here_itself p)) in
    let other : (j : ℕ) → j < length links → (j ≡ i → ⊥) → Framed d a b (get_or links j 0) = λ j l ne. framed d a b (get_or links j 0) (λ r u. done.keeps.frame r (
    omega (arith, u, apart r, total_two (λ x. uses d a x r) links j i l lt ne))) in
    let takes = takes_out_of_one pair i (map fa links) keys tree.1 tree.2 chosen in
    let new_i : fb c ≡ without_pair pair (get_or (map fa links) i []) = done.pairs ∙ ap (without_pair pair) (sym (get_or-map fa links i 0 [] lt)) in
    let maps : map fb links ≡ set (map fa links) i (without_pair pair (get_or (map fa links) i [])) =
    map_one fa fb links i lt (λ j l ne. (other j l ne).pairs) ∙ ap (λ x. set (map fa links) i x) new_i in
    let sums : (r : ℕ) → total (λ x. uses d b x r) links + uses d a c r ≡ total (λ x. uses d a x r) links + uses d b c r = λ r.
    total_one (λ x. uses d a x r) (λ x. uses d b x r) links i lt (λ j l ne. (other j l ne).uses_stay r) in
    let above : (r : ℕ) → uses (suc d) b p r ≡ here p r + total (λ x. uses d b x r) links = λ r. ap (λ (h : Page). here p r + total (λ x. uses d b x r) h.links) here_same in
    let tree_each : (j : ℕ) → j < length links → IsTree d b (get_or links j 0) = λ j l. elim (cases_eq j i) [
      | inl e ↦ subst (λ k. IsTree d b (get_or links k 0)) (sym e) done.keeps.tree
      | inr ne ↦ (other j l ne).tree (omega (arith, done.keeps.same_length)) (all_at (λ x. IsTree d a x) links j l tree.3)
    ] in
    record {
      pairs = ap (λ (h : Page). joined (map fb h.links)) here_same ∙ ap joined maps ∙ takes.pairs;
      keeps = record {
        tree = (
          omega (arith, tree.0, done.keeps.same_length),
          subst (λ (h : Page). Parted (map fb h.links) h.pairs) (sym here_same) (subst (λ pss. Parted pss keys) (sym maps) takes.parted),
          subst (λ (h : Page). AreInOrder h.pairs) (sym here_same) tree.2,
          subst (λ (h : Page). AllByRecursion (λ x. IsTree d b x) h.links) (sym here_same) (all_from (λ x. IsTree d b x) links tree_each),
        );
        list = done.keeps.list;
        uses_stay = λ r. omega (arith, above r, sums r, done.keeps.uses_stay r);
        frame = λ r h. done.keeps.frame r (omega (arith, h, in_c r));
        same_length = done.keeps.same_length;
      };
      more = done.more;
    }

-- ---- an inner page whose child became empty

-- the child's page was given back
pub record GaveBack (b e : List Page) (g h : FreeList) (c : ℕ) : Type 0 where
  pub count : h.count ≡ g.count + 1
  pub list : IsFreeList e h
  pub uses : (r : ℕ) → uses_free e h r ≡ here c r + uses_free b g r
  pub others : (r : ℕ) → (r ≡ c → ⊥) → page_in e r ≡ page_in b r
  pub same_length : length e ≡ length b

record Dropped (d : ℕ) (a z : List Page) (f h : FreeList) (p i : ℕ) : Type 0 where
  pub own : page_in z p ≡ without_child i (page_in a p)
  pub sibling : (j : ℕ) → j < length (page_in a p).links → (j ≡ i → ⊥) → Framed d a z (get_or (page_in a p).links j 0)
  pub list : IsFreeList z h
  pub freed : (r : ℕ) → uses_free z h r ≡ uses d a (get_or (page_in a p).links i 0) r + uses_free a f r
  pub frame : (r : ℕ) → uses_both (suc d) a f p r ≡ 0 → page_in z r ≡ page_in a r
  pub same_length : length z ≡ length a
  pub more : f.count ≤ h.count

-- the page above is as it was when its child became empty and was given back
parent_same : (d : ℕ) (a b e : List Page) (f g h : FreeList) (p i : ℕ) (pair : Pair) → CanRemove (suc d) a f p pair → i < length (page_in a p).links → Empties d a b f g (get_or (page_in a p).links i 0) pair → GaveBack b e g h (get_or (page_in a p).links i 0) → page_in e p ≡ page_in a p
parent_same d a b e f g h p i pair can lt emptied gave =
    let links = (page_in a p).links in
    let c = get_or links i 0 in
    let in_c : (r : ℕ) → uses d a c r ≤ total (λ y. uses d a y r) links = λ r. total_at (λ x. uses d a x r) links i lt in
    let apart = can.whole.apart in
    gave.others p (λ q. omega (arith, apart p, in_c p, here_itself p, subst (λ x. 0 < uses d a c x) (sym q) (agrees_itself d a c)))
    ∙ emptied.frame p (omega (arith, apart p, in_c p, here_itself p))

dropped : (d : ℕ) (a b e z : List Page) (f g h : FreeList) (p i : ℕ) (pair : Pair) → CanRemove (suc d) a f p pair → i < length (page_in a p).links → Empties d a b f g (get_or (page_in a p).links i 0) pair → GaveBack b e g h (get_or (page_in a p).links i 0) → z ≡ set e p (without_child i (page_in e p)) → Dropped d a z f h p i
dropped d a b e z f g h p i pair can lt emptied gave written =
    let links = (page_in a p).links in
    let c = get_or links i 0 in
    let apart = can.whole.apart in
    let x = without_child i (page_in e p) in
    let in_c : (r : ℕ) → uses d a c r ≤ total (λ y. uses d a y r) links = λ r. total_at (λ y. uses d a y r) links i lt in
    let c_used : (r : ℕ) → uses d a c r ≡ 0 → r ≡ c → ⊥ = λ r none q. omega (arith, none, subst (λ y. 0 < uses d a c y) (sym q) (agrees_itself d a c)) in
    let stays : (r : ℕ) → uses_both d a f c r ≡ 0 → (r ≡ p → ⊥) → page_in z r ≡ page_in a r = λ r none ne.
    ap (λ l. page_in l r) written ∙ get_or-set_other e p r x no_page ne ∙ gave.others r (c_used r (omega (arith, none))) ∙ emptied.frame r none in
    let n : length z ≡ length a = ap length written ∙ length-set e p x ∙ gave.same_length ∙ emptied.same_length in
    let there : p < length e = omega (arith, can.whole.tree.0, gave.same_length, emptied.same_length) in
    let free_p : uses_free e h p ≡ 0 = omega (arith, gave.uses p, emptied.uses_stay p, apart p, in_c p, here_itself p) in
    let free = list_framed e z h gave.list (ap length written ∙ length-set e p x) (λ r k. ap (λ l. page_in l r) written ∙ get_or-set_other e p r x no_page (λ q. omega (arith, k, subst (λ y. uses_free e h y ≡ 0) (sym q) free_p))) in
    record {
      own = ap (λ l. page_in l p) written ∙ get_or-set_same e p x no_page there ∙ ap (without_child i) (parent_same d a b e f g h p i pair can lt emptied gave);
      sibling = λ j l ne. framed d a z (get_or links j 0) (λ r u. stays r
          (omega (arith, u, apart r, total_two (λ y. uses d a y r) links j i l lt ne))
          (λ q. omega (arith, u, apart r, total_at (λ y. uses d a y r) links j l, subst (λ y. here p y ≡ 1) (sym q) (here_itself p))));
      list = free.free;
      freed = λ r. free.uses_stay r ∙ gave.uses r ∙ emptied.uses_stay r;
      frame = λ r u. stays r (omega (arith, u, in_c r)) (here_other p r (omega (arith, u)));
      same_length = n;
      more = omega (arith, emptied.more, gave.count);
    }

remove_child : (d : ℕ) (a b e z : List Page) (f g h : FreeList) (p i : ℕ) (pair : Pair) → CanRemove (suc d) a f p pair → i < length (page_in a p).links → Chosen pair i (page_in a p).pairs → Empties d a b f g (get_or (page_in a p).links i 0) pair → GaveBack b e g h (get_or (page_in a p).links i 0) → z ≡ set e p (without_child i (page_in e p)) → 0 < length (page_in z p).links → Removes (suc d) a z f h p pair
remove_child d a b e z f g h p i pair can lt chosen emptied gave written some =
    let links = (page_in a p).links in
    let keys = (page_in a p).pairs in
    let c = get_or links i 0 in
    let tree = can.whole.tree in
    let fa = λ (x : ℕ). pairs_under d a x in
    let fz = λ (x : ℕ). pairs_under d z x in
    let pss = map fa links in
    let drop = dropped d a b e z f g h p i pair can lt emptied gave written in
    let n : length pss ≡ length links = length-map links fa in
    let fewer : length (page_in z p).links + 1 ≡ length links = ap (λ (y : Page). length y.links + 1) drop.own ∙ length-remove links i lt in
    let only : get_or pss i [] ≡ pair ∷ [] = get_or-map fa links i 0 [] lt ∙ emptied.only in
    let takes = takes_out_of_one pair i pss keys tree.1 tree.2 chosen in
    let maps : map fz (remove links i) ≡ remove pss i = map_but fa fz links i (λ j l ne. (drop.sibling j l ne).pairs) ∙ map_remove fa links i in
    let above : (r : ℕ) → uses (suc d) z p r ≡ here p r + total (λ x. uses d z x r) (remove links i) = λ r. ap (λ (y : Page). here p r + total (λ x. uses d z x r) y.links) drop.own in
    let sums : (r : ℕ) → total (λ x. uses d z x r) (remove links i) ≡ total (λ x. uses d a x r) (remove links i) = λ r. total_but (λ x. uses d a x r) (λ x. uses d z x r) links i (λ j l ne. (drop.sibling j l ne).uses_stay r) in
    record {
      pairs = ap (λ (y : Page). joined (map fz y.links)) drop.own ∙ ap joined maps ∙ out_of_last pair i pss keys takes (omega (arith, n, lt)) only;
      keeps = record {
        tree = (
          omega (arith, tree.0, drop.same_length),
          subst (λ (y : Page). Parted (map fz y.links) y.pairs) (sym drop.own) (subst (λ l. Parted l (keys_without i keys)) (sym maps) (parted_remove i pss keys tree.1 tree.2 (omega (arith, n, lt)) (omega (arith, n, fewer, some)))),
          subst (λ (y : Page). AreInOrder y.pairs) (sym drop.own) (order_without i keys tree.2),
          subst (λ (y : Page). AllByRecursion (λ x. IsTree d z x) y.links) (sym drop.own) (all_but (λ x. IsTree d z x) links i (λ j l ne. (drop.sibling j l ne).tree (omega (arith, drop.same_length)) (all_at (λ x. IsTree d a x) links j l tree.3))),
        );
        list = drop.list;
        uses_stay = λ r. omega (arith, above r, sums r, total_remove (λ x. uses d a x r) links i lt, drop.freed r);
        frame = drop.frame;
        same_length = drop.same_length;
      };
      more = drop.more;
    }

joined_one : (pss : List (List Pair)) (i : ℕ) (ps : List Pair) → length pss ≡ 1 → i < length pss → get_or pss i [] ≡ ps → joined pss ≡ ps
joined_one [] i ps one lt is = absurd (omega (arith, one))
joined_one (qs ∷ []) zero ps one lt is = append-nil qs ∙ is
joined_one (qs ∷ []) (suc i) ps one lt is = absurd (omega (arith, lt))
joined_one (qs ∷ rs ∷ pss) i ps one lt is = absurd (omega (arith, one))

total_none : (f : ℕ → ℕ) (xs : List ℕ) → length xs ≡ 0 → total f xs ≡ 0
total_none f [] none = refl
total_none f (x ∷ xs) none = absurd (omega (arith, none))

empty_child : (d : ℕ) (a b e z : List Page) (f g h : FreeList) (p i : ℕ) (pair : Pair) → CanRemove (suc d) a f p pair → i < length (page_in a p).links → Empties d a b f g (get_or (page_in a p).links i 0) pair → GaveBack b e g h (get_or (page_in a p).links i 0) → z ≡ set e p (without_child i (page_in e p)) → length (page_in z p).links ≡ 0 → Empties (suc d) a z f h p pair
empty_child d a b e z f g h p i pair can lt emptied gave written none =
    let links = (page_in a p).links in
    let fa = λ (x : ℕ). pairs_under d a x in
    let drop = dropped d a b e z f g h p i pair can lt emptied gave written in
    let left : length (remove links i) ≡ 0 = sym (ap (λ (y : Page). length y.links) drop.own) ∙ none in
    let one : length links ≡ 1 = omega (arith, left, length-remove links i lt) in
    let n : length (map fa links) ≡ length links = length-map links fa in
    record {
      only = joined_one (map fa links) i (pair ∷ []) (n ∙ one) (omega (arith, n, lt)) (get_or-map fa links i 0 [] lt ∙ emptied.only);
      there = omega (arith, can.whole.tree.0, drop.same_length);
      list = drop.list;
      uses_stay = λ r. omega (arith, drop.freed r, total_remove (λ x. uses d a x r) links i lt, total_none (λ x. uses d a x r) (remove links i) left);
      frame = drop.frame;
      more = drop.more;
      same_length = drop.same_length;
    }

-- ---- for the goals of the code

can_up : {level : ℕ} {a : List Page} {f : FreeList} {p : ℕ} {pair : Pair} → 0 < level → CanRemove level a f p pair → CanRemove (suc (level - 1)) a f p pair
can_up {level = level} {a = a} {f = f} {p = p} {pair = pair} inner can = subst (λ n. CanRemove n a f p pair) (omega arith) can

pub can_below : {level : ℕ} {a : List Page} {f : FreeList} {p i c : ℕ} {pair : Pair} → 0 < level → IsChildAt pair (page_in a p) i c → CanRemove level a f p pair → CanRemove (level - 1) a f c pair
can_below {level = level} {a = a} {f = f} {p = p} {i = i} {pair = pair} inner child can =
    subst (λ x. CanRemove (level - 1) a f x pair) child.is (held_below (level - 1) a f p i pair (can_up inner can) child.in_range child.chosen)

pub removes_above : {level : ℕ} {a b : List Page} {f g : FreeList} {p i c : ℕ} {pair : Pair} → 0 < level → IsChildAt pair (page_in a p) i c → CanRemove level a f p pair
    → Removes (level - 1) a b f g c pair → Removes level a b f g p pair
removes_above {level = level} {a = a} {b = b} {f = f} {g = g} {p = p} {i = i} {pair = pair} inner child can done =
    subst (λ n. Removes n a b f g p pair) (omega arith)
    (remove_above (level - 1) a b f g p i pair (can_up inner can) child.in_range child.chosen (subst (λ x. Removes (level - 1) a b f g x pair) (sym child.is) done))

pub page_stays : {level : ℕ} {a b e : List Page} {f g h : FreeList} {p i c : ℕ} {pair : Pair} → 0 < level → IsChildAt pair (page_in a p) i c → CanRemove level a f p pair
    → Empties (level - 1) a b f g c pair → GaveBack b e g h c → page_in e p ≡ page_in a p
page_stays {level = level} {a = a} {b = b} {e = e} {f = f} {g = g} {h = h} {p = p} {i = i} {pair = pair} inner child can emptied gave =
    parent_same (level - 1) a b e f g h p i pair (can_up inner can) child.in_range
    (subst (λ x. Empties (level - 1) a b f g x pair) (sym child.is) emptied) (subst (λ x. GaveBack b e g h x) (sym child.is) gave)

pub removes_child : {level : ℕ} {a b e z : List Page} {f g h : FreeList} {p i c : ℕ} {pair : Pair} → 0 < level → IsChildAt pair (page_in a p) i c → CanRemove level a f p pair
    → Empties (level - 1) a b f g c pair → GaveBack b e g h c → z ≡ set e p (without_child i (page_in e p)) → 0 < length (page_in z p).links → Removes level a z f h p pair
removes_child {level = level} {a = a} {b = b} {e = e} {z = z} {f = f} {g = g} {h = h} {p = p} {i = i} {pair = pair} inner child can emptied gave written some =
    subst (λ n. Removes n a z f h p pair) (omega arith)
    (remove_child (level - 1) a b e z f g h p i pair (can_up inner can) child.in_range child.chosen
    (subst (λ x. Empties (level - 1) a b f g x pair) (sym child.is) emptied) (subst (λ x. GaveBack b e g h x) (sym child.is) gave) written some)

pub empties_child : {level : ℕ} {a b e z : List Page} {f g h : FreeList} {p i c : ℕ} {pair : Pair} → 0 < level → IsChildAt pair (page_in a p) i c → CanRemove level a f p pair
    → Empties (level - 1) a b f g c pair → GaveBack b e g h c → z ≡ set e p (without_child i (page_in e p)) → length (page_in z p).links ≡ 0 → Empties level a z f h p pair
empties_child {level = level} {a = a} {b = b} {e = e} {z = z} {f = f} {g = g} {h = h} {p = p} {i = i} {pair = pair} inner child can emptied gave written none =
    subst (λ n. Empties n a z f h p pair) (omega arith)
    (empty_child (level - 1) a b e z f g h p i pair (can_up inner can) child.in_range
    (subst (λ x. Empties (level - 1) a b f g x pair) (sym child.is) emptied) (subst (λ x. GaveBack b e g h x) (sym child.is) gave) written none)

-- a link and then a key is taken out of a page
pub both_taken : (a b e : List Page) (p i k : ℕ) → p < length a → b ≡ set a p (with_links (remove (page_in a p).links i) (page_in a p)) → e ≡ set b p (with_pairs (remove (page_in b p).pairs k) (page_in b p)) → keys_without i (page_in a p).pairs ≡ remove (page_in a p).pairs k → e ≡ set a p (without_child i (page_in a p))
both_taken a b e p i k there first second keys =
    let x = with_links (remove (page_in a p).links i) (page_in a p) in
    let own : page_in b p ≡ x = ap (λ l. page_in l p) first ∙ get_or-set_same a p x no_page there in
    second ∙ ap (λ (y : Page). set b p (with_pairs (remove y.pairs k) y)) own ∙ ap (λ l. set l p (with_pairs (remove x.pairs k) x)) first ∙ set-set a p x (with_pairs (remove x.pairs k) x)
    ∙ ap (λ ks. set a p (record { pairs = ks; links = remove (page_in a p).links i })) (sym keys)

pub page_order : (d : ℕ) (a : List Page) (f : FreeList) (p : ℕ) → IsSubtreeApart d a f p → AreInOrder (page_in a p).pairs
page_order zero a f p whole = whole.order
page_order (suc d) a f p whole = whole.tree.2

pub not_zero : (n : ℕ) → nat_eq n 0 ≡ false → 0 < n
not_zero zero e = absurd (false≢true (sym e))
not_zero (suc n) e = omega arith

pub is_zero : (n : ℕ) → nat_eq n 0 ≡ true → n ≡ 0
is_zero n e = eqb-true n 0 e
