-- An insert into a tree, one level up.
use Rattle.std.proofs.Common.{◌≡◌, ℕ, zero, suc, ◌+◌, ◌<◌, ◌≤◌, true, false, cond, List, [], ◌∷◌, map, length, get_or, set, Contains, refl, ap, sym, ◌∙◌, subst, inl, inr, arith}
use Rattle.std.specs.List.{AllByRecursion, insert}
use Rattle.std.specs.Ordering.{is_lt}
use Rattle.std.proofs.lemmas.Bool.{cases_eq}
use Rattle.std.proofs.lemmas.List.{get_or-set_same, get_or-set_other, length-set, get_or-map, get_or_default}
use Rattle.std.proofs.lemmas.List.Elements.{Contains-append_left, Contains-append_right, Contains-get_or}
use Rattle.ndx_index.specs.declared.pair.Pair.{Pair}
use Rattle.ndx_index.specs.declared.pages.free.FreeList.{FreeList}
use Rattle.ndx_index.specs.Order.{before, with_pair, AreInOrder}
use Rattle.ndx_index.specs.Laws.Comparing.{before_is, before_other}
use Rattle.ndx_index.specs.Laws.Sorting.{not_after}
use Rattle.ndx_index.specs.Slots.{slot_at, no_pair}
use Rattle.ndx_index.specs.PageStore.{Page, page_in, no_page}
use Rattle.ndx_index.specs.IndexTree.{pairs_under, joined, total, here, uses, uses_both, IsTree, Parted}
use Rattle.ndx_index.specs.TreeSteps.{Chosen, IsChildFor, IsSubtreeApart, CanInsert, Inserts, ChildWithRoom}
use Rattle.ndx_index.proofs.TreeFrame.{framed, Framed, here_itself}
use Rattle.ndx_index.proofs.Keeping.{keeps_then, list_framed}
use Rattle.ndx_index.proofs.Order.{with_pair_at}
use Rattle.ndx_index.proofs.Parting.{put_in, puts_in_one}
use Rattle.ndx_index.proofs.TreeLists.{all_at, all_from, child_order, map_same, none_empty, total_at, total_same, total_two}

pub here_other : (p r : ℕ) → here p r ≡ 0 → r ≡ p → ⊥
here_other p r h e = omega (arith, here_itself p, subst (λ x. here p x ≡ 0) e h)

-- ---- sums over children

-- the sum where one child's part changed
pub total_one : (f g : ℕ → ℕ) (xs : List ℕ) (i : ℕ) → i < length xs → ((j : ℕ) → j < length xs → (j ≡ i → ⊥) → g (get_or xs j 0) ≡ f (get_or xs j 0)) → total g xs + f (get_or xs i 0) ≡ total f xs + g (get_or xs i 0)
total_one f g [] i lt same = absurd (omega arith)
total_one f g (x ∷ xs) zero lt same = let h = total_same f g xs (λ j l. same (suc j) (omega arith) (λ e. omega arith)) in omega (arith, h)
total_one f g (x ∷ xs) (suc i) lt same =
    let h = total_one f g xs i (omega arith) (λ j l ne. same (suc j) (omega arith) (λ e. ne (omega arith))) in
    omega (arith, h, same 0 (omega arith) (λ e. omega arith))

pub map_one : {X : Type 0} (f g : ℕ → X) (xs : List ℕ) (i : ℕ) → i < length xs → ((j : ℕ) → j < length xs → (j ≡ i → ⊥) → g (get_or xs j 0) ≡ f (get_or xs j 0)) → map g xs ≡ set (map f xs) i (g (get_or xs i 0))
map_one f g [] i lt same = absurd (omega arith)
map_one f g (x ∷ xs) zero lt same = ap (λ ys. g x ∷ ys) (map_same f g xs (λ j l. same (suc j) (omega arith) (λ e. omega arith)))
map_one f g (x ∷ xs) (suc i) lt same = rw (same 0 (omega arith) (λ e. omega arith), map_one f g xs i (omega arith) (λ j l ne. same (suc j) (omega arith) (λ e. ne (omega arith)))) refl

-- ---- the pairs of one child among all
pub child_contains : (f : ℕ → List Pair) (xs : List ℕ) (i : ℕ) (p : Pair) → i < length xs → Contains (f (get_or xs i 0)) p → Contains (joined (map f xs)) p
child_contains f [] i p lt h = absurd (omega arith)
child_contains f (x ∷ xs) zero p lt h = Contains-append_left (f x) (joined (map f xs)) p h
child_contains f (x ∷ xs) (suc i) p lt h = Contains-append_right (f x) (joined (map f xs)) p (child_contains f xs i p (omega arith) h)

-- ---- a leaf
with_pair_some : (pair : Pair) (ps : List Pair) → 0 < length (with_pair pair ps)
with_pair_some pair [] = omega arith
with_pair_some pair (q ∷ qs) = elim (before q pair) as (λ b. 0 < length (cond b (q ∷ with_pair pair qs) (pair ∷ q ∷ qs))) [ true ↦ omega arith | false ↦ omega arith ]

-- where a bisection found the first pair above the new one
pub with_pair_above : (pair : Pair) (ps : List Pair) (i : ℕ) → i ≤ length ps → (Contains ps pair → ⊥) → ((k : ℕ) → k < i → before pair (slot_at ps k) ≡ false) → ((k : ℕ) → i ≤ k → k < length ps → before pair (slot_at ps k) ≡ true) → insert ps i pair ≡ with_pair pair ps
with_pair_above pair ps i le absent low high = with_pair_at pair ps i
    (λ k d lt. let there : k < length ps = omega (arith, le, lt) in
    ap is_lt (before_other pair (get_or ps k d) (ap (before pair) (get_or_default ps k d no_pair there) ∙ low k lt) (λ e. absent (subst (λ x. Contains ps x) (sym e) (Contains-get_or ps k d there)))))
    (λ d lt. not_after pair (get_or ps i d) (before_is pair (get_or ps i d) (ap (before pair) (get_or_default ps i d no_pair lt) ∙ high i (omega arith) lt)))
    le

pub insert_leaf : (a b : List Page) (f : FreeList) (p : ℕ) (pair : Pair) (g : Page) → CanInsert 0 a f p pair → b ≡ set a p g → g.pairs ≡ with_pair pair (page_in a p).pairs → Inserts 0 a b f f p pair
insert_leaf a b f p pair g can e is =
    let at : page_in b p ≡ g = rw e (get_or-set_same a p g no_page can.whole.tree.0) in
    let pairs : (page_in b p).pairs ≡ with_pair pair (page_in a p).pairs = rw at is in
    let n : length b ≡ length a = rw e (length-set a p g) in
    let other : (r : ℕ) → here p r ≡ 0 → page_in b r ≡ page_in a r = λ r h. rw e (get_or-set_other a p r g no_page (here_other p r h)) in
    let free = list_framed a b f can.whole.list n (λ r h. other r (omega (arith, h, can.whole.apart r))) in
    record {
      pairs = pairs;
      keeps = record {
        tree = (rw n can.whole.tree.0, rw pairs (with_pair_some pair (page_in a p).pairs));
        list = free.free;
        uses_stay = λ r. ap (λ k. here p r + k) (free.uses_stay r);
        frame = λ r h. other r (omega (arith, h));
        same_length = n;
      };
    }

-- ---- an inner page
pub can_insert_below : (d : ℕ) (a b : List Page) (f g : FreeList) (p : ℕ) (pair : Pair) (c : ℕ) → CanInsert (suc d) a f p pair → ChildWithRoom d a b f g p pair c → CanInsert d b g c pair
can_insert_below d a b f g p pair c can made =
    let links = (page_in b p).links in
    let child = made.child in
    let is : get_or links child.place 0 ≡ c = child.there.is in
    let under = λ (x : ℕ). pairs_under d b x in
    let order : AreInOrder (pairs_under (suc d) b p) = subst AreInOrder (sym made.pairs) can.whole.order in
    let absent : Contains (pairs_under (suc d) b p) pair → ⊥ = λ h. can.absent (subst (λ xs. Contains xs pair) made.pairs h) in
    record {
      whole = subst (λ x. IsSubtreeApart d b g x) is (record {
        tree = all_at (λ x. IsTree d b x) links child.place child.there.in_range made.keeps.tree.3;
        order = child_order under links child.place child.there.in_range order;
        list = made.keeps.list;
        apart = λ r. omega (arith, can.whole.apart r, made.keeps.uses_stay r, total_at (λ x. uses d b x r) links child.place child.there.in_range);
      });
      room = made.room;
      enough = omega (arith, can.enough, made.enough);
      absent = λ h. absent (child_contains under links child.place pair child.there.in_range (subst (λ x. Contains (under x) pair) (sym is) h));
    }

pub insert_above : (d : ℕ) (a b : List Page) (f g : FreeList) (p : ℕ) (pair : Pair) (c : ℕ) → IsTree (suc d) a p → ((r : ℕ) → uses_both (suc d) a f p r ≤ 1) → IsChildFor pair (page_in a p) c → Inserts d a b f g c pair → Inserts (suc d) a b f g p pair
insert_above d a b f g p pair c tree apart child done =
    let links = (page_in a p).links in
    let keys = (page_in a p).pairs in
    let i = child.place in
    let is : get_or links i 0 ≡ c = child.there.is in
    let in_c : (r : ℕ) → uses d a c r ≤ total (λ y. uses d a y r) links = λ r. subst (λ x. uses d a x r ≤ total (λ y. uses d a y r) links) is (total_at (λ x. uses d a x r) links i child.there.in_range) in
    let here_same : page_in b p ≡ page_in a p = done.keeps.frame p (omega (arith, apart p, in_c p, here_itself p)) in
    let other : (j : ℕ) → j < length links → (j ≡ i → ⊥) → Framed d a b (get_or links j 0) = λ j lt ne. framed d a b (get_or links j 0) (λ r u. done.keeps.frame r (
    omega (arith, u, apart r, subst (λ x. uses d a (get_or links j 0) r + uses d a x r ≤ total (λ y. uses d a y r) links) is (total_two (λ x. uses d a x r) links j i lt child.there.in_range ne)))) in
    let puts = puts_in_one pair i (map (λ x. pairs_under d a x) links) keys tree.1 (none_empty d a links tree.3) child.there.chosen in
    let at_i : get_or (map (λ x. pairs_under d a x) links) i [] ≡ pairs_under d a c = get_or-map (λ x. pairs_under d a x) links i 0 [] child.there.in_range ∙ ap (λ x. pairs_under d a x) is in
    let new_i : pairs_under d b (get_or links i 0) ≡ with_pair pair (get_or (map (λ x. pairs_under d a x) links) i []) = ap (λ x. pairs_under d b x) is ∙ done.pairs ∙ ap (with_pair pair) (sym at_i) in
    let maps : map (λ x. pairs_under d b x) links ≡ put_in pair i (map (λ x. pairs_under d a x) links) =
    map_one (λ x. pairs_under d a x) (λ x. pairs_under d b x) links i child.there.in_range (λ j lt ne. (other j lt ne).pairs) ∙ ap (λ x. set (map (λ y. pairs_under d a y) links) i x) new_i in
    let sums : (r : ℕ) → total (λ x. uses d b x r) links + uses d a c r ≡ total (λ x. uses d a x r) links + uses d b c r = λ r.
    subst (λ z. total (λ x. uses d b x r) links + uses d a z r ≡ total (λ x. uses d a x r) links + uses d b z r) is (total_one (λ x. uses d a x r) (λ x. uses d b x r) links i child.there.in_range (λ j lt ne. (other j lt ne).uses_stay r)) in
    let above : (r : ℕ) → uses (suc d) b p r ≡ here p r + total (λ x. uses d b x r) links = λ r. ap (λ (g : Page). here p r + total (λ x. uses d b x r) g.links) here_same in
    let tree_each : (j : ℕ) → j < length links → IsTree d b (get_or links j 0) = λ j lt. elim (cases_eq j i) [
      | inl e ↦ subst (λ k. IsTree d b (get_or links k 0)) (sym e) (subst (λ x. IsTree d b x) (sym is) done.keeps.tree)
      | inr ne ↦ (other j lt ne).tree (omega (arith, done.keeps.same_length)) (all_at (λ x. IsTree d a x) links j lt tree.3)
    ] in
    record {
      pairs = ap (λ (g : Page). joined (map (λ x. pairs_under d b x) g.links)) here_same ∙ ap joined maps ∙ puts.pairs;
      keeps = record {
        tree = (
          omega (arith, tree.0, done.keeps.same_length),
          subst (λ (g : Page). Parted (map (λ x. pairs_under d b x) g.links) g.pairs) (sym here_same) (subst (λ pss. Parted pss keys) (sym maps) puts.parted),
          subst (λ (g : Page). AreInOrder g.pairs) (sym here_same) tree.2,
          subst (λ (g : Page). AllByRecursion (λ x. IsTree d b x) g.links) (sym here_same) (all_from (λ x. IsTree d b x) links tree_each),
        );
        list = done.keeps.list;
        uses_stay = λ r. omega (arith, above r, sums r, done.keeps.uses_stay r);
        frame = λ r h. done.keeps.frame r (omega (arith, h, in_c r));
        same_length = done.keeps.same_length;
      };
    }

-- the child had room, or was split first
pub insert_below : (d : ℕ) (a b e : List Page) (f g h : FreeList) (p : ℕ) (pair : Pair) (c : ℕ) → CanInsert (suc d) a f p pair → ChildWithRoom d a b f g p pair c → Inserts d b e g h c pair → Inserts (suc d) a e f h p pair
insert_below d a b e f g h p pair c can made done =
    let above = insert_above d b e g h p pair c made.keeps.tree (λ r. omega (arith, made.keeps.uses_stay r, can.whole.apart r)) made.child done in
    record {
      pairs = above.pairs ∙ ap (with_pair pair) made.pairs;
      keeps = keeps_then (suc d) a b e f g h p made.keeps above.keeps;
    }

-- ---- for the goals of the code
pub chosen_at : (p : Pair) (i : ℕ) (ks : List Pair) → i ≤ length ks → ((k : ℕ) (d : Pair) → k < i → before p (get_or ks k d) ≡ false) → ((d : Pair) → i < length ks → before p (get_or ks i d) ≡ true) → Chosen p i ks
chosen_at p zero [] le low here = tt
chosen_at p (suc i) [] le low here = absurd (omega arith)
chosen_at p zero (k ∷ ks) le low here = here k (omega arith)
chosen_at p (suc i) (k ∷ ks) le low here = (low 0 k (omega arith), chosen_at p i ks (omega arith) (λ j d lt. low (suc j) d (omega arith)) (λ d lt. here d (omega arith)))
