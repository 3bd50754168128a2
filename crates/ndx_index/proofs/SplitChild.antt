-- A full child below a page is split.
use Rattle.std.proofs.Common.{◌≡◌, ℕ, zero, suc, ◌+◌, ◌-◌, ◌<◌, ◌≤◌, true, false, List, [], ◌∷◌, ◌++◌, map, length, get_or, set, refl, ap, sym, ◌∙◌, subst, inl, inr, arith}
use Rattle.std.specs.List.{AllByRecursion, insert}
use Rattle.std.proofs.lemmas.Bool.{cases_eq, cases_lt}
use Rattle.std.proofs.lemmas.List.{set-set, get_or-set_same, get_or-set_other, length-set, get_or-map, length-map}
use Rattle.ndx_index.specs.declared.pair.Pair.{Pair}
use Rattle.ndx_index.specs.declared.pages.free.FreeList.{FreeList}
use Rattle.ndx_index.specs.Order.{before, AreInOrder}
use Rattle.ndx_index.specs.Slots.{slot_at, no_pair}
use Rattle.ndx_index.specs.PageStore.{Page, page_in, no_page, with_pairs, with_links}
use Rattle.ndx_index.specs.IndexTree.{pairs_under, joined, total, here, uses, uses_free, IsTree, IsFreeList, Parted, width}
use Rattle.ndx_index.specs.TreeSteps.{Chosen, CanHalve, Halves, CanSplit, Splits, CanInsert, ChildWithRoom, IsChildAt}
use Rattle.ndx_index.proofs.TreeFrame.{here_itself, agrees_itself, framed, Framed}
use Rattle.ndx_index.proofs.TreeLists.{total_at, total_two, child_order, all_at, all_from, links_length, tree_some}
use Rattle.ndx_index.proofs.TreeInsert.{here_other, total_one}
use Rattle.ndx_index.proofs.ChildPlace.{one_up}
use Rattle.ndx_index.proofs.Splitting.{two, key_in, key_in_is, cuts_one, map_two, total_insert}
use Rattle.ndx_index.proofs.Keeping.{Took, took, keeps_itself, list_framed}

all_insert : (P : ℕ → Type 0) (xs : List ℕ) (n q : ℕ) → P q → AllByRecursion P xs → AllByRecursion P (insert xs n q)
all_insert P xs zero q h all = (h, all)
all_insert P [] (suc n) q h all = (h, tt)
all_insert P (x ∷ xs) (suc n) q h all = (all.0, all_insert P xs n q h all.1)

pub inserted_at : {X : Type 0} (xs : List X) (i : ℕ) (m d : X) → i ≤ length xs → get_or (insert xs i m) i d ≡ m
inserted_at xs zero m d le = refl
inserted_at [] (suc i) m d le = absurd (omega arith)
inserted_at (x ∷ xs) (suc i) m d le = inserted_at xs i m d (omega arith)

pub inserted_after : (xs : List ℕ) (i q : ℕ) → i < length xs → get_or (insert xs (suc i) q) i 0 ≡ get_or xs i 0
inserted_after [] i q lt = absurd (omega arith)
inserted_after (x ∷ xs) zero q lt = refl
inserted_after (x ∷ xs) (suc i) q lt = inserted_after xs i q (omega arith)

pub length_insert : {X : Type 0} (xs : List X) (i : ℕ) (m : X) → length (insert xs i m) ≡ length xs + 1
length_insert xs zero m = omega arith
length_insert [] (suc i) m = refl
length_insert (x ∷ xs) (suc i) m = let h = length_insert xs i m in omega (arith, h)

-- the child at the i-th link of p is full, and q is an empty page beside the tree
pub record Ready (d : ℕ) (a0 : List Page) (g : FreeList) (p i q c : ℕ) : Type 0 where
  pub tree : IsTree (suc d) a0 p
  pub order : AreInOrder (pairs_under (suc d) a0 p)
  pub list : IsFreeList a0 g
  pub apart : (r : ℕ) → uses (suc d) a0 p r + here q r + uses_free a0 g r ≤ 1
  pub there : q < length a0
  pub in_range : i < length (page_in a0 p).links
  pub is : get_or (page_in a0 p).links i 0 ≡ c

pub record Done (d : ℕ) (a0 b : List Page) (g : FreeList) (p i q : ℕ) (m : Pair) : Type 0 where
  pub pairs : pairs_under (suc d) b p ≡ pairs_under (suc d) a0 p
  pub tree : IsTree (suc d) b p
  pub list : IsFreeList b g
  pub free_stay : (r : ℕ) → uses_free b g r ≡ uses_free a0 g r
  pub uses_more : (r : ℕ) → uses (suc d) b p r ≡ uses (suc d) a0 p r + here q r
  pub frame : (r : ℕ) → uses (suc d) a0 p r + here q r ≡ 0 → page_in b r ≡ page_in a0 r
  pub same_length : length b ≡ length a0
  pub keys : (page_in b p).pairs ≡ insert (page_in a0 p).pairs i m
  pub links : (page_in b p).links ≡ insert (page_in a0 p).links (suc i) q

pub splits : (d : ℕ) (a0 a1 b : List Page) (g : FreeList) (p i q c : ℕ) (m : Pair) (x : Page) → Ready d a0 g p i q c → Halves d a0 a1 c q m → b ≡ set a1 p x → x.pairs ≡ insert (page_in a0 p).pairs i m → x.links ≡ insert (page_in a0 p).links (suc i) q → Done d a0 b g p i q m
splits d a0 a1 b g p i q c m x ready halved written keys_are links_are =
    let links = (page_in a0 p).links in
    let keys = (page_in a0 p).pairs in
    let fa = λ (y : ℕ). pairs_under d a0 y in
    let fb = λ (y : ℕ). pairs_under d b y in
    let in_c : (r : ℕ) → uses d a0 c r ≤ total (λ y. uses d a0 y r) links = λ r. subst (λ z. uses d a0 z r ≤ total (λ y. uses d a0 y r) links) ready.is (total_at (λ y. uses d a0 y r) links i ready.in_range) in
    let c_itself : (r : ℕ) → r ≡ c → 0 < uses d a0 c r = λ r e. subst (λ z. 0 < uses d a0 c z) (sym e) (agrees_itself d a0 c) in
    let q_itself : (r : ℕ) → r ≡ q → 0 < here q r = λ r e. subst (λ z. 0 < here q z) (sym e) (omega (arith, here_itself q)) in
    let p_itself : (r : ℕ) → r ≡ p → 0 < here p r = λ r e. subst (λ z. 0 < here p z) (sym e) (omega (arith, here_itself p)) in
    let n1 : length a1 ≡ length a0 = halved.same_length in
    let nb : length b ≡ length a0 = rw written (length-set a1 p x ∙ n1) in
    let at_p : page_in b p ≡ x = rw written (get_or-set_same a1 p x no_page (omega (arith, ready.tree.0, n1))) in
    let at_other : (r : ℕ) → (r ≡ p → ⊥) → page_in b r ≡ page_in a1 r = λ r ne. rw written (get_or-set_other a1 p r x no_page ne) in
    let at_rest : (r : ℕ) → here p r ≡ 0 → uses d a0 c r ≡ 0 → here q r ≡ 0 → page_in b r ≡ page_in a0 r = λ r hp hc hq.
    at_other r (here_other p r hp) ∙ halved.frame r (λ e. omega (arith, hc, c_itself r e)) (here_other q r hq) in
    let child_c : Framed d a1 b c = framed d a1 b c (λ r u. at_other r (λ e. omega (arith, u, p_itself r e, halved.uses_stay r, in_c r, ready.apart r))) in
    let child_q : Framed d a1 b q = framed d a1 b q (λ r u. at_other r (λ e. omega (arith, u, p_itself r e, halved.uses_stay r, in_c r, ready.apart r))) in
    let sibling : (j : ℕ) → j < length links → (j ≡ i → ⊥) → Framed d a0 b (get_or links j 0) = λ j lt ne.
    let y = get_or links j 0 in
    let both : (r : ℕ) → uses d a0 y r + uses d a0 c r ≤ total (λ k. uses d a0 k r) links = λ r. subst (λ z. uses d a0 y r + uses d a0 z r ≤ total (λ k. uses d a0 k r) links) ready.is (total_two (λ k. uses d a0 k r) links j i lt ready.in_range ne) in
    framed d a0 b y (λ r u. at_rest r (omega (arith, u, both r, ready.apart r)) (omega (arith, u, both r, ready.apart r)) (omega (arith, u, both r, ready.apart r))) in
    let tree_c : IsTree d b c = child_c.tree (omega (arith, n1, nb)) halved.lower_tree in
    let tree_q : IsTree d b q = child_q.tree (omega (arith, n1, nb)) halved.upper_tree in
    let cut : fb c ++ fb q ≡ fa c = ap (λ ys. ys ++ fb q) child_c.pairs ∙ ap (λ ys. pairs_under d a1 c ++ ys) child_q.pairs ∙ halved.pairs in
    let n : length (map fa links) ≡ length links = length-map links fa in
    let bef = subst (λ ys. AllByRecursion (λ k. before k m ≡ true) ys) (sym child_c.pairs) halved.below in
    let from = subst (λ ys. AllByRecursion (λ k. before k m ≡ false) ys) (sym child_q.pairs) halved.from in
    let cuts = cuts_one (fb c) (fb q) m (tree_some d b c tree_c) (tree_some d b q tree_q) bef from i (map fa links) keys ready.tree.1 ready.tree.2 (omega (arith, n, ready.in_range)) (cut ∙ ap fa (sym ready.is) ∙ sym (get_or-map fa links i 0 [] ready.in_range)) in
    let maps : map fb (insert links (suc i) q) ≡ two i (fb c) (fb q) (map fa links) = map_two fa fb links i q ready.in_range (λ j lt ne. (sibling j lt ne).pairs) ∙ ap (λ y. two i (fb y) (fb q) (map fa links)) ready.is in
    let key_le : i ≤ length keys = omega (arith, ready.in_range, links_length d a0 p ready.tree) in
    let keys_new : x.pairs ≡ key_in i m keys = keys_are ∙ key_in_is i m keys key_le in
    let child_tree : (j : ℕ) → j < length links → IsTree d b (get_or links j 0) = λ j lt.
    elim (cases_eq j i) [
      | inl e ↦ subst (λ k. IsTree d b (get_or links k 0)) (sym e) (subst (λ y. IsTree d b y) (sym ready.is) tree_c)
      | inr ne ↦ (sibling j lt ne).tree (omega (arith, nb)) (all_at (λ y. IsTree d a0 y) links j lt ready.tree.3)
    ] in
    let sums : (r : ℕ) → total (λ y. uses d b y r) links + uses d a0 c r ≡ total (λ y. uses d a0 y r) links + uses d b c r = λ r.
    subst (λ z. total (λ y. uses d b y r) links + uses d a0 z r ≡ total (λ y. uses d a0 y r) links + uses d b z r) ready.is (total_one (λ y. uses d a0 y r) (λ y. uses d b y r) links i ready.in_range (λ j lt ne. (sibling j lt ne).uses_stay r)) in
    let above : (r : ℕ) → uses (suc d) b p r ≡ here p r + total (λ y. uses d b y r) (insert links (suc i) q) = λ r. ap (λ (h : Page). here p r + total (λ y. uses d b y r) h.links) at_p ∙ ap (λ ys. here p r + total (λ y. uses d b y r) ys) links_are in
    let outside : (r : ℕ) → uses (suc d) a0 p r + here q r ≡ 0 → page_in b r ≡ page_in a0 r = λ r h. at_rest r (omega (arith, h)) (omega (arith, h, in_c r)) (omega (arith, h)) in
    let free = list_framed a0 b g ready.list nb (λ r h. outside r (omega (arith, h, ready.apart r))) in
    record {
      pairs = ap (λ (h : Page). joined (map fb h.links)) at_p ∙ ap (λ ys. joined (map fb ys)) links_are ∙ ap joined maps ∙ cuts.pairs;
      tree = (
        omega (arith, ready.tree.0, nb),
        subst (λ (h : Page). Parted (map fb h.links) h.pairs) (sym at_p) (subst (λ ys. Parted (map fb ys) x.pairs) (sym links_are) (subst (λ pss. Parted pss x.pairs) (sym maps) (subst (λ ks. Parted (two i (fb c) (fb q) (map fa links)) ks) (sym keys_new) cuts.parted))),
        subst (λ (h : Page). AreInOrder h.pairs) (sym at_p) (subst AreInOrder (sym keys_new) cuts.order),
        subst (λ (h : Page). AllByRecursion (λ y. IsTree d b y) h.links) (sym at_p) (subst (λ ys. AllByRecursion (λ y. IsTree d b y) ys) (sym links_are) (all_insert (λ y. IsTree d b y) links (suc i) q tree_q (all_from (λ y. IsTree d b y) links child_tree))),
      );
      list = free.free;
      free_stay = free.uses_stay;
      uses_more = λ r. omega (arith, above r, total_insert (λ y. uses d b y r) links (suc i) q, sums r, child_c.uses_stay r, child_q.uses_stay r, halved.uses_stay r);
      frame = outside;
      same_length = nb;
      keys = ap (λ (h : Page). h.pairs) at_p ∙ keys_are;
      links = ap (λ (h : Page). h.links) at_p ∙ links_are;
    }

-- ---- for the goals of the code
-- page q is taken for the upper half
abbrev pub Takes : List Page → List Page → FreeList → FreeList → ℕ → Type 0
Takes a b f g q = (q < length a) × (b ≡ set a q no_page) × IsFreeList b g × ((r : ℕ) → here q r + uses_free b g r ≡ uses_free a f r)

took_for : (d : ℕ) (a b : List Page) (f g : FreeList) (p i q : ℕ) → CanSplit d a f p i → Takes a b f g q → Took (suc d) a b f g p q
took_for d a b f g p i q can takes = took (suc d) a b f g p q can.whole.tree can.whole.apart takes.0 takes.1 takes.2 takes.3

pub parent_stays : (d : ℕ) (a b : List Page) (f g : FreeList) (p i q : ℕ) → CanSplit d a f p i → Takes a b f g q → page_in b p ≡ page_in a p
parent_stays d a b f g p i q can takes =
    let t = took_for d a b f g p i q can takes in
    t.frame p (λ e. omega (arith, t.apart p, t.uses_stay p, here_itself p, subst (λ x. here q x ≡ 1) (sym e) (here_itself q)))

pub ready : (d : ℕ) (a b : List Page) (f g : FreeList) (p i q c : ℕ) → CanSplit d a f p i → Takes a b f g q → get_or (page_in a p).links i 0 ≡ c → Ready d b g p i q c
ready d a b f g p i q c can takes is =
    let t = took_for d a b f g p i q can takes in
    let same = parent_stays d a b f g p i q can takes in
    record {
      tree = t.tree;
      order = subst AreInOrder (sym t.pairs) can.whole.order;
      list = t.list;
      apart = t.apart;
      there = t.there;
      in_range = subst (λ (h : Page). i < length h.links) (sym same) can.in_range;
      is = ap (λ (h : Page). get_or h.links i 0) same ∙ is;
    }

pub can_halve : (d : ℕ) (a b : List Page) (f g : FreeList) (p i q c : ℕ) → CanSplit d a f p i → Takes a b f g q → get_or (page_in a p).links i 0 ≡ c → CanHalve d b c q
can_halve d a b f g p i q c can takes is =
    let t = took_for d a b f g p i q can takes in
    let r = ready d a b f g p i q c can takes is in
    let links = (page_in b p).links in
    let in_c : (k : ℕ) → uses d b c k ≤ total (λ y. uses d b y k) links = λ k. subst (λ z. uses d b z k ≤ total (λ y. uses d b y k) links) r.is (total_at (λ y. uses d b y k) links i r.in_range) in
    let same : page_in b c ≡ page_in a c = t.frame c (λ e. omega (arith, r.apart c, in_c c, agrees_itself d b c, subst (λ x. here q x ≡ 1) (sym e) (here_itself q))) in
    record {
      tree = subst (λ y. IsTree d b y) r.is (all_at (λ y. IsTree d b y) links i r.in_range r.tree.3);
      order = subst (λ y. AreInOrder (pairs_under d b y)) r.is (child_order (λ y. pairs_under d b y) links i r.in_range r.order);
      full = ap (λ (h : Page). width d h) same ∙ ap (λ y. width d (page_in a y)) (sym is) ∙ can.full;
      there = t.there;
      empty = t.empty;
      apart = λ k. omega (arith, r.apart k, in_c k);
    }

-- the parent isn't touched before it is written
pub parent_kept : (d : ℕ) (a0 a1 : List Page) (g : FreeList) (p i q c : ℕ) (m : Pair) → Ready d a0 g p i q c → Halves d a0 a1 c q m → page_in a1 p ≡ page_in a0 p
parent_kept d a0 a1 g p i q c m r halved =
    let links = (page_in a0 p).links in
    let in_c : (k : ℕ) → uses d a0 c k ≤ total (λ y. uses d a0 y k) links = λ k. subst (λ z. uses d a0 z k ≤ total (λ y. uses d a0 y k) links) r.is (total_at (λ y. uses d a0 y k) links i r.in_range) in
    halved.frame p
    (λ e. omega (arith, r.apart p, in_c p, here_itself p, subst (λ x. 0 < uses d a0 c x) (sym e) (agrees_itself d a0 c)))
    (λ e. omega (arith, r.apart p, here_itself p, subst (λ x. here q x ≡ 1) (sym e) (here_itself q)))

pub split : (d : ℕ) (a a0 a1 b : List Page) (f g : FreeList) (p i q c : ℕ) (m : Pair) (x : Page) → CanSplit d a f p i → Takes a a0 f g q → g.count + 1 ≡ f.count → get_or (page_in a p).links i 0 ≡ c → Halves d a0 a1 c q m → b ≡ set a1 p x → x.pairs ≡ insert (page_in a p).pairs i m → x.links ≡ insert (page_in a p).links (suc i) q → Splits d a b f g p i
split d a a0 a1 b f g p i q c m x can takes one is halved written keys_are links_are =
    let t = took_for d a a0 f g p i q can takes in
    let r = ready d a a0 f g p i q c can takes is in
    let same = parent_stays d a a0 f g p i q can takes in
    let same_keys = ap (λ (h : Page). insert h.pairs i m) (sym same) in
    let same_links = ap (λ (h : Page). insert h.links (suc i) q) (sym same) in
    let done = splits d a0 a1 b g p i q c m x r halved written (keys_are ∙ same_keys) (links_are ∙ same_links) in
    let links = (page_in a p).links in
    let new_links : (page_in b p).links ≡ insert links (suc i) q = done.links ∙ sym same_links in
    let new_keys : (page_in b p).pairs ≡ insert (page_in a p).pairs i m = done.keys ∙ sym same_keys in
    let key_le : i ≤ length (page_in a p).pairs = omega (arith, can.in_range, links_length d a p can.whole.tree) in
    let the_key : slot_at (page_in b p).pairs i ≡ m = ap (λ ks. get_or ks i no_pair) new_keys ∙ inserted_at (page_in a p).pairs i m no_pair key_le in
    let lower : get_or (page_in b p).links i 0 ≡ c = ap (λ ys. get_or ys i 0) new_links ∙ inserted_after links i q can.in_range ∙ is in
    let upper : get_or (page_in b p).links (suc i) 0 ≡ q = ap (λ ys. get_or ys (suc i) 0) new_links ∙ inserted_at links (suc i) q 0 can.in_range in
    let n : length b ≡ length a = done.same_length ∙ t.same_length in
    let in_c : (k : ℕ) → uses d a0 c k ≤ total (λ y. uses d a0 y k) (page_in a0 p).links = λ k. subst (λ z. uses d a0 z k ≤ total (λ y. uses d a0 y k) (page_in a0 p).links) r.is (total_at (λ y. uses d a0 y k) (page_in a0 p).links i r.in_range) in
    let p_itself : (r : ℕ) → r ≡ p → 0 < here p r = λ r e. subst (λ z. 0 < here p z) (sym e) (omega (arith, here_itself p)) in
    let at_other : (r : ℕ) → (r ≡ p → ⊥) → page_in b r ≡ page_in a1 r = λ r ne. rw written (get_or-set_other a1 p r x no_page ne) in
    let at_c : page_in b c ≡ page_in a1 c = at_other c (λ e. omega (arith, p_itself c e, r.apart c, in_c c, agrees_itself d a0 c)) in
    let at_q : page_in b q ≡ page_in a1 q = at_other q (λ e. omega (arith, p_itself q e, r.apart q, here_itself q)) in
    record {
      pairs = done.pairs ∙ t.pairs;
      keeps = record {
        tree = done.tree;
        list = done.list;
        uses_stay = λ k. omega (arith, done.uses_more k, done.free_stay k, t.uses_stay k, t.both k);
        frame = λ k h. done.frame k (omega (arith, h, t.uses_stay k, t.both k)) ∙ t.frame k (here_other q k (omega (arith, h, t.both k)));
        same_length = n;
      };
      count = one;
      keys = new_keys ∙ ap (λ k. insert (page_in a p).pairs i k) (sym the_key);
      links = ap length new_links ∙ length_insert links (suc i) q;
      lower_room = subst (λ y. width d (page_in b y) < 16) (sym lower) (subst (λ (h : Page). width d h < 16) (sym at_c) halved.lower_room);
      upper_room = omega_next (subst (λ y. width d (page_in b y) < 16) (sym upper) (subst (λ (h : Page). width d h < 16) (sym at_q) halved.upper_room));
    }
  where
    omega_next : width d (page_in b (get_or (page_in b p).links (suc i) 0)) < 16 → width d (page_in b (get_or (page_in b p).links (i + 1) 0)) < 16
    omega_next h = subst (λ k. width d (page_in b (get_or (page_in b p).links k 0)) < 16) (omega arith) h

-- the parent is as it was when the halves are made
pub parent_at : (d : ℕ) (a a0 a1 : List Page) (f g : FreeList) (p i q c : ℕ) (m : Pair) → CanSplit d a f p i → Takes a a0 f g q → get_or (page_in a p).links i 0 ≡ c → Halves d a0 a1 c q m → page_in a1 p ≡ page_in a p
parent_at d a a0 a1 f g p i q c m can takes is halved = parent_kept d a0 a1 g p i q c m (ready d a a0 f g p i q c can takes is) halved ∙ parent_stays d a a0 f g p i q can takes

-- a key leaves the links
pub parent_links : (a1 b1 : List Page) (p i : ℕ) (m : Pair) → p < length a1 → b1 ≡ set a1 p (with_pairs (insert (page_in a1 p).pairs i m) (page_in a1 p)) → (page_in b1 p).links ≡ (page_in a1 p).links
parent_links a1 b1 p i m lt first =
    let y : Page = with_pairs (insert (page_in a1 p).pairs i m) (page_in a1 p) in
    let at1 : page_in b1 p ≡ y = rw first (get_or-set_same a1 p y no_page lt) in
    ap (λ (h : Page). h.links) at1

-- the parent got a key, and then a link
pub split_written : (d : ℕ) (a a0 a1 b1 b : List Page) (f g : FreeList) (p i q c : ℕ) (m : Pair) → CanSplit d a f p i → Takes a a0 f g q → g.count + 1 ≡ f.count → get_or (page_in a p).links i 0 ≡ c → Halves d a0 a1 c q m
    → b1 ≡ set a1 p (with_pairs (insert (page_in a1 p).pairs i m) (page_in a1 p)) → b ≡ set b1 p (with_links (insert (page_in b1 p).links (i + 1) q) (page_in b1 p)) → Splits d a b f g p i
split_written d a a0 a1 b1 b f g p i q c m can takes one is halved first second =
    let y : Page = with_pairs (insert (page_in a1 p).pairs i m) (page_in a1 p) in
    let x : Page = with_links (insert (page_in b1 p).links (i + 1) q) (page_in b1 p) in
    let same = parent_at d a a0 a1 f g p i q c m can takes is halved in
    let t = took_for d a a0 f g p i q can takes in
    let at1 : page_in b1 p ≡ y = rw first (get_or-set_same a1 p y no_page (omega (arith, can.whole.tree.0, halved.same_length, t.same_length))) in
    let links1 : (page_in b1 p).links ≡ (page_in a p).links = ap (λ (h : Page). h.links) at1 ∙ ap (λ (h : Page). h.links) same in
    let pairs1 : (page_in b1 p).pairs ≡ insert (page_in a p).pairs i m = ap (λ (h : Page). h.pairs) at1 ∙ ap (λ (h : Page). insert h.pairs i m) same in
    let next : i + 1 ≡ suc i = omega arith in
    split d a a0 a1 b f g p i q c m x can takes one is halved (second ∙ ap (λ z. set z p x) first ∙ set-set a1 p y x) pairs1 (ap (λ ls. insert ls (i + 1) q) links1 ∙ ap (λ k. insert (page_in a p).links k q) next)

-- ---- the half for a pair
pub chosen_low : (p m : Pair) (i : ℕ) (ks : List Pair) → Chosen p i ks → before p m ≡ true → Chosen p i (insert ks i m)
chosen_low p m zero ks h low = low
chosen_low p m (suc i) [] h low = absurd h
chosen_low p m (suc i) (k ∷ ks) h low = (h.0, chosen_low p m i ks h.1 low)

pub chosen_high : (p m : Pair) (i : ℕ) (ks : List Pair) → Chosen p i ks → before p m ≡ false → Chosen p (suc i) (insert ks i m)
chosen_high p m zero ks h high = (high, h)
chosen_high p m (suc i) [] h high = absurd h
chosen_high p m (suc i) (k ∷ ks) h high = (h.0, chosen_high p m i ks h.1 high)

-- the child has room as it is
pub child_there : {level : ℕ} {a : List Page} {f : FreeList} {p i c : ℕ} {pair : Pair} → 0 < level → IsChildAt pair (page_in a p) i c → CanInsert level a f p pair → width (level - 1) (page_in a c) < 16
    → ChildWithRoom (level - 1) a a f f p pair c
child_there {level = level} {a = a} {f = f} {p = p} {i = i} inner child can room = record {
  pairs = refl;
  keeps = keeps_itself (suc (level - 1)) a f p (one_up inner can.whole);
  enough = omega arith;
  child = record { place = i; there = child };
  room = room;
}

-- the child has no room, and the page above it has
pub can_split : {level : ℕ} {a : List Page} {f : FreeList} {p i c : ℕ} {pair : Pair} → 0 < level → IsChildAt pair (page_in a p) i c → CanInsert level a f p pair
    → (width (level - 1) (page_in a c) < 16 → ⊥) → width (level - 1) (page_in a c) ≤ 16 → CanSplit (level - 1) a f p i
can_split {level = level} {a = a} {f = f} {p = p} {c = c} {pair = pair} inner child can no_room bounded =
    let d = level - 1 in
    let here : CanInsert (suc d) a f p pair = subst (λ n. CanInsert n a f p pair) (omega arith) can in
    let full : width d (page_in a c) ≡ 16 = elim (cases_lt (width d (page_in a c)) 16) [ inl less ↦ absurd (no_room less) | inr more ↦ omega (arith, more, bounded) ] in
    record {
      whole = here.whole;
      some = omega (arith, here.enough);
      in_range = child.in_range;
      room = here.room;
      full = subst (λ x. width d (page_in a x) ≡ 16) (sym child.is) full;
    }

-- the child is the lower half
pub child_lower : {d : ℕ} {a b : List Page} {f g : FreeList} {p i c e : ℕ} {pair : Pair} → Splits d a b f g p i → IsChildAt pair (page_in a p) i e → before pair (slot_at (page_in b p).pairs i) ≡ true
    → get_or (page_in b p).links i 0 ≡ c → ChildWithRoom d a b f g p pair c
child_lower {d = d} {a = a} {b = b} {p = p} {i = i} {pair = pair} split child low is = record {
  pairs = split.pairs;
  keeps = split.keeps;
  enough = omega (arith, split.count);
  child = record {
    place = i;
    there = record {
      in_range = omega (arith, split.links, child.in_range);
      is = is;
      chosen = subst (λ ks. Chosen pair i ks) (sym split.keys) (chosen_low pair (slot_at (page_in b p).pairs i) i (page_in a p).pairs child.chosen low);
    };
  };
  room = subst (λ x. width d (page_in b x) < 16) is split.lower_room;
}

-- the child is the upper half
pub child_upper : {d : ℕ} {a b : List Page} {f g : FreeList} {p i c e : ℕ} {pair : Pair} → Splits d a b f g p i → IsChildAt pair (page_in a p) i e → before pair (slot_at (page_in b p).pairs i) ≡ false
    → get_or (page_in b p).links (i + 1) 0 ≡ c → ChildWithRoom d a b f g p pair c
child_upper {d = d} {a = a} {b = b} {p = p} {i = i} {pair = pair} split child high is =
    let next : suc i ≡ i + 1 = omega arith in
    record {
      pairs = split.pairs;
      keeps = split.keeps;
      enough = omega (arith, split.count);
      child = record {
        place = i + 1;
        there = record {
          in_range = omega (arith, split.links, child.in_range);
          is = is;
          chosen = subst (λ k. Chosen pair k (page_in b p).pairs) next (subst (λ ks. Chosen pair (suc i) ks) (sym split.keys) (chosen_high pair (slot_at (page_in b p).pairs i) i (page_in a p).pairs child.chosen high));
        };
      };
      room = subst (λ x. width d (page_in b x) < 16) is split.upper_room;
    }
