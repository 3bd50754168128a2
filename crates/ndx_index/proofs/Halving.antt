-- A full page is cut in two.
use Rattle.std.proofs.Common.{◌≡◌, ℕ, zero, suc, ◌+◌, ◌<◌, ◌≤◌, true, false, List, [], ◌∷◌, ◌++◌, map, length, set, take, drop, refl, ap, sym, ◌∙◌, subst, append_assoc, arith}
use Rattle.std.specs.List.{AllByRecursion, remove}
use Rattle.std.specs.List.Sorted.{IsStrictlySortedBy}
use Rattle.std.specs.Ordering.{is_lt}
use Rattle.std.specs.declared.cmp.Ordering.TheVariants.{Less}
use Rattle.std.proofs.lemmas.List.{get_or-set_same, get_or-set_other, length-set, length-map, length-drop, length-take-le, get_or-take, take-append-drop, take-map}
use Rattle.ndx_index.specs.declared.pair.Pair.{Pair}
use Rattle.ndx_index.specs.Order.{pair_cmp, before, AreInOrder}
use Rattle.ndx_index.specs.Slots.{slot_at, no_pair}
use Rattle.ndx_index.specs.PageStore.{Page, page_in, no_page, with_pairs, with_links}
use Rattle.ndx_index.specs.IndexTree.{pairs_under, joined, total, here, uses, IsTree, Parted, AllBefore, AllFrom}
use Rattle.ndx_index.specs.TreeSteps.{CanHalve, Halves}
use Rattle.ndx_index.specs.Laws.Comparing.{irreflexive, before_is, before_trans}
use Rattle.ndx_index.proofs.TreeFrame.{here_itself, agrees_itself, framed}
use Rattle.ndx_index.proofs.TreeLists.{not_itself, parted_length}

-- ---- lists about one of their pairs

front_before : (m : Pair) (xs ys : List Pair) → AreInOrder (xs ++ m ∷ ys) → AllBefore m xs
unfolding IsStrictlySortedBy
front_before m [] ys s = tt
front_before m (x ∷ xs) ys s = (ap is_lt (all_less xs s.0), front_before m xs ys s.1)
  where
    all_less : (us : List Pair) → AllByRecursion (λ q. pair_cmp x q ≡ Less) (us ++ m ∷ ys) → pair_cmp x m ≡ Less
    all_less [] h = h.0
    all_less (u ∷ us) h = all_less us h.1

not_back : (m q : Pair) → pair_cmp m q ≡ Less → before q m ≡ false
not_back m q h = elim (before q m) as (λ t. before q m ≡ t → t ≡ false) [
  | true ↦ λ e. absurd (irreflexive m (before_trans m q m h (before_is q m e)))
  | false ↦ λ e. refl
] refl

from_all : (m : Pair) (ys : List Pair) → AllByRecursion (λ q. pair_cmp m q ≡ Less) ys → AllFrom m ys
from_all m [] h = tt
from_all m (y ∷ ys) h = (not_back m y h.0, from_all m ys h.1)

back_from : (m : Pair) (xs ys : List Pair) → AreInOrder (xs ++ m ∷ ys) → AllFrom m (m ∷ ys)
unfolding IsStrictlySortedBy
back_from m [] ys s = (not_itself m, from_all m ys s.0)
back_from m (x ∷ xs) ys s = back_from m xs ys s.1

-- the parts of a list in order, about the first of the second
record AreAbout (m : Pair) (us vs : List Pair) : Type 0 where
  pub below : AllBefore m us
  pub from : AllFrom m vs

about : (us vs : List Pair) → AreInOrder (us ++ vs) → 0 < length vs → AreAbout (slot_at vs 0) us vs
about us [] s some = absurd (omega arith)
about us (v ∷ vs) s some = record { below = front_before v us vs s; from = back_from v us vs s }

-- ---- lists that keys part, cut at a key

all_plus : (P : Pair → Type 0) (xs ys : List Pair) → AllByRecursion P xs → AllByRecursion P ys → AllByRecursion P (xs ++ ys)
all_plus P [] ys h k = k
all_plus P (x ∷ xs) ys h k = (h.0, all_plus P xs ys h.1 k)

-- what stands before a key stands before a later one
before_later : (k m : Pair) (qs : List Pair) → pair_cmp k m ≡ Less → AllBefore k qs → AllBefore m qs
before_later k m [] less all = tt
before_later k m (q ∷ qs) less all = (ap is_lt (before_trans q k m (before_is q k all.0) less), before_later k m qs less all.1)

-- what doesn't stand before a key doesn't stand before an earlier one
from_earlier : (m k : Pair) (qs : List Pair) → pair_cmp m k ≡ Less → AllFrom k qs → AllFrom m qs
from_earlier m k [] less all = tt
from_earlier m k (q ∷ qs) less all = (step q all.0, from_earlier m k qs less all.1)
  where
    step : (x : Pair) → before x k ≡ false → before x m ≡ false
    step x h = elim (before x m) as (λ t. before x m ≡ t → t ≡ false) [
      | true ↦ λ e. sym (ap is_lt (before_trans x m k (before_is x m e) less)) ∙ h
      | false ↦ λ e. refl
    ] refl

rest_from : (m : Pair) (qs : List Pair) (pss : List (List Pair)) (ks : List Pair) → AllFrom m qs → Parted (qs ∷ pss) ks → AllByRecursion (λ k. pair_cmp m k ≡ Less) ks → AllFrom m (joined (qs ∷ pss))
rest_from m qs [] ks all parted less = all_plus (λ q. before q m ≡ false) qs [] all tt
rest_from m qs (rs ∷ pss) [] all parted less = absurd parted
rest_from m qs (rs ∷ pss) (k ∷ ks) all parted less =
    all_plus (λ q. before q m ≡ false) qs (joined (rs ∷ pss)) all (rest_from m rs pss ks (from_earlier m k rs less.0 parted.1) parted.2 less.1)

less_at : (k : Pair) (ks : List Pair) (i : ℕ) → i < length ks → AllByRecursion (λ x. pair_cmp k x ≡ Less) ks → pair_cmp k (slot_at ks i) ≡ Less
less_at k [] i lt all = absurd (omega arith)
less_at k (x ∷ xs) zero lt all = all.0
less_at k (x ∷ xs) (suc i) lt all = less_at k xs i (omega arith) all.1

record IsCut (pss : List (List Pair)) (ks : List Pair) (i : ℕ) : Type 0 where
  pub lower : Parted (take (suc i) pss) (take i ks)
  pub upper : Parted (drop (suc i) pss) (drop (suc i) ks)
  pub below : AllBefore (slot_at ks i) (joined (take (suc i) pss))
  pub from : AllFrom (slot_at ks i) (joined (drop (suc i) pss))

cut_at : (pss : List (List Pair)) (ks : List Pair) (i : ℕ) → Parted pss ks → AreInOrder ks → i < length ks → IsCut pss ks i
unfolding IsStrictlySortedBy
cut_at [] ks i parted order lt = absurd parted
cut_at (ps ∷ []) [] i parted order lt = absurd (omega arith)
cut_at (ps ∷ []) (k ∷ ks) i parted order lt = absurd parted
cut_at (ps ∷ qs ∷ pss) [] i parted order lt = absurd parted
cut_at (ps ∷ qs ∷ pss) (k ∷ ks) zero parted order lt = record {
  lower = tt;
  upper = parted.2;
  below = all_plus (λ q. before q k ≡ true) ps [] parted.0 tt;
  from = rest_from k qs pss ks parted.1 parted.2 order.0;
}
cut_at (ps ∷ qs ∷ pss) (k ∷ ks) (suc i) parted order lt =
    let m = slot_at ks i in
    let rest = cut_at (qs ∷ pss) ks i parted.2 order.1 (omega arith) in
    record {
      lower = (parted.0, parted.1, rest.lower);
      upper = rest.upper;
      below = all_plus (λ q. before q m ≡ true) ps (joined (take (suc i) (qs ∷ pss))) (before_later k m ps (less_at k ks i (omega arith) order.0) parted.0) rest.below;
      from = rest.from;
    }

-- ---- parts of lists

all_take : {X : Type 0} (P : X → Type 0) (n : ℕ) (xs : List X) → AllByRecursion P xs → AllByRecursion P (take n xs)
all_take P zero xs all = tt
all_take P (suc n) [] all = tt
all_take P (suc n) (x ∷ xs) all = (all.0, all_take P n xs all.1)

all_drop : {X : Type 0} (P : X → Type 0) (n : ℕ) (xs : List X) → AllByRecursion P xs → AllByRecursion P (drop n xs)
all_drop P zero xs all = all
all_drop P (suc n) [] all = tt
all_drop P (suc n) (x ∷ xs) all = all_drop P n xs all.1

order_take : (n : ℕ) (ks : List Pair) → AreInOrder ks → AreInOrder (take n ks)
unfolding IsStrictlySortedBy
order_take zero ks s = tt
order_take (suc n) [] s = tt
order_take (suc n) (k ∷ ks) s = (all_take (λ x. pair_cmp k x ≡ Less) n ks s.0, order_take n ks s.1)

order_drop : (n : ℕ) (ks : List Pair) → AreInOrder ks → AreInOrder (drop n ks)
unfolding IsStrictlySortedBy
order_drop zero ks s = s
order_drop (suc n) [] s = tt
order_drop (suc n) (k ∷ ks) s = order_drop n ks s.1

map_drop : {X : Type 0} (f : ℕ → X) (n : ℕ) (xs : List ℕ) → map f (drop n xs) ≡ drop n (map f xs)
map_drop f zero xs = refl
map_drop f (suc n) [] = refl
map_drop f (suc n) (x ∷ xs) = map_drop f n xs

joined_parts : (n : ℕ) (pss : List (List Pair)) → joined (take n pss) ++ joined (drop n pss) ≡ joined pss
joined_parts zero pss = refl
joined_parts (suc n) [] = refl
joined_parts (suc n) (ps ∷ pss) = append_assoc ps (joined (take n pss)) (joined (drop n pss)) ∙ ap (λ qs. ps ++ qs) (joined_parts n pss)

total_parts : (f : ℕ → ℕ) (n : ℕ) (xs : List ℕ) → total f (take n xs) + total f (drop n xs) ≡ total f xs
total_parts f zero xs = omega arith
total_parts f (suc n) [] = refl
total_parts f (suc n) (x ∷ xs) = let rest = total_parts f n xs in omega (arith, rest)

drop_length : {X : Type 0} (n : ℕ) (xs : List X) → n ≤ length xs → length (drop n xs) + n ≡ length xs
drop_length n xs le = omega (arith, length-drop n xs)

-- the first n but for the last of them
take_remove : {X : Type 0} (n : ℕ) (xs : List X) → n < length xs → remove (take (suc n) xs) n ≡ take n xs
take_remove n [] lt = absurd (omega arith)
take_remove zero (x ∷ xs) lt = refl
take_remove (suc n) (x ∷ xs) lt = ap (λ ys. x ∷ ys) (take_remove n xs (omega arith))

-- ---- two pages of a store changed

pub record TwoChanged (a b : List Page) (c q : ℕ) (g h : Page) : Type 0 where
  pub at_c : page_in b c ≡ g
  pub at_q : page_in b q ≡ h
  pub others : (r : ℕ) → (r ≡ c → ⊥) → (r ≡ q → ⊥) → page_in b r ≡ page_in a r
  pub same_length : length b ≡ length a

pub two_changed : (a b : List Page) (c q : ℕ) (g h : Page) → c < length a → q < length a → (q ≡ c → ⊥) → b ≡ set (set a q h) c g → TwoChanged a b c q g h
two_changed a b c q g h there_c there_q ne e =
    let a1 = set a q h in
    let n1 : length a1 ≡ length a = length-set a q h in
    let page = λ (r : ℕ). ap (λ xs. page_in xs r) e in
    record {
      at_c = page c ∙ get_or-set_same a1 c g no_page (omega (arith, n1));
      at_q = page q ∙ get_or-set_other a1 c q g no_page ne ∙ get_or-set_same a q h no_page there_q;
      others = λ r nc nq. page r ∙ get_or-set_other a1 c r g no_page nc ∙ get_or-set_other a q r h no_page nq;
      same_length = ap length e ∙ length-set a1 c g ∙ n1;
    }

-- c and q are two pages
pub halve_apart : (d : ℕ) (a : List Page) (c q : ℕ) → CanHalve d a c q → q ≡ c → ⊥
halve_apart d a c q can e = omega (arith, can.apart c, agrees_itself d a c, subst (λ x. here x c ≡ 1) (sym e) (here_itself c))

-- ---- a leaf

pub halves_leaf : (a b : List Page) (c q : ℕ) (m : Pair) → CanHalve 0 a c q → TwoChanged a b c q (with_pairs (take 8 (page_in a c).pairs) (page_in a c)) (with_pairs (drop 8 (page_in a c).pairs) (page_in a q)) → m ≡ slot_at (page_in b q).pairs 0 → Halves 0 a b c q m
halves_leaf a b c q m can two is =
    let ps = (page_in a c).pairs in
    let us = take 8 ps in
    let vs = drop 8 ps in
    let full : length ps ≡ 16 = can.full in
    let at_c : (page_in b c).pairs ≡ us = ap (λ (g : Page). g.pairs) two.at_c in
    let at_q : (page_in b q).pairs ≡ vs = ap (λ (g : Page). g.pairs) two.at_q in
    let n_us : length us ≡ 8 = length-take-le 8 ps (omega (arith, full)) in
    let n_vs : length vs + 8 ≡ 16 = drop_length 8 ps (omega (arith, full)) ∙ full in
    let n_c : length (page_in b c).pairs ≡ 8 = ap length at_c ∙ n_us in
    let n_q : length (page_in b q).pairs + 8 ≡ 16 = ap (λ xs. length xs + 8) at_q ∙ n_vs in
    let pairs : us ++ vs ≡ ps = take-append-drop 8 ps in
    let parted : AreAbout (slot_at vs 0) us vs = about us vs (subst AreInOrder (sym pairs) can.order) (omega (arith, n_vs)) in
    let m_is : m ≡ slot_at vs 0 = is ∙ ap (λ xs. slot_at xs 0) at_q in
    record {
      pairs = ap (λ xs. xs ++ (page_in b q).pairs) at_c ∙ ap (λ ys. us ++ ys) at_q ∙ pairs;
      lower_tree = (omega (arith, two.same_length, can.tree.0), omega (arith, n_c));
      upper_tree = (omega (arith, two.same_length, can.there), omega (arith, n_q));
      below = subst (λ k. AllBefore k (page_in b c).pairs) (sym m_is) (subst (λ xs. AllBefore (slot_at vs 0) xs) (sym at_c) parted.below);
      from = subst (λ k. AllFrom k (page_in b q).pairs) (sym m_is) (subst (λ xs. AllFrom (slot_at vs 0) xs) (sym at_q) parted.from);
      lower_room = omega (arith, n_c);
      upper_room = omega (arith, n_q);
      uses_stay = λ r. refl;
      frame = two.others;
      same_length = two.same_length;
    }

-- ---- an inner page

record ChildrenStay (d : ℕ) (a b : List Page) (cs : List ℕ) : Type 0 where
  pub pairs : map (λ x. pairs_under d b x) cs ≡ map (λ x. pairs_under d a x) cs
  pub uses_stay : (r : ℕ) → total (λ x. uses d b x r) cs ≡ total (λ x. uses d a x r) cs
  pub trees : length a ≤ length b → AllByRecursion (λ x. IsTree d a x) cs → AllByRecursion (λ x. IsTree d b x) cs

children_stay : (d : ℕ) (a b : List Page) (cs : List ℕ) → ((r : ℕ) → 0 < total (λ x. uses d a x r) cs → page_in b r ≡ page_in a r) → ChildrenStay d a b cs
children_stay d a b [] agree = record { pairs = refl; uses_stay = λ r. refl; trees = λ le t. tt }
children_stay d a b (c ∷ cs) agree =
    let first = framed d a b c (λ r h. agree r (omega arith)) in
    let rest = children_stay d a b cs (λ r h. agree r (omega arith)) in
    record {
      pairs = rw (first.pairs, rest.pairs) refl;
      uses_stay = λ r. rw (first.uses_stay r, rest.uses_stay r) refl;
      trees = λ le t. (first.tree le t.0, rest.trees le t.1);
    }

-- a full inner page has fifteen keys
pub fifteen : (d : ℕ) (a : List Page) (c q : ℕ) → CanHalve (suc d) a c q → length (page_in a c).pairs ≡ 15
fifteen d a c q can =
    let links = (page_in a c).links in
    let f = λ (x : ℕ). pairs_under d a x in
    let full : length links ≡ 16 = can.full in
    omega (arith, full, length-map links f, parted_length (map f links) (page_in a c).pairs can.tree.1)

pub halves_inner : (d : ℕ) (a b : List Page) (c q : ℕ) (m : Pair) → CanHalve (suc d) a c q
    → TwoChanged a b c q (record { pairs = take 7 (page_in a c).pairs; links = take 8 (page_in a c).links }) (record { pairs = drop 8 (page_in a c).pairs; links = drop 8 (page_in a c).links })
    → m ≡ slot_at (page_in a c).pairs 7 → Halves (suc d) a b c q m
halves_inner d a b c q m can two is =
    let links = (page_in a c).links in
    let keys = (page_in a c).pairs in
    let fa = λ (x : ℕ). pairs_under d a x in
    let fb = λ (x : ℕ). pairs_under d b x in
    let pss = map fa links in
    let full : length links ≡ 16 = can.full in
    let there_c : c < length b = omega (arith, two.same_length, can.tree.0) in
    let there_q : q < length b = omega (arith, two.same_length, can.there) in
    let stay : ChildrenStay d a b links = children_stay d a b links (λ r h. two.others r
    (λ e. omega (arith, h, can.apart r, subst (λ x. here c x ≡ 1) (sym e) (here_itself c)))
    (λ e. omega (arith, h, can.apart r, subst (λ x. here q x ≡ 1) (sym e) (here_itself q)))) in
    let trees : AllByRecursion (λ x. IsTree d b x) links = stay.trees (omega (arith, two.same_length)) can.tree.3 in
    let cut : IsCut pss keys 7 = cut_at pss keys 7 can.tree.1 can.tree.2 (omega (arith, fifteen d a c q can)) in
    let under_c : map fb (take 8 links) ≡ take 8 pss = sym (take-map fb 8 links) ∙ ap (λ xs. take 8 xs) stay.pairs in
    let under_q : map fb (drop 8 links) ≡ drop 8 pss = map_drop fb 8 links ∙ ap (λ xs. drop 8 xs) stay.pairs in
    let pairs_c : pairs_under (suc d) b c ≡ joined (take 8 pss) = ap (λ (g : Page). joined (map fb g.links)) two.at_c ∙ ap joined under_c in
    let pairs_q : pairs_under (suc d) b q ≡ joined (drop 8 pss) = ap (λ (g : Page). joined (map fb g.links)) two.at_q ∙ ap joined under_q in
    let n_c : length (page_in b c).links ≡ 8 = ap (λ (g : Page). length g.links) two.at_c ∙ length-take-le 8 links (omega (arith, full)) in
    let n_q : length (page_in b q).links + 8 ≡ 16 = ap (λ (g : Page). length g.links + 8) two.at_q ∙ drop_length 8 links (omega (arith, full)) ∙ full in
    record {
      pairs = ap (λ xs. xs ++ pairs_under (suc d) b q) pairs_c ∙ ap (λ ys. joined (take 8 pss) ++ ys) pairs_q ∙ joined_parts 8 pss;
      lower_tree = (
        there_c,
        subst (λ (g : Page). Parted (map fb g.links) g.pairs) (sym two.at_c) (subst (λ xs. Parted xs (take 7 keys)) (sym under_c) cut.lower),
        subst (λ (g : Page). AreInOrder g.pairs) (sym two.at_c) (order_take 7 keys can.tree.2),
        subst (λ (g : Page). AllByRecursion (λ x. IsTree d b x) g.links) (sym two.at_c) (all_take (λ x. IsTree d b x) 8 links trees),
      );
      upper_tree = (
        there_q,
        subst (λ (g : Page). Parted (map fb g.links) g.pairs) (sym two.at_q) (subst (λ xs. Parted xs (drop 8 keys)) (sym under_q) cut.upper),
        subst (λ (g : Page). AreInOrder g.pairs) (sym two.at_q) (order_drop 8 keys can.tree.2),
        subst (λ (g : Page). AllByRecursion (λ x. IsTree d b x) g.links) (sym two.at_q) (all_drop (λ x. IsTree d b x) 8 links trees),
      );
      below = subst (λ k. AllBefore k (pairs_under (suc d) b c)) (sym is) (subst (λ xs. AllBefore (slot_at keys 7) xs) (sym pairs_c) cut.below);
      from = subst (λ k. AllFrom k (pairs_under (suc d) b q)) (sym is) (subst (λ xs. AllFrom (slot_at keys 7) xs) (sym pairs_q) cut.from);
      lower_room = omega (arith, n_c);
      upper_room = omega (arith, n_q);
      uses_stay = λ r.
          let in_c : uses (suc d) b c r ≡ here c r + total (λ x. uses d b x r) (take 8 links) = ap (λ (g : Page). here c r + total (λ x. uses d b x r) g.links) two.at_c in
          let in_q : uses (suc d) b q r ≡ here q r + total (λ x. uses d b x r) (drop 8 links) = ap (λ (g : Page). here q r + total (λ x. uses d b x r) g.links) two.at_q in
          omega (arith, in_c, in_q, total_parts (λ x. uses d b x r) 8 links, stay.uses_stay r);
      frame = two.others;
      same_length = two.same_length;
    }

-- ---- the steps of the code for an inner page

-- the page's links, and then its pairs, are cut in two
pub record BothCut (a b : List Page) (c q : ℕ) : Type 0 where
  pub two : TwoChanged a b c q (record { pairs = take 8 (page_in a c).pairs; links = take 8 (page_in a c).links }) (record { pairs = drop 8 (page_in a c).pairs; links = drop 8 (page_in a c).links })
  pub keys : length (page_in b c).pairs ≡ 8
  pub middle : slot_at (page_in b c).pairs 7 ≡ slot_at (page_in a c).pairs 7

pub both_cut : (d : ℕ) (a a1 a2 : List Page) (c q : ℕ) → CanHalve (suc d) a c q
    → a1 ≡ set (set a q (with_links (drop 8 (page_in a c).links) (page_in a q))) c (with_links (take 8 (page_in a c).links) (page_in a c))
    → a2 ≡ set (set a1 q (with_pairs (drop 8 (page_in a1 c).pairs) (page_in a1 q))) c (with_pairs (take 8 (page_in a1 c).pairs) (page_in a1 c))
    → BothCut a a2 c q
both_cut d a a1 a2 c q can e1 e2 =
    let ks = (page_in a c).pairs in
    let ls = (page_in a c).links in
    let ne = halve_apart (suc d) a c q can in
    let one = two_changed a a1 c q (with_links (take 8 ls) (page_in a c)) (with_links (drop 8 ls) (page_in a q)) can.tree.0 can.there ne e1 in
    let n1 : length a1 ≡ length a = one.same_length in
    let two = two_changed a1 a2 c q (with_pairs (take 8 (page_in a1 c).pairs) (page_in a1 c)) (with_pairs (drop 8 (page_in a1 c).pairs) (page_in a1 q)) (omega (arith, n1, can.tree.0)) (omega (arith, n1, can.there)) ne e2 in
    let lower : page_in a2 c ≡ record { pairs = take 8 ks; links = take 8 ls } = two.at_c ∙ ap (λ (h : Page). with_pairs (take 8 h.pairs) h) one.at_c in
    let upper : page_in a2 q ≡ record { pairs = drop 8 ks; links = drop 8 ls } =
    two.at_q ∙ ap (λ (h : Page). with_pairs (drop 8 h.pairs) (page_in a1 q)) one.at_c ∙ ap (λ (h : Page). with_pairs (drop 8 ks) h) one.at_q in
    record {
      two = record {
        at_c = lower;
        at_q = upper;
        others = λ r nc nq. two.others r nc nq ∙ one.others r nc nq;
        same_length = two.same_length ∙ n1;
      };
      keys = ap (λ (h : Page). length h.pairs) lower ∙ length-take-le 8 ks (omega (arith, fifteen d a c q can));
      middle = ap (λ (h : Page). slot_at h.pairs 7) lower ∙ get_or-take 8 ks 7 no_pair (omega arith);
    }

-- and the last of the lower pairs goes
pub halves_by_steps : (d : ℕ) (a a2 b : List Page) (c q : ℕ) (m : Pair) → CanHalve (suc d) a c q → BothCut a a2 c q
    → b ≡ set a2 c (with_pairs (remove (page_in a2 c).pairs 7) (page_in a2 c)) → m ≡ slot_at (page_in a2 c).pairs 7 → Halves (suc d) a b c q m
halves_by_steps d a a2 b c q m can cut e is =
    let ks = (page_in a c).pairs in
    let ls = (page_in a c).links in
    let g = with_pairs (remove (page_in a2 c).pairs 7) (page_in a2 c) in
    let n : length a2 ≡ length a = cut.two.same_length in
    let page = λ (r : ℕ). ap (λ xs. page_in xs r) e in
    halves_inner d a b c q m can (record {
      at_c = page c ∙ get_or-set_same a2 c g no_page (omega (arith, n, can.tree.0)) ∙ ap (λ (h : Page). with_pairs (remove h.pairs 7) h) cut.two.at_c
          ∙ ap (λ xs. with_links (take 8 ls) (record { pairs = xs; links = ls })) (take_remove 7 ks (omega (arith, fifteen d a c q can)));
      at_q = page q ∙ get_or-set_other a2 c q g no_page (halve_apart (suc d) a c q can) ∙ cut.two.at_q;
      others = λ r nc nq. page r ∙ get_or-set_other a2 c r g no_page nc ∙ cut.two.others r nc nq;
      same_length = ap length e ∙ length-set a2 c g ∙ n;
    }) (is ∙ cut.middle)
