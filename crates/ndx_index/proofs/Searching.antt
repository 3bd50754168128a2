-- Searches in lists in order, and in lists that keys part.
use Rattle.std.proofs.Common.{◌≡◌, ℕ, zero, suc, ◌+◌, ◌-◌, ◌<◌, ◌≤◌, Bool, true, false, not, cond, List, [], ◌∷◌, ◌++◌, map, reverse, take, length, get_or, find, slice_get, Option, Some, None, IfSome, refl, ap, sym, ◌∙◌, subst, arith, length-append}
use Rattle.std.specs.Option.{option_or}
use Rattle.std.specs.Ordering.{is_lt, ordering_reverse}
use Rattle.std.specs.List.{AllByRecursion}
use Rattle.std.specs.declared.cmp.Ordering.{Ordering}
use Rattle.std.specs.declared.cmp.Ordering.TheVariants.{Less, Equal, Greater}
use Rattle.std.proofs.lemmas.Bool.{false≢true}
use Rattle.std.proofs.lemmas.Option.{slice_get-get_or, slice_get_past}
use Rattle.std.proofs.lemmas.List.{append-nil, append_assoc, take_more, reverse-append, get_or-map, get_or_past, length-map}
use Rattle.std.proofs.lemmas.List.Folds.{find-append}
use Rattle.ndx_index.specs.declared.pair.Pair.{Pair}
use Rattle.ndx_index.specs.declared.pages.place.Branch.{Branch}
use Rattle.ndx_index.specs.Order.{pair_cmp, before, AreInOrder}
use Rattle.ndx_index.specs.LeafPlaces.{last_in}
use Rattle.ndx_index.specs.Slots.{slot_at, no_pair}
use Rattle.ndx_index.specs.PageStore.{Page, page_in}
use Rattle.ndx_index.specs.IndexTree.{pairs_under, joined, AllBefore, AllFrom, Parted, IsTree}
use Rattle.ndx_index.specs.Laws.Lists.{all_weaker}
use Rattle.ndx_index.specs.Laws.Comparing.{pairs_total, exact_pair, before_is}
use Rattle.ndx_index.proofs.Parting.{NoneEmpty}
use Rattle.ndx_index.proofs.TreeLists.{all_at, none_empty, parted_length, links_length, child_order, tree_some}

-- a test that all pairs after one that passes it pass
abbrev pub GoesUp : (Pair → Bool) → Type 0
GoesUp t = (p q : Pair) → pair_cmp p q ≡ Less → t p ≡ true → t q ≡ true

-- the pairs before place i fail the test, and those from there on pass it
pub record Turns (t : Pair → Bool) (ps : List Pair) (i : ℕ) : Type 0 where
  pub within : i ≤ length ps
  pub below : (k : ℕ) → k < i → t (slot_at ps k) ≡ false
  pub above : (k : ℕ) → i ≤ k → k < length ps → t (slot_at ps k) ≡ true

-- ---- one list
turns_past : (t : Pair → Bool) (p : Pair) (ps : List Pair) (i : ℕ) → Turns t (p ∷ ps) (suc i) → Turns t ps i
turns_past t p ps i turn = record {
  within = omega (arith, turn.within);
  below = λ k lt. turn.below (suc k) (omega arith);
  above = λ k le lt. turn.above (suc k) (omega arith) (omega arith);
}

turns_rest : (t : Pair → Bool) (p : Pair) (ps : List Pair) → Turns t (p ∷ ps) 0 → Turns t ps 0
turns_rest t p ps turn = record {
  within = omega arith;
  below = λ k lt. absurd (omega arith);
  above = λ k le lt. turn.above (suc k) (omega arith) (omega arith);
}

all_pass : (t : Pair → Bool) (ps : List Pair) → AllByRecursion (λ q. t q ≡ true) ps → Turns t ps 0
all_pass t ps all = record { within = omega arith; below = λ k lt. absurd (omega arith); above = λ k le lt. each ps k all lt }
  where
    each : (qs : List Pair) (k : ℕ) → AllByRecursion (λ q. t q ≡ true) qs → k < length qs → t (slot_at qs k) ≡ true
    each [] k h lt = absurd (omega arith)
    each (q ∷ qs) zero h lt = h.0
    each (q ∷ qs) (suc k) h lt = each qs k h.1 (omega arith)

all_fail : (t : Pair → Bool) (ps : List Pair) → AllByRecursion (λ q. t q ≡ false) ps → Turns t ps (length ps)
all_fail t ps all = record { within = omega arith; below = λ k lt. each ps k all lt; above = λ k le lt. absurd (omega arith) }
  where
    each : (qs : List Pair) (k : ℕ) → AllByRecursion (λ q. t q ≡ false) qs → k < length qs → t (slot_at qs k) ≡ false
    each [] k h lt = absurd (omega arith)
    each (q ∷ qs) zero h lt = h.0
    each (q ∷ qs) (suc k) h lt = each qs k h.1 (omega arith)

-- the first pair that passes stands at that place
pub find_turn : (t : Pair → Bool) (ps : List Pair) (i : ℕ) → Turns t ps i → find t ps ≡ slice_get ps i
find_turn t [] i turn = refl
find_turn t (p ∷ ps) zero turn = ap (λ b. cond b (Some p) (find t ps)) (turn.above 0 (omega arith) (omega arith))
find_turn t (p ∷ ps) (suc i) turn = ap (λ b. cond b (Some p) (find t ps)) (turn.below 0 (omega arith)) ∙ find_turn t ps i (turns_past t p ps i turn)

abbrev pub pair_before : List Pair → ℕ → Option Pair
pair_before ps zero = None
pair_before ps (suc i) = slice_get ps i

abbrev pub last_failing_of : (Pair → Bool) → List Pair → Option Pair
last_failing_of t ps = find (λ q. not (t q)) (reverse ps)

or_none : (o : Option Pair) → option_or o None ≡ o
or_none None = refl
or_none (Some p) = refl

back_append : (t : Pair → Bool) (xs ys : List Pair) → last_failing_of t (xs ++ ys) ≡ option_or (last_failing_of t ys) (last_failing_of t xs)
back_append t xs ys = ap (find (λ q. not (t q))) (reverse-append xs ys) ∙ find-append (λ q. not (t q)) (reverse ys) (reverse xs)

back_cons : (t : Pair → Bool) (p : Pair) (ps : List Pair) (b : Bool) → t p ≡ b → last_failing_of t (p ∷ ps) ≡ option_or (last_failing_of t ps) (cond (not b) (Some p) None)
back_cons t p ps b e = back_append t (p ∷ []) ps ∙ ap (λ x. option_or (last_failing_of t ps) (cond (not x) (Some p) None)) e

-- and the last one that fails just before it
pub back_turn : (t : Pair → Bool) (ps : List Pair) (i : ℕ) → Turns t ps i → last_failing_of t ps ≡ pair_before ps i
back_turn t [] zero turn = refl
back_turn t [] (suc i) turn = refl
back_turn t (p ∷ ps) zero turn = back_cons t p ps true (turn.above 0 (omega arith) (omega arith)) ∙ ap (λ o. option_or o None) (back_turn t ps zero (turns_rest t p ps turn))
back_turn t (p ∷ ps) (suc zero) turn = back_cons t p ps false (turn.below 0 (omega arith)) ∙ ap (λ o. option_or o (Some p)) (back_turn t ps zero (turns_past t p ps zero turn))
back_turn t (p ∷ ps) (suc (suc i)) turn =
    let rest = turns_past t p ps (suc i) turn in
    let there = slice_get-get_or ps i no_pair (omega (arith, rest.within)) in
    back_cons t p ps false (turn.below 0 (omega arith)) ∙ ap (λ o. option_or o (Some p)) (back_turn t ps (suc i) rest ∙ there) ∙ sym there

-- ---- the first and the last pair
pub last_some : (ps : List Pair) → 0 < length ps → last_in ps ≡ Some (slot_at ps (length ps - 1))
last_some ps some = slice_get-get_or ps (length ps - 1) no_pair (omega arith)

last_before : (ps : List Pair) → pair_before ps (length ps) ≡ last_in ps
last_before [] = refl
last_before (p ∷ ps) = let e : length ps ≡ length (p ∷ ps) - 1 = omega arith in ap (slice_get (p ∷ ps)) e

first_append : (xs ys : List Pair) → 0 < length xs → slice_get (xs ++ ys) 0 ≡ slice_get xs 0
first_append [] ys some = absurd (omega arith)
first_append (x ∷ xs) ys some = refl

last_append : (xs ys : List Pair) → 0 < length ys → last_in (xs ++ ys) ≡ last_in ys
last_append [] ys some = refl
last_append (x ∷ xs) ys some =
    let e : length (x ∷ xs ++ ys) - 1 ≡ suc (length (xs ++ ys) - 1) = omega (arith, length-append xs ys) in
    ap (slice_get (x ∷ xs ++ ys)) e ∙ last_append xs ys some

pub first_joined : (pss : List (List Pair)) → NoneEmpty pss → slice_get (joined pss) 0 ≡ slice_get (get_or pss 0 []) 0
first_joined [] some = refl
first_joined (ps ∷ pss) some = first_append ps (joined pss) some.0

some_joined : (ps : List Pair) (pss : List (List Pair)) → 0 < length ps → 0 < length (joined (ps ∷ pss))
some_joined ps pss some = omega (arith, length-append ps (joined pss))

pub last_joined : (pss : List (List Pair)) → NoneEmpty pss → last_in (joined pss) ≡ last_in (get_or pss (length pss - 1) [])
last_joined [] some = refl
last_joined (ps ∷ []) some = ap last_in (append-nil ps)
last_joined (ps ∷ qs ∷ pss) some =
    let e : suc (length (qs ∷ pss) - 1) ≡ length (ps ∷ qs ∷ pss) - 1 = omega arith in
    last_append ps (joined (qs ∷ pss)) (some_joined qs pss some.1.0) ∙ last_joined (qs ∷ pss) some.1 ∙ ap (λ i. last_in (get_or (ps ∷ qs ∷ pss) i [])) e

-- ---- lists that keys part
fails_before : (t : Pair → Bool) → GoesUp t → (k q : Pair) → t k ≡ false → before q k ≡ true → t q ≡ false
fails_before t up k q failed h = elim (t q) as (λ b. t q ≡ b → b ≡ false) [
  | true ↦ λ e. absurd (false≢true (sym failed ∙ up q k (before_is q k h) e))
  | false ↦ λ e. refl
] refl

passes_from : (t : Pair → Bool) → GoesUp t → (k q : Pair) → t k ≡ true → before q k ≡ false → t q ≡ true
passes_from t up k q yes-k h = step (pair_cmp k q) refl
  where
    step : (o : Ordering) → pair_cmp k q ≡ o → t q ≡ true
    step Less o = up k q o yes-k
    step Equal o = subst (λ x. t x ≡ true) (exact_pair k q o) yes-k
    step Greater o = absurd (false≢true (sym h ∙ ap is_lt (pairs_total.antisymm q k ∙ ap ordering_reverse o)))

all_before_fail : (t : Pair → Bool) → GoesUp t → (k : Pair) (ps : List Pair) → t k ≡ false → AllBefore k ps → Turns t ps (length ps)
all_before_fail t up k ps failed all = all_fail t ps (all_weaker (λ q. before q k ≡ true) (λ q. t q ≡ false) (λ q h. fails_before t up k q failed h) ps all)

all_from_pass : (t : Pair → Bool) → GoesUp t → (k : Pair) (ps : List Pair) → t k ≡ true → AllFrom k ps → AllByRecursion (λ q. t q ≡ true) ps
all_from_pass t up k ps passed all = all_weaker (λ q. before q k ≡ false) (λ q. t q ≡ true) (λ q h. passes_from t up k q passed h) ps all

all_append : (P : Pair → Type 0) (xs ys : List Pair) → AllByRecursion P xs → AllByRecursion P ys → AllByRecursion P (xs ++ ys)
all_append P [] ys h k = k
all_append P (x ∷ xs) ys h k = (h.0, all_append P xs ys h.1 k)

all_later_pass : (t : Pair → Bool) → GoesUp t → (ps : List Pair) (pss : List (List Pair)) (ks : List Pair) → AllByRecursion (λ q. t q ≡ true) ps → Parted (ps ∷ pss) ks → Turns t ks 0 → AllByRecursion (λ q. t q ≡ true) (joined (ps ∷ pss))
all_later_pass t up ps [] ks all parted turn = all_append (λ q. t q ≡ true) ps [] all tt
all_later_pass t up ps (qs ∷ pss) [] all parted turn = absurd parted
all_later_pass t up ps (qs ∷ pss) (k ∷ ks) all parted turn =
    all_append (λ q. t q ≡ true) ps (joined (qs ∷ pss)) all
    (all_later_pass t up qs pss ks (all_from_pass t up k qs (turn.above 0 (omega arith) (omega arith)) parted.1) parted.2 (turns_rest t k ks turn))

first_passes : (t : Pair → Bool) (ps rest : List Pair) → 0 < length ps → AllByRecursion (λ q. t q ≡ true) ps → find t (ps ++ rest) ≡ slice_get ps 0
first_passes t [] rest some all = absurd (omega arith)
first_passes t (p ∷ ps) rest some all = ap (λ b. cond b (Some p) (find t (ps ++ rest))) all.0

-- the first pair that passes is in the list where the keys turn, or the first of the next
pub find_parted : (t : Pair → Bool) → GoesUp t → (pss : List (List Pair)) (ks : List Pair) (i : ℕ) → Parted pss ks → NoneEmpty pss → Turns t ks i → find t (joined pss) ≡ option_or (find t (get_or pss i [])) (slice_get (get_or pss (suc i) []) 0)
find_parted t up [] ks i parted some turn = absurd parted
find_parted t up (ps ∷ []) [] zero parted some turn = find-append t ps []
find_parted t up (ps ∷ []) [] (suc i) parted some turn = absurd (omega (arith, turn.within))
find_parted t up (ps ∷ []) (k ∷ ks) i parted some turn = absurd parted
find_parted t up (ps ∷ qs ∷ pss) [] i parted some turn = absurd parted
find_parted t up (ps ∷ qs ∷ pss) (k ∷ ks) zero parted some turn =
    find-append t ps (joined (qs ∷ pss))
    ∙ ap (option_or (find t ps)) (first_passes t qs (joined pss) some.1.0 (all_from_pass t up k qs (turn.above 0 (omega arith) (omega arith)) parted.1))
find_parted t up (ps ∷ qs ∷ pss) (k ∷ ks) (suc i) parted some turn =
    find-append t ps (joined (qs ∷ pss))
    ∙ ap (λ o. option_or o (find t (joined (qs ∷ pss)))) (find_turn t ps (length ps) (all_before_fail t up k ps (turn.below 0 (omega arith)) parted.0) ∙ slice_get_past ps (length ps) (omega arith))
    ∙ find_parted t up (qs ∷ pss) ks i parted.2 some.1 (turns_past t k ks i turn)

abbrev pub last_in_before : List (List Pair) → ℕ → Option Pair
last_in_before pss zero = None
last_in_before pss (suc i) = last_in (get_or pss i [])

none_empty_at : (pss : List (List Pair)) (i : ℕ) → NoneEmpty pss → i < length pss → 0 < length (get_or pss i [])
none_empty_at [] i some lt = absurd (omega arith)
none_empty_at (ps ∷ pss) zero some lt = some.0
none_empty_at (ps ∷ pss) (suc i) some lt = none_empty_at pss i some.1 (omega arith)

first_of_three : (a b c : Option Pair) (p : Pair) → b ≡ Some p → option_or (option_or a b) c ≡ option_or a b
first_of_three (Some x) b c p e = refl
first_of_three None b c p e = ap (λ o. option_or o c) e ∙ sym e

-- the last pair that fails is in that list too, or the last of the one before
pub back_parted : (t : Pair → Bool) → GoesUp t → (pss : List (List Pair)) (ks : List Pair) (i : ℕ) → Parted pss ks → NoneEmpty pss → Turns t ks i → last_failing_of t (joined pss) ≡ option_or (last_failing_of t (get_or pss i [])) (last_in_before pss i)
back_parted t up [] ks i parted some turn = absurd parted
back_parted t up (ps ∷ []) [] zero parted some turn = ap (last_failing_of t) (append-nil ps) ∙ sym (or_none (last_failing_of t ps))
back_parted t up (ps ∷ []) [] (suc i) parted some turn = absurd (omega (arith, turn.within))
back_parted t up (ps ∷ []) (k ∷ ks) i parted some turn = absurd parted
back_parted t up (ps ∷ qs ∷ pss) [] i parted some turn = absurd parted
back_parted t up (ps ∷ qs ∷ pss) (k ∷ ks) zero parted some turn =
    let later = joined (qs ∷ pss) in
    let passed = all_later_pass t up qs pss ks (all_from_pass t up k qs (turn.above 0 (omega arith) (omega arith)) parted.1) parted.2 (turns_rest t k ks turn) in
    back_append t ps later
    ∙ ap (λ o. option_or o (last_failing_of t ps)) (back_turn t later 0 (all_pass t later passed))
    ∙ sym (or_none (last_failing_of t ps))
back_parted t up (ps ∷ qs ∷ pss) (k ∷ ks) (suc zero) parted some turn =
    let a = last_failing_of t qs in
    back_append t ps (joined (qs ∷ pss))
    ∙ ap (λ o. option_or o (last_failing_of t ps)) (back_parted t up (qs ∷ pss) ks zero parted.2 some.1 (turns_past t k ks zero turn) ∙ or_none a)
    ∙ ap (option_or a) (back_turn t ps (length ps) (all_before_fail t up k ps (turn.below 0 (omega arith)) parted.0) ∙ last_before ps)
back_parted t up (ps ∷ qs ∷ pss) (k ∷ ks) (suc (suc i)) parted some turn =
    let a = last_failing_of t (get_or (qs ∷ pss) (suc i) []) in
    let one = get_or (qs ∷ pss) i [] in
    let there = last_some one (none_empty_at (qs ∷ pss) i some.1 (omega (arith, turn.within, parted_length (qs ∷ pss) ks parted.2))) in
    back_append t ps (joined (qs ∷ pss))
    ∙ ap (λ o. option_or o (last_failing_of t ps)) (back_parted t up (qs ∷ pss) ks (suc i) parted.2 some.1 (turns_past t k ks (suc i) turn))
    ∙ first_of_three a (last_in one) (last_failing_of t ps) (slot_at one (length one - 1)) there

-- ---- a page above the leaves
pub child_tree : (d : ℕ) (a : List Page) (p i : ℕ) → IsTree (suc d) a p → i < length (page_in a p).links → IsTree d a (get_or (page_in a p).links i 0)
child_tree d a p i t lt = all_at (λ c. IsTree d a c) (page_in a p).links i lt t.3

child_pairs : (d : ℕ) (a : List Page) (p i : ℕ) → i < length (page_in a p).links → get_or (map (λ c. pairs_under d a c) (page_in a p).links) i [] ≡ pairs_under d a (get_or (page_in a p).links i 0)
child_pairs d a p i lt = get_or-map (λ c. pairs_under d a c) (page_in a p).links i 0 [] lt

pub first_under_child : (d : ℕ) (a : List Page) (p : ℕ) → IsTree (suc d) a p → slice_get (pairs_under (suc d) a p) 0 ≡ slice_get (pairs_under d a (get_or (page_in a p).links 0 0)) 0
first_under_child d a p t =
    first_joined (map (λ c. pairs_under d a c) (page_in a p).links) (none_empty d a (page_in a p).links t.3)
    ∙ ap (λ ps. slice_get ps 0) (child_pairs d a p 0 (omega (arith, links_length d a p t)))

pub last_under_child : (d : ℕ) (a : List Page) (p : ℕ) → IsTree (suc d) a p → last_in (pairs_under (suc d) a p) ≡ last_in (pairs_under d a (get_or (page_in a p).links (length (page_in a p).links - 1) 0))
last_under_child d a p t =
    let links = (page_in a p).links in
    last_joined (map (λ c. pairs_under d a c) links) (none_empty d a links t.3)
    ∙ ap (λ n. last_in (get_or (map (λ c. pairs_under d a c) links) (n - 1) [])) (length-map links (λ c. pairs_under d a c))
    ∙ ap last_in (child_pairs d a p (length links - 1) (omega (arith, links_length d a p t)))

find_under : (t : Pair → Bool) → GoesUp t → (d : ℕ) (a : List Page) (p i : ℕ) → IsTree (suc d) a p → Turns t (page_in a p).pairs i → find t (pairs_under (suc d) a p) ≡ option_or (find t (pairs_under d a (get_or (page_in a p).links i 0))) (slice_get (get_or (map (λ c. pairs_under d a c) (page_in a p).links) (suc i) []) 0)
find_under t up d a p i tree turn =
    let links = (page_in a p).links in
    let pss = map (λ c. pairs_under d a c) links in
    find_parted t up pss (page_in a p).pairs i tree.1 (none_empty d a links tree.3) turn
    ∙ ap (λ ps. option_or (find t ps) (slice_get (get_or pss (suc i) []) 0)) (child_pairs d a p i (omega (arith, links_length d a p tree, turn.within)))

back_under : (t : Pair → Bool) → GoesUp t → (d : ℕ) (a : List Page) (p i : ℕ) → IsTree (suc d) a p → Turns t (page_in a p).pairs i → last_failing_of t (pairs_under (suc d) a p) ≡ option_or (last_failing_of t (pairs_under d a (get_or (page_in a p).links i 0))) (last_in_before (map (λ c. pairs_under d a c) (page_in a p).links) i)
back_under t up d a p i tree turn =
    let links = (page_in a p).links in
    let pss = map (λ c. pairs_under d a c) links in
    back_parted t up pss (page_in a p).pairs i tree.1 (none_empty d a links tree.3) turn
    ∙ ap (λ ps. option_or (last_failing_of t ps) (last_in_before pss i)) (child_pairs d a p i (omega (arith, links_length d a p tree, turn.within)))

-- ---- the way down: what is looked for is under a page, or else at the edge of the branch beside it
abbrev pub edge_of : (List Pair → Option Pair) → List Page → Option Branch → Option Pair
edge_of edge a None = None
edge_of edge a (Some b) = edge (pairs_under b.level a b.page)

pub record GoesDown (search edge : List Pair → Option Pair) (a : List Page) (level page : ℕ) (here : Branch) (beside : Option Branch) : Type 0 where
  pub tree : IsTree here.level a here.page
  pub order : AreInOrder (pairs_under here.level a here.page)
  pub there : IfSome beside (λ b. IsTree b.level a b.page)
  pub found : search (pairs_under level a page) ≡ option_or (search (pairs_under here.level a here.page)) (edge_of edge a beside)

abbrev pub first_of : List Pair → Option Pair
first_of ps = slice_get ps 0

first_found : (d : ℕ) (a : List Page) (p : ℕ) → IsTree d a p → first_of (pairs_under d a p) ≡ Some (slot_at (pairs_under d a p) 0)
first_found d a p t = slice_get-get_or (pairs_under d a p) 0 no_pair (tree_some d a p t)

last_found : (d : ℕ) (a : List Page) (p : ℕ) → IsTree d a p → last_in (pairs_under d a p) ≡ Some (slot_at (pairs_under d a p) (length (pairs_under d a p) - 1))
last_found d a p t = last_some (pairs_under d a p) (tree_some d a p t)

module _ (search edge : List Pair → Option Pair) (a : List Page) (level page : ℕ) where
  down_alone : (d p c : ℕ) (beside : Option Branch) → GoesDown search edge a level page (record { level = suc d; page = p }) beside → IsTree d a c → AreInOrder (pairs_under d a c)
      → search (pairs_under (suc d) a p) ≡ option_or (search (pairs_under d a c)) None
      → GoesDown search edge a level page (record { level = d; page = c }) beside
  down_alone d p c beside way tree order step = record {
    tree = tree;
    order = order;
    there = way.there;
    found = way.found ∙ ap (λ o. option_or o (edge_of edge a beside)) (step ∙ or_none (search (pairs_under d a c)));
  }

  down_beside : (d p c b : ℕ) (beside : Option Branch) (x : Pair) → GoesDown search edge a level page (record { level = suc d; page = p }) beside → IsTree d a c → AreInOrder (pairs_under d a c) → IsTree d a b
      → edge (pairs_under d a b) ≡ Some x
      → search (pairs_under (suc d) a p) ≡ option_or (search (pairs_under d a c)) (edge (pairs_under d a b))
      → GoesDown search edge a level page (record { level = d; page = c }) (Some (record { level = d; page = b }))
  down_beside d p c b beside x way tree order other some step = record {
    tree = tree;
    order = order;
    there = other;
    found =
        way.found ∙ ap (λ o. option_or o (edge_of edge a beside)) step
        ∙ first_of_three (search (pairs_under d a c)) (edge (pairs_under d a b)) (edge_of edge a beside) x some;
  }

-- the way, by the level that it has come to
pub at_level : (search edge : List Pair → Option Pair) (a : List Page) (level page : ℕ) (here : Branch) (beside : Option Branch) (d : ℕ) → here.level ≡ d → GoesDown search edge a level page here beside → GoesDown search edge a level page (record { level = d; page = here.page }) beside
at_level search edge a level page here beside d is way = subst (λ n. GoesDown search edge a level page (record { level = n; page = here.page }) beside) is way

-- what a leaf says
pub at_leaf : (search edge : List Pair → Option Pair) (a : List Page) (level page : ℕ) (here : Branch) (beside : Option Branch) (o : Option Pair) → GoesDown search edge a level page here beside → here.level ≡ 0
    → search (page_in a here.page).pairs ≡ o → search (pairs_under level a page) ≡ option_or o (edge_of edge a beside)
at_leaf search edge a level page here beside o way leaf says = (at_level search edge a level page here beside 0 leaf way).found ∙ ap (λ x. option_or x (edge_of edge a beside)) says

pub down_first_alone : (t : Pair → Bool) → GoesUp t → (a : List Page) (level page d p i : ℕ) (next : Option Branch) → GoesDown (find t) first_of a level page (record { level = suc d; page = p }) next → Turns t (page_in a p).pairs i
    → length (page_in a p).links ≤ i + 1 → GoesDown (find t) first_of a level page (record { level = d; page = get_or (page_in a p).links i 0 }) next
down_first_alone t up a level page d p i next way turn le =
    let links = (page_in a p).links in
    let pss = map (λ c. pairs_under d a c) links in
    let c = get_or links i 0 in
    let lt : i < length links = omega (arith, links_length d a p way.tree, turn.within) in
    down_alone (find t) first_of a level page d p c next way (child_tree d a p i way.tree lt) (child_order (λ q. pairs_under d a q) links i lt way.order)
    (find_under t up d a p i way.tree turn ∙ ap (λ ps. option_or (find t (pairs_under d a c)) (first_of ps)) (get_or_past pss (suc i) [] (omega (arith, le, length-map links (λ c. pairs_under d a c)))))

pub down_first_beside : (t : Pair → Bool) → GoesUp t → (a : List Page) (level page d p i : ℕ) (next : Option Branch) → GoesDown (find t) first_of a level page (record { level = suc d; page = p }) next → Turns t (page_in a p).pairs i
    → i + 1 < length (page_in a p).links → GoesDown (find t) first_of a level page (record { level = d; page = get_or (page_in a p).links i 0 }) (Some (record { level = d; page = get_or (page_in a p).links (i + 1) 0 }))
down_first_beside t up a level page d p i next way turn lt =
    let links = (page_in a p).links in
    let c = get_or links i 0 in
    let b = get_or links (i + 1) 0 in
    let e : suc i ≡ i + 1 = omega arith in
    let here : i < length links = omega (arith, lt) in
    let other = child_tree d a p (i + 1) way.tree lt in
    down_beside (find t) first_of a level page d p c b next (slot_at (pairs_under d a b) 0) way (child_tree d a p i way.tree here) (child_order (λ q. pairs_under d a q) links i here way.order) other (first_found d a b other)
    (find_under t up d a p i way.tree turn ∙ ap (λ ps. option_or (find t (pairs_under d a c)) (first_of ps)) (child_pairs d a p (suc i) (omega (arith, lt)) ∙ ap (λ k. pairs_under d a (get_or links k 0)) e))

pub down_last_alone : (t : Pair → Bool) → GoesUp t → (a : List Page) (level page d p i : ℕ) (previous : Option Branch) → GoesDown (last_failing_of t) last_in a level page (record { level = suc d; page = p }) previous → Turns t (page_in a p).pairs i
    → i ≡ 0 → GoesDown (last_failing_of t) last_in a level page (record { level = d; page = get_or (page_in a p).links i 0 }) previous
down_last_alone t up a level page d p i previous way turn none =
    let links = (page_in a p).links in
    let pss = map (λ c. pairs_under d a c) links in
    let c = get_or links i 0 in
    let lt : i < length links = omega (arith, links_length d a p way.tree, turn.within) in
    down_alone (last_failing_of t) last_in a level page d p c previous way (child_tree d a p i way.tree lt) (child_order (λ q. pairs_under d a q) links i lt way.order)
    (back_under t up d a p i way.tree turn ∙ ap (λ k. option_or (last_failing_of t (pairs_under d a c)) (last_in_before pss k)) none)

pub down_last_beside : (t : Pair → Bool) → GoesUp t → (a : List Page) (level page d p i : ℕ) (previous : Option Branch) → GoesDown (last_failing_of t) last_in a level page (record { level = suc d; page = p }) previous → Turns t (page_in a p).pairs i
    → 0 < i → GoesDown (last_failing_of t) last_in a level page (record { level = d; page = get_or (page_in a p).links i 0 }) (Some (record { level = d; page = get_or (page_in a p).links (i - 1) 0 }))
down_last_beside t up a level page d p i previous way turn some =
    let links = (page_in a p).links in
    let pss = map (λ c. pairs_under d a c) links in
    let c = get_or links i 0 in
    let b = get_or links (i - 1) 0 in
    let e : i ≡ suc (i - 1) = omega (arith, some) in
    let here : i < length links = omega (arith, links_length d a p way.tree, turn.within) in
    let other = child_tree d a p (i - 1) way.tree (omega (arith, here)) in
    down_beside (last_failing_of t) last_in a level page d p c b previous (slot_at (pairs_under d a b) (length (pairs_under d a b) - 1)) way (child_tree d a p i way.tree here) (child_order (λ q. pairs_under d a q) links i here way.order) other (last_found d a b other)
    (back_under t up d a p i way.tree turn ∙ ap (λ k. option_or (last_failing_of t (pairs_under d a c)) (last_in_before pss k)) e ∙ ap (λ ps. option_or (last_failing_of t (pairs_under d a c)) (last_in ps)) (child_pairs d a p (i - 1) (omega (arith, here))))

-- ---- a leaf
pub found_at : (t : Pair → Bool) (ps : List Pair) (i : ℕ) → Turns t ps i → i < length ps → find t ps ≡ Some (slot_at ps i)
found_at t ps i turn lt = find_turn t ps i turn ∙ slice_get-get_or ps i no_pair lt

pub found_past : (t : Pair → Bool) (ps : List Pair) (i : ℕ) → Turns t ps i → length ps ≤ i → find t ps ≡ None
found_past t ps i turn le = find_turn t ps i turn ∙ slice_get_past ps i le

pub back_at : (t : Pair → Bool) (ps : List Pair) (i : ℕ) → Turns t ps i → 0 < i → last_failing_of t ps ≡ Some (slot_at ps (i - 1))
back_at t ps zero turn some = absurd (omega arith)
back_at t ps (suc i) turn some =
    let e : i ≡ suc i - 1 = omega arith in
    back_turn t ps (suc i) turn ∙ slice_get-get_or ps i no_pair (omega (arith, turn.within)) ∙ ap (λ k. Some (slot_at ps k)) e

pub back_past : (t : Pair → Bool) (ps : List Pair) → Turns t ps 0 → last_failing_of t ps ≡ None
back_past t ps turn = back_turn t ps 0 turn

-- ---- one after another
pub push_more : (old ys ps : List Pair) (i : ℕ) (p : Pair) → ys ≡ old ++ take i ps → i < length ps → p ≡ slot_at ps i → ys ++ p ∷ [] ≡ old ++ take (i + 1) ps
push_more old ys ps i p have lt is =
    let cons : ys ++ p ∷ [] ≡ (old ++ take i ps) ++ slot_at ps i ∷ [] = ap (λ xs. xs ++ p ∷ []) have ∙ ap (λ q. (old ++ take i ps) ++ q ∷ []) is in
    cons ∙ append_assoc old (take i ps) (slot_at ps i ∷ []) ∙ ap (λ xs. old ++ xs) (sym (take_more ps i no_pair lt))

joined_push : (f : ℕ → List Pair) (cs : List ℕ) (c : ℕ) → joined (map f (cs ++ c ∷ [])) ≡ joined (map f cs) ++ f c
joined_push f [] c = append-nil (f c)
joined_push f (x ∷ xs) c = ap (λ ps. f x ++ ps) (joined_push f xs c) ∙ sym (append_assoc (f x) (joined (map f xs)) (f c))

pub push_child : (f : ℕ → List Pair) (old ys zs : List Pair) (cs : List ℕ) (i c : ℕ) → ys ≡ old ++ joined (map f (take i cs)) → i < length cs → c ≡ get_or cs i 0 → zs ≡ ys ++ f c → zs ≡ old ++ joined (map f (take (i + 1) cs))
push_child f old ys zs cs i c have lt is more =
    more ∙ ap (λ x. ys ++ f x) is ∙ ap (λ xs. xs ++ f (get_or cs i 0)) have
    ∙ append_assoc old (joined (map f (take i cs))) (f (get_or cs i 0))
    ∙ ap (λ xs. old ++ xs) (sym (ap (λ xs. joined (map f xs)) (take_more cs i 0 lt) ∙ joined_push f (take i cs) (get_or cs i 0)))
