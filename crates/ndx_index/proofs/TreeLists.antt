-- Lists of children, of their pairs and of their keys.
use Rattle.std.proofs.Common.{◌≡◌, ℕ, zero, suc, ◌+◌, ◌<◌, ◌≤◌, true, false, List, [], ◌∷◌, ◌++◌, map, length, length-append, get_or, refl, ap, sym, ◌∙◌, subst, arith}
use Rattle.std.specs.List.{AllByRecursion, insert}
use Rattle.std.specs.List.Sorted.{IsStrictlySortedBy}
use Rattle.std.specs.Ordering.{is_lt, ordering_reverse}
use Rattle.std.specs.declared.cmp.Ordering.{Ordering}
use Rattle.std.specs.declared.cmp.Ordering.TheVariants.{Less, Equal, Greater}
use Rattle.std.proofs.lemmas.Bool.{false≢true}
use Rattle.std.proofs.lemmas.List.{append-nil, append_assoc, length-map}
use Rattle.std.proofs.lemmas.List.Elements.{All-from_recursion}
use Rattle.ndx_index.specs.declared.pair.Pair.{Pair}
use Rattle.ndx_index.specs.Order.{pair_cmp, before, AreInOrder}
use Rattle.ndx_index.specs.Laws.Comparing.{pairs_total, exact_pair, before_is, before_trans, irreflexive}
use Rattle.ndx_index.specs.Laws.Sorting.{not_after}
use Rattle.ndx_index.specs.PageStore.{Page, page_in}
use Rattle.ndx_index.specs.IndexTree.{pairs_under, joined, total, IsTree, AllBefore, AllFrom, Parted}
use Rattle.ndx_index.proofs.Parting.{NoneEmpty}

-- ---- all elements
pub all_at : (P : ℕ → Type 0) (xs : List ℕ) (i : ℕ) → i < length xs → AllByRecursion P xs → P (get_or xs i 0)
all_at P xs i lt all = All-from_recursion P xs all i 0 lt

pub all_from : (P : ℕ → Type 0) (xs : List ℕ) → ((j : ℕ) → j < length xs → P (get_or xs j 0)) → AllByRecursion P xs
all_from P [] each = tt
all_from P (x ∷ xs) each = (each 0 (omega arith), all_from P xs (λ j lt. each (suc j) (omega arith)))

pub all_front : {X : Type 0} (P : X → Type 0) (xs ys : List X) → AllByRecursion P (xs ++ ys) → AllByRecursion P xs
all_front P [] ys all = tt
all_front P (x ∷ xs) ys all = (all.0, all_front P xs ys all.1)

pub all_back : {X : Type 0} (P : X → Type 0) (xs ys : List X) → AllByRecursion P (xs ++ ys) → AllByRecursion P ys
all_back P [] ys all = all
all_back P (x ∷ xs) ys all = all_back P xs ys all.1

pub all_both : {X : Type 0} (P : X → Type 0) (xs ys : List X) → AllByRecursion P xs → AllByRecursion P ys → AllByRecursion P (xs ++ ys)
all_both P [] ys all more = more
all_both P (x ∷ xs) ys all more = (all.0, all_both P xs ys all.1 more)

pub all_end : {X : Type 0} (P : X → Type 0) (xs : List X) (x : X) → AllByRecursion P xs → P x → AllByRecursion P (xs ++ x ∷ [])
all_end P [] x all own = (own, tt)
all_end P (y ∷ ys) x all own = (all.0, all_end P ys x all.1 own)

-- ---- sums over children
pub total_at : (f : ℕ → ℕ) (xs : List ℕ) (i : ℕ) → i < length xs → f (get_or xs i 0) ≤ total f xs
total_at f [] i lt = absurd (omega arith)
total_at f (x ∷ xs) zero lt = omega arith
total_at f (x ∷ xs) (suc i) lt = let h = total_at f xs i (omega arith) in omega arith

pub total_two : (f : ℕ → ℕ) (xs : List ℕ) (i j : ℕ) → i < length xs → j < length xs → (i ≡ j → ⊥) → f (get_or xs i 0) + f (get_or xs j 0) ≤ total f xs
total_two f [] i j li lj ne = absurd (omega arith)
total_two f (x ∷ xs) zero zero li lj ne = absurd (ne refl)
total_two f (x ∷ xs) zero (suc j) li lj ne = let h = total_at f xs j (omega arith) in omega arith
total_two f (x ∷ xs) (suc i) zero li lj ne = let h = total_at f xs i (omega arith) in omega arith
total_two f (x ∷ xs) (suc i) (suc j) li lj ne = let h = total_two f xs i j (omega arith) (omega arith) (λ e. ne (ap suc e)) in omega arith

pub total_same : (f g : ℕ → ℕ) (xs : List ℕ) → ((j : ℕ) → j < length xs → g (get_or xs j 0) ≡ f (get_or xs j 0)) → total g xs ≡ total f xs
total_same f g [] same = refl
total_same f g (x ∷ xs) same = rw (same 0 (omega arith), total_same f g xs (λ j lt. same (suc j) (omega arith))) refl

pub total-end : (f : ℕ → ℕ) (xs : List ℕ) (x : ℕ) → total f (xs ++ x ∷ []) ≡ total f xs + f x
total-end f [] x = omega arith
total-end f (y ∷ ys) x = let h = total-end f ys x in omega arith

-- where all but the last are 0
pub total_last : (f : ℕ → ℕ) (xs : List ℕ) (m : ℕ) → suc m ≡ length xs → ((j : ℕ) → j < m → f (get_or xs j 0) ≡ 0) → total f xs ≡ f (get_or xs m 0)
total_last f [] m e none = absurd (omega arith)
total_last f (x ∷ []) zero e none = omega arith
total_last f (x ∷ y ∷ xs) zero e none = absurd (omega arith)
total_last f (x ∷ xs) (suc m) e none =
    let h = total_last f xs m (omega arith) (λ j lt. none (suc j) (omega arith)) in
    omega (arith, h, none 0 (omega arith))

pub map_same : {X : Type 0} (f g : ℕ → X) (xs : List ℕ) → ((j : ℕ) → j < length xs → g (get_or xs j 0) ≡ f (get_or xs j 0)) → map g xs ≡ map f xs
map_same f g [] same = refl
map_same f g (x ∷ xs) same = rw (same 0 (omega arith), map_same f g xs (λ j lt. same (suc j) (omega arith))) refl

-- ---- the pairs of one child among all
pub front_order : (xs ys : List Pair) → AreInOrder (xs ++ ys) → AreInOrder xs
unfolding IsStrictlySortedBy
front_order [] ys s = tt
front_order (x ∷ xs) ys s = (all_front (λ q. pair_cmp x q ≡ Less) xs ys s.0, front_order xs ys s.1)

pub back_order : (xs ys : List Pair) → AreInOrder (xs ++ ys) → AreInOrder ys
unfolding IsStrictlySortedBy
back_order [] ys s = s
back_order (x ∷ xs) ys s = back_order xs ys s.1

pub order_end : (ks : List Pair) (p : Pair) → AreInOrder ks → AllBefore p ks → AreInOrder (ks ++ p ∷ [])
unfolding IsStrictlySortedBy
order_end [] p s h = (tt, tt)
order_end (k ∷ ks) p s h = (all_end (λ q. pair_cmp k q ≡ Less) ks p s.0 (before_is k p h.0), order_end ks p s.1 h.1)

pub child_order : (f : ℕ → List Pair) (xs : List ℕ) (i : ℕ) → i < length xs → AreInOrder (joined (map f xs)) → AreInOrder (f (get_or xs i 0))
child_order f [] i lt s = absurd (omega arith)
child_order f (x ∷ xs) zero lt s = front_order (f x) (joined (map f xs)) s
child_order f (x ∷ xs) (suc i) lt s = child_order f xs i (omega arith) (back_order (f x) (joined (map f xs)) s)

-- the last child and what comes after all
pub last_order : (f : ℕ → List Pair) (xs : List ℕ) (m : ℕ) (ps : List Pair) → suc m ≡ length xs → AreInOrder (joined (map f xs) ++ ps) → AreInOrder (f (get_or xs m 0) ++ ps)
last_order f [] m ps e s = absurd (omega arith)
last_order f (x ∷ []) zero ps e s = subst (λ qs. AreInOrder (qs ++ ps)) (append-nil (f x)) s
last_order f (x ∷ []) (suc m) ps e s = absurd (omega arith)
last_order f (x ∷ y ∷ xs) zero ps e s = absurd (omega arith)
last_order f (x ∷ y ∷ xs) (suc m) ps e s =
    let rest = joined (map f (y ∷ xs)) in
    last_order f (y ∷ xs) m ps (omega arith) (back_order (f x) (rest ++ ps) (subst (λ qs. AreInOrder qs) (append_assoc (f x) rest ps) s))

parted_some : (f : ℕ → List Pair) (xs : List ℕ) (ks : List Pair) → Parted (map f xs) ks → 0 < length xs
parted_some f [] ks h = absurd h
parted_some f (x ∷ xs) ks h = omega arith

first_some : (d : ℕ) (a : List Page) → ((p : ℕ) → IsTree d a p → 0 < length (pairs_under d a p)) → (cs : List ℕ) → 0 < length cs → AllByRecursion (λ c. IsTree d a c) cs → 0 < length (joined (map (λ c. pairs_under d a c) cs))
first_some d a one [] some all = absurd (omega arith)
first_some d a one (c ∷ cs) some all = omega (arith, one c all.0, length-append (pairs_under d a c) (joined (map (λ e. pairs_under d a e) cs)))

pub tree_some : (d : ℕ) (a : List Page) (p : ℕ) → IsTree d a p → 0 < length (pairs_under d a p)
tree_some zero a p t = t.1
tree_some (suc d) a p t = first_some d a (tree_some d a) (page_in a p).links (parted_some (λ c. pairs_under d a c) (page_in a p).links (page_in a p).pairs t.1) t.3

pub none_empty : (d : ℕ) (a : List Page) (cs : List ℕ) → AllByRecursion (λ c. IsTree d a c) cs → NoneEmpty (map (λ c. pairs_under d a c) cs)
none_empty d a [] all = tt
none_empty d a (c ∷ cs) all = (tree_some d a c all.0, none_empty d a cs all.1)

pub parted_length : (pss : List (List Pair)) (ks : List Pair) → Parted pss ks → length pss ≡ length ks + 1
parted_length [] ks h = absurd h
parted_length (ps ∷ []) [] h = refl
parted_length (ps ∷ []) (k ∷ ks) h = absurd h
parted_length (ps ∷ qs ∷ pss) [] h = absurd h
parted_length (ps ∷ qs ∷ pss) (k ∷ ks) h = omega (arith, parted_length (qs ∷ pss) ks h.2)

pub links_length : (d : ℕ) (a : List Page) (p : ℕ) → IsTree (suc d) a p → length (page_in a p).links ≡ length (page_in a p).pairs + 1
links_length d a p t = sym (length-map (page_in a p).links (λ c. pairs_under d a c)) ∙ parted_length (map (λ c. pairs_under d a c) (page_in a p).links) (page_in a p).pairs t.1

-- the same of a page by its level, which is above the leaves
pub links_above : (level : ℕ) (a : List Page) (p : ℕ) → 0 < level → IsTree level a p → length (page_in a p).links ≡ length (page_in a p).pairs + 1
links_above zero a p inner tree = absurd (omega arith)
links_above (suc d) a p inner tree = links_length d a p tree

pub tree_in : (d : ℕ) (a : List Page) (p : ℕ) → IsTree d a p → p < length a
tree_in zero a p t = t.0
tree_in (suc d) a p t = t.0

-- ---- something is put at the end
pub insert_end : {X : Type 0} (xs : List X) (x : X) → insert xs (length xs) x ≡ xs ++ x ∷ []
insert_end [] x = refl
insert_end (y ∷ ys) x = ap (λ zs. y ∷ zs) (insert_end ys x)

pub joined-end : (pss : List (List Pair)) (ps : List Pair) → joined (pss ++ ps ∷ []) ≡ joined pss ++ ps
joined-end [] ps = append-nil ps
joined-end (qs ∷ pss) ps = ap (λ zs. qs ++ zs) (joined-end pss ps) ∙ sym (append_assoc qs (joined pss) ps)

-- the last list has more
abbrev pub grown : List Pair → List (List Pair) → List (List Pair)
grown new [] = []
grown new (ps ∷ []) = (ps ++ new) ∷ []
grown new (ps ∷ qs ∷ pss) = ps ∷ grown new (qs ∷ pss)

pub joined-grown : (new : List Pair) (pss : List (List Pair)) → 0 < length pss → joined (grown new pss) ≡ joined pss ++ new
joined-grown new [] lt = absurd (omega arith)
joined-grown new (ps ∷ []) lt = append-nil (ps ++ new) ∙ ap (λ zs. zs ++ new) (sym (append-nil ps))
joined-grown new (ps ∷ qs ∷ pss) lt = ap (λ zs. ps ++ zs) (joined-grown new (qs ∷ pss) (omega arith)) ∙ sym (append_assoc ps (joined (qs ∷ pss)) new)

pub map_grown : (f g : ℕ → List Pair) (new : List Pair) (xs : List ℕ) (m : ℕ) → suc m ≡ length xs → ((j : ℕ) → j < m → g (get_or xs j 0) ≡ f (get_or xs j 0)) → g (get_or xs m 0) ≡ f (get_or xs m 0) ++ new → map g xs ≡ grown new (map f xs)
map_grown f g new [] m e same last = absurd (omega arith)
map_grown f g new (x ∷ []) zero e same last = ap (λ ps. ps ∷ []) last
map_grown f g new (x ∷ []) (suc m) e same last = absurd (omega arith)
map_grown f g new (x ∷ y ∷ xs) zero e same last = absurd (omega arith)
map_grown f g new (x ∷ y ∷ xs) (suc m) e same last =
    let first = same 0 (omega arith) in
    let rest = map_grown f g new (y ∷ xs) m (omega arith) (λ j lt. same (suc j) (omega arith)) last in
    λ i. first i ∷ rest i

-- q is not below k, and before p
between : (q k p : Pair) → before q k ≡ false → before q p ≡ true → before k p ≡ true
between q k p l h = step (pair_cmp q k) refl
  where
    step : (o : Ordering) → pair_cmp q k ≡ o → before k p ≡ true
    step Less o = absurd (false≢true (sym l ∙ ap is_lt o))
    step Equal o = subst (λ x. before x p ≡ true) (exact_pair q k o) h
    step Greater o = ap is_lt (before_trans k q p (pairs_total.antisymm k q ∙ ap ordering_reverse o) (before_is q p h))

key_below : (k p : Pair) (qs : List Pair) → 0 < length qs → AllFrom k qs → AllBefore p qs → before k p ≡ true
key_below k p [] some from above = absurd (omega arith)
key_below k p (q ∷ qs) some from above = between q k p from.0 above.0

pub not_itself : (p : Pair) → before p p ≡ false
not_itself p = elim (before p p) as (λ t. before p p ≡ t → t ≡ false) [
  | true ↦ λ e. absurd (irreflexive p (before_is p p e))
  | false ↦ λ e. refl
] refl

-- where a pair is after all others, it is after the keys between them
pub keys_below : (p : Pair) (pss : List (List Pair)) (ks : List Pair) → Parted pss ks → NoneEmpty pss → AllBefore p (joined pss) → AllBefore p ks
keys_below p [] ks h some above = absurd h
keys_below p (ps ∷ []) [] h some above = tt
keys_below p (ps ∷ []) (k ∷ ks) h some above = absurd h
keys_below p (ps ∷ qs ∷ pss) [] h some above = absurd h
keys_below p (ps ∷ qs ∷ pss) (k ∷ ks) h some above =
    let rest : AllBefore p (joined (qs ∷ pss)) = all_back (λ q. before q p ≡ true) ps (joined (qs ∷ pss)) above in
    (key_below k p qs some.1.0 h.1 (all_front (λ q. before q p ≡ true) qs (joined pss) rest), keys_below p (qs ∷ pss) ks h.2 some.1 rest)

-- what isn't before p isn't before what stands before p
still_from : (k p q : Pair) → before k p ≡ true → before q p ≡ false → before q k ≡ false
still_from k p q h l = elim (before q k) as (λ t. before q k ≡ t → t ≡ false) [
  | true ↦ λ e. absurd (false≢true (sym l ∙ ap is_lt (before_trans q k p (before_is q k e) (before_is k p h))))
  | false ↦ λ e. refl
] refl

all_still : (k p : Pair) (qs : List Pair) → before k p ≡ true → AllFrom p qs → AllFrom k qs
all_still k p [] h all = tt
all_still k p (q ∷ qs) h all = (still_from k p q h all.0, all_still k p qs h all.1)

-- p parts what was there from what is new
pub parted-grown : (p : Pair) (new : List Pair) (pss : List (List Pair)) (ks : List Pair) → Parted pss ks → NoneEmpty pss → AllBefore p (joined pss) → AllFrom p new → Parted (grown new pss) ks
parted-grown p new [] ks h some above from = absurd h
parted-grown p new (ps ∷ []) [] h some above from = tt
parted-grown p new (ps ∷ []) (k ∷ ks) h some above from = absurd h
parted-grown p new (ps ∷ qs ∷ pss) [] h some above from = absurd h
parted-grown p new (ps ∷ qs ∷ []) (k ∷ ks) h some above from =
    let rest : AllBefore p (joined (qs ∷ [])) = all_back (λ q. before q p ≡ true) ps (joined (qs ∷ [])) above in
    let after : before k p ≡ true = key_below k p qs some.1.0 h.1 (all_front (λ q. before q p ≡ true) qs [] rest) in
    (h.0, all_both (λ q. before q k ≡ false) qs new h.1 (all_still k p new after from), parted-grown p new (qs ∷ []) ks h.2 some.1 rest from)
parted-grown p new (ps ∷ qs ∷ rs ∷ pss) (k ∷ ks) h some above from =
    (h.0, h.1, parted-grown p new (qs ∷ rs ∷ pss) ks h.2 some.1 (all_back (λ q. before q p ≡ true) ps (joined (qs ∷ rs ∷ pss)) above) from)

pub parted-end : (p : Pair) (new : List Pair) (pss : List (List Pair)) (ks : List Pair) → Parted pss ks → AllBefore p (joined pss) → AllFrom p new → Parted (pss ++ new ∷ []) (ks ++ p ∷ [])
parted-end p new [] ks h above from = absurd h
parted-end p new (ps ∷ []) [] h above from = (all_front (λ q. before q p ≡ true) ps [] above, from, tt)
parted-end p new (ps ∷ []) (k ∷ ks) h above from = absurd h
parted-end p new (ps ∷ qs ∷ pss) [] h above from = absurd h
parted-end p new (ps ∷ qs ∷ pss) (k ∷ ks) h above from = (h.0, h.1, parted-end p new (qs ∷ pss) ks h.2 (all_back (λ q. before q p ≡ true) ps (joined (qs ∷ pss)) above) from)

-- ---- the first of pairs that come after others
pub first_after : (xs ps : List Pair) (d : Pair) → AreInOrder (xs ++ ps) → 0 < length ps → AllBefore (get_or ps 0 d) xs
unfolding IsStrictlySortedBy
first_after [] ps d s some = tt
first_after (x ∷ xs) ps d s some =
    let less : AllByRecursion (λ q. pair_cmp x q ≡ Less) ps = all_back (λ q. pair_cmp x q ≡ Less) xs ps s.0 in
    (ap is_lt (All-from_recursion (λ q. pair_cmp x q ≡ Less) ps less 0 d some), first_after xs ps d s.1 some)

none_before : (p : Pair) (qs : List Pair) → AllByRecursion (λ q. pair_cmp p q ≡ Less) qs → AllFrom p qs
none_before p [] h = tt
none_before p (q ∷ qs) h = (not_after p q h.0, none_before p qs h.1)

pub none_before_first : (ps : List Pair) (d : Pair) → AreInOrder ps → 0 < length ps → AllFrom (get_or ps 0 d) ps
unfolding IsStrictlySortedBy
none_before_first [] d s some = absurd (omega arith)
none_before_first (p ∷ ps) d s some = (not_itself p, none_before p ps s.0)
