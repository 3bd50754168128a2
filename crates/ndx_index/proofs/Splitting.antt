-- One of several lists that keys part is cut in two.
use Rattle.std.proofs.Common.{◌≡◌, ℕ, zero, suc, ◌+◌, ◌<◌, ◌≤◌, true, false, List, [], ◌∷◌, ◌++◌, map, length, get_or, refl, ap, sym, ◌∙◌, subst, append_assoc, arith}
use Rattle.std.specs.List.{AllByRecursion, insert}
use Rattle.std.specs.List.Sorted.{IsStrictlySortedBy}
use Rattle.std.specs.Ordering.{is_lt, ordering_reverse}
use Rattle.std.specs.declared.cmp.Ordering.{Ordering}
use Rattle.std.specs.declared.cmp.Ordering.TheVariants.{Less, Equal, Greater}
use Rattle.std.proofs.lemmas.Bool.{false≢true}
use Rattle.ndx_index.specs.declared.pair.Pair.{Pair}
use Rattle.ndx_index.specs.Order.{pair_cmp, before, AreInOrder}
use Rattle.ndx_index.specs.Laws.Comparing.{pairs_total, exact_pair, before_is, before_trans}
use Rattle.ndx_index.specs.IndexTree.{joined, total, AllBefore, AllFrom, Parted}

-- k isn't after a, and a stands before m
after_key : (k a m : Pair) → before a k ≡ false → before a m ≡ true → pair_cmp k m ≡ Less
after_key k a m h l = step (pair_cmp k a) refl
  where
    step : (o : Ordering) → pair_cmp k a ≡ o → pair_cmp k m ≡ Less
    step Less o = before_trans k a m o (before_is a m l)
    step Equal o = subst (λ x. pair_cmp x m ≡ Less) (sym (exact_pair k a o)) (before_is a m l)
    step Greater o = absurd (false≢true (sym h ∙ ap is_lt (pairs_total.antisymm a k ∙ ap ordering_reverse o)))

-- the i-th of the lists cut in two
abbrev pub two : {X : Type 0} → ℕ → X → X → List X → List X
two i u v [] = []
two zero u v (x ∷ xs) = u ∷ v ∷ xs
two (suc i) u v (x ∷ xs) = x ∷ two i u v xs

abbrev pub key_in : ℕ → Pair → List Pair → List Pair
key_in zero m ks = m ∷ ks
key_in (suc i) m [] = m ∷ []
key_in (suc i) m (k ∷ ks) = k ∷ key_in i m ks

pub key_in_is : (i : ℕ) (m : Pair) (ks : List Pair) → i ≤ length ks → insert ks i m ≡ key_in i m ks
key_in_is zero m ks le = refl
key_in_is (suc i) m [] le = absurd (omega arith)
key_in_is (suc i) m (k ∷ ks) le = ap (λ xs. k ∷ xs) (key_in_is i m ks (omega arith))

front_of : (P : Pair → Type 0) (xs ys : List Pair) → AllByRecursion P (xs ++ ys) → AllByRecursion P xs
front_of P [] ys h = tt
front_of P (x ∷ xs) ys h = (h.0, front_of P xs ys h.1)

back_of : (P : Pair → Type 0) (xs ys : List Pair) → AllByRecursion P (xs ++ ys) → AllByRecursion P ys
back_of P [] ys h = h
back_of P (x ∷ xs) ys h = back_of P xs ys h.1

all_keys : (P : Pair → Type 0) (i : ℕ) (m : Pair) (ks : List Pair) → P m → AllByRecursion P ks → AllByRecursion P (key_in i m ks)
all_keys P zero m ks h all = (h, all)
all_keys P (suc i) m [] h all = (h, tt)
all_keys P (suc i) m (k ∷ ks) h all = (all.0, all_keys P i m ks h all.1)

less_all : (m k : Pair) (ks : List Pair) → pair_cmp m k ≡ Less → AllByRecursion (λ x. pair_cmp k x ≡ Less) ks → AllByRecursion (λ x. pair_cmp m x ≡ Less) ks
less_all m k [] h all = tt
less_all m k (x ∷ xs) h all = (before_trans m k x h all.0, less_all m k xs h all.1)

-- the first key, if there is one before the i-th list, stands before m
abbrev FirstKeyLess : ℕ → List Pair → Pair → Type 0
FirstKeyLess zero ks m = Unit {0}
FirstKeyLess (suc i) [] m = Unit {0}
FirstKeyLess (suc i) (k ∷ ks) m = pair_cmp k m ≡ Less

pub record CutsOne (i : ℕ) (us vs : List Pair) (m : Pair) (pss : List (List Pair)) (ks : List Pair) : Type 0 where
  pub pairs : joined (two i us vs pss) ≡ joined pss
  pub parted : Parted (two i us vs pss) (key_in i m ks)
  pub order : AreInOrder (key_in i m ks)
  pub first : FirstKeyLess i ks m

m_below : (m k v : Pair) → before v m ≡ false → before v k ≡ true → pair_cmp m k ≡ Less
m_below m k v h l = after_key m v k h l

first_of : (us vs ps : List Pair) (k : Pair) (m : Pair) → us ++ vs ≡ ps → 0 < length us → AllFrom k ps → AllBefore m us → pair_cmp k m ≡ Less
first_of [] vs ps k m e some from bef = absurd (omega arith)
first_of (u ∷ us) vs ps k m e some from bef =
    let all : AllFrom k ((u ∷ us) ++ vs) = subst (λ xs. AllFrom k xs) (sym e) from in
    after_key k u m all.0 bef.0

last_of : (us vs ps : List Pair) (k m : Pair) → us ++ vs ≡ ps → 0 < length vs → AllBefore k ps → AllFrom m vs → pair_cmp m k ≡ Less
last_of us [] ps k m e some bef from = absurd (omega arith)
last_of us (v ∷ vs) ps k m e some bef from =
    let all : AllBefore k (v ∷ vs) = back_of (λ q. before q k ≡ true) us (v ∷ vs) (subst (λ xs. AllBefore k xs) (sym e) bef) in
    after_key m v k from.0 all.0

module _ (us vs : List Pair) (m : Pair) (some_us : 0 < length us) (some_vs : 0 < length vs) (bef : AllBefore m us) (from : AllFrom m vs) where
  pub cuts_one : (i : ℕ) (pss : List (List Pair)) (ks : List Pair) → Parted pss ks → AreInOrder ks → i < length pss → us ++ vs ≡ get_or pss i [] → CutsOne i us vs m pss ks
  unfolding IsStrictlySortedBy
  cuts_one i [] ks parted order lt e = absurd parted
  cuts_one zero (ps ∷ []) [] parted order lt e = record {
    pairs = sym (append_assoc us vs []) ∙ ap (λ xs. xs ++ []) e;
    parted = (bef, from, tt);
    order = (tt, tt);
    first = tt;
  }
  cuts_one (suc i) (ps ∷ []) [] parted order lt e = absurd (omega arith)
  cuts_one i (ps ∷ []) (k ∷ ks) parted order lt e = absurd parted
  cuts_one i (ps ∷ qs ∷ pss) [] parted order lt e = absurd parted
  cuts_one zero (ps ∷ qs ∷ pss) (k ∷ ks) parted order lt e =
      let below_k = last_of us vs ps k m e some_vs parted.0 from in
      record {
        pairs = sym (append_assoc us vs (joined (qs ∷ pss))) ∙ ap (λ xs. xs ++ joined (qs ∷ pss)) e;
        parted = (bef, from, (back_of (λ q. before q k ≡ true) us vs (subst (λ xs. AllBefore k xs) (sym e) parted.0), parted.1, parted.2));
        order = ((below_k, less_all m k ks below_k order.0), order);
        first = tt;
      }
  cuts_one (suc zero) (ps ∷ qs ∷ pss) (k ∷ ks) parted order lt e =
      let rest = cuts_one zero (qs ∷ pss) ks parted.2 order.1 (omega arith) e in
      let less : pair_cmp k m ≡ Less = first_of us vs qs k m e some_us parted.1 bef in
      record {
        pairs = ap (λ xs. ps ++ xs) rest.pairs;
        parted = (parted.0, front_of (λ q. before q k ≡ false) us vs (subst (λ xs. AllFrom k xs) (sym e) parted.1), rest.parted);
        order = (all_keys (λ x. pair_cmp k x ≡ Less) zero m ks less order.0, rest.order);
        first = less;
      }
  cuts_one (suc (suc i)) (ps ∷ qs ∷ []) (k ∷ ks) parted order lt e = absurd (omega arith)
  cuts_one (suc (suc i)) (ps ∷ qs ∷ rs ∷ pss) (k ∷ []) parted order lt e = absurd parted.2
  cuts_one (suc (suc i)) (ps ∷ qs ∷ rs ∷ pss) (k ∷ l ∷ ks) parted order lt e =
      let rest = cuts_one (suc i) (qs ∷ rs ∷ pss) (l ∷ ks) parted.2 order.1 (omega arith) e in
      let less : pair_cmp k m ≡ Less = before_trans k l m order.0.0 rest.first in
      record {
        pairs = ap (λ xs. ps ++ xs) rest.pairs;
        parted = (parted.0, parted.1, rest.parted);
        order = (all_keys (λ x. pair_cmp k x ≡ Less) (suc i) m (l ∷ ks) less order.0, rest.order);
        first = less;
      }

-- ---- the links with one more
pub map_two : {X : Type 0} (f g : ℕ → X) (xs : List ℕ) (i q : ℕ) → i < length xs → ((j : ℕ) → j < length xs → (j ≡ i → ⊥) → g (get_or xs j 0) ≡ f (get_or xs j 0)) → map g (insert xs (suc i) q) ≡ two i (g (get_or xs i 0)) (g q) (map f xs)
map_two f g [] i q lt same = absurd (omega arith)
map_two f g (x ∷ xs) zero q lt same = ap (λ ys. g x ∷ g q ∷ ys) (rest xs (λ j l. same (suc j) (omega arith) (λ e. omega arith)))
  where
    rest : (ys : List ℕ) → ((j : ℕ) → j < length ys → g (get_or ys j 0) ≡ f (get_or ys j 0)) → map g ys ≡ map f ys
    rest [] h = refl
    rest (y ∷ ys) h = rw (h 0 (omega arith), rest ys (λ j l. h (suc j) (omega arith))) refl
map_two f g (x ∷ xs) (suc i) q lt same = rw (same 0 (omega arith) (λ e. omega arith), map_two f g xs i q (omega arith) (λ j l ne. same (suc j) (omega arith) (λ e. ne (omega arith)))) refl

pub total_insert : (f : ℕ → ℕ) (xs : List ℕ) (i q : ℕ) → total f (insert xs i q) ≡ f q + total f xs
total_insert f xs zero q = refl
total_insert f [] (suc i) q = refl
total_insert f (x ∷ xs) (suc i) q = let h = total_insert f xs i q in omega arith
