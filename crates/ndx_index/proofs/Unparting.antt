-- A pair is taken out of one of several lists that keys part.
use Rattle.std.proofs.Common.{◌≡◌, ℕ, zero, suc, ◌+◌, ◌<◌, true, false, not, List, [], ◌∷◌, ◌++◌, map, length, get_or, set, Contains, refl, ap, sym, ◌∙◌, subst, ⊎_elim, arith}
use Rattle.std.specs.List.{AllByRecursion, remove}
use Rattle.std.specs.List.Sorted.{IsStrictlySortedBy}
use Rattle.std.specs.Ordering.{is_lt}
use Rattle.std.specs.declared.cmp.Ordering.TheVariants.{Less}
use Rattle.std.proofs.lemmas.Bool.{false≢true}
use Rattle.std.proofs.lemmas.List.{append-nil}
use Rattle.std.proofs.lemmas.List.Elements.{All-from_recursion, filter-append, Contains-append_cases}
use Rattle.ndx_index.specs.declared.pair.Pair.{Pair}
use Rattle.ndx_index.specs.Order.{pair_cmp, before, same, without_pair, AreInOrder}
use Rattle.ndx_index.specs.PageStore.{keys_without}
use Rattle.ndx_index.specs.IndexTree.{joined, total, AllBefore, AllFrom, Parted}
use Rattle.ndx_index.specs.TreeSteps.{Chosen}
use Rattle.ndx_index.specs.Laws.Comparing.{before_is, before_trans, same_itself}
use Rattle.ndx_index.specs.Laws.Sorting.{without_absent}
use Rattle.ndx_index.proofs.Order.{all-filter}
use Rattle.ndx_index.proofs.TreeLists.{all_from, map_same, total_same}

-- what a pair isn't like, it isn't among
absent_if : (P : Pair → Type 0) (pair : Pair) (ps : List Pair) → AllByRecursion P ps → (P pair → ⊥) → Contains ps pair → ⊥
absent_if P pair ps all never h = never (subst P h.2 (All-from_recursion P ps all h.0 pair h.1))

absent_below : (pair k : Pair) (ps : List Pair) → AllBefore k ps → before pair k ≡ false → Contains ps pair → ⊥
absent_below pair k ps all h = absent_if (λ q. before q k ≡ true) pair ps all (λ t. false≢true (sym h ∙ t))

absent_above : (pair k : Pair) (ps : List Pair) → AllFrom k ps → before pair k ≡ true → Contains ps pair → ⊥
absent_above pair k ps all h = absent_if (λ q. before q k ≡ false) pair ps all (λ t. false≢true (sym t ∙ h))

-- what isn't before a key isn't before a lesser one
from_less : (k l : Pair) (ps : List Pair) → pair_cmp k l ≡ Less → AllFrom l ps → AllFrom k ps
from_less k l [] less all = tt
from_less k l (p ∷ ps) less all = (here, from_less k l ps less all.1)
  where
    here : before p k ≡ false
    here = elim (before p k) as (λ b. before p k ≡ b → b ≡ false) [
      | true ↦ λ e. absurd (false≢true (sym all.0 ∙ ap is_lt (before_trans p k l (before_is p k e) less)))
      | false ↦ λ e. refl
    ] refl

all_joined : (P : Pair → Type 0) (xs ys : List Pair) → AllByRecursion P xs → AllByRecursion P ys → AllByRecursion P (xs ++ ys)
all_joined P [] ys a b = b
all_joined P (x ∷ xs) ys a b = (a.0, all_joined P xs ys a.1 b)

-- the lists after a key
from_first : (k : Pair) (ps : List Pair) (pss : List (List Pair)) (ks : List Pair) → AllFrom k ps → Parted (ps ∷ pss) ks → AllByRecursion (λ x. pair_cmp k x ≡ Less) ks → AllFrom k (joined (ps ∷ pss))
from_first k ps [] [] own parted less = subst (λ (l : List Pair). AllFrom k l) (sym (append-nil ps)) own
from_first k ps [] (l ∷ ks) own parted less = absurd parted
from_first k ps (qs ∷ pss) [] own parted less = absurd parted
from_first k ps (qs ∷ pss) (l ∷ ks) own parted less = all_joined (λ q. before q k ≡ false) ps (joined (qs ∷ pss)) own (from_first k qs pss ks (from_less k l qs less.0 parted.1) parted.2 less.1)

abbrev pub take_out : Pair → ℕ → List (List Pair) → List (List Pair)
take_out pair i pss = set pss i (without_pair pair (get_or pss i []))

-- a pair goes out of all lists where it goes out of the chosen one
pub record TakesOutOfOne (pair : Pair) (i : ℕ) (pss : List (List Pair)) (ks : List Pair) : Type 0 where
  pub held : Contains (joined pss) pair → Contains (get_or pss i []) pair
  pub pairs : joined (take_out pair i pss) ≡ without_pair pair (joined pss)
  pub parted : Parted (take_out pair i pss) ks

held_first : (pair : Pair) (xs ys : List Pair) → (Contains ys pair → ⊥) → Contains (xs ++ ys) pair → Contains xs pair
held_first pair xs ys absent h = ⊎_elim (λ (own : Contains xs pair). own) (λ (other : Contains ys pair). absurd (absent other)) (Contains-append_cases xs ys pair h)

held_second : (pair : Pair) (xs ys : List Pair) → (Contains xs pair → ⊥) → Contains (xs ++ ys) pair → Contains ys pair
held_second pair xs ys absent h = ⊎_elim (λ (own : Contains xs pair). absurd (absent own)) (λ (other : Contains ys pair). other) (Contains-append_cases xs ys pair h)

out_of_first : (pair : Pair) (xs ys : List Pair) → (Contains ys pair → ⊥) → without_pair pair xs ++ ys ≡ without_pair pair (xs ++ ys)
out_of_first pair xs ys absent = ap (λ (l : List Pair). without_pair pair xs ++ l) (sym (without_absent pair ys absent)) ∙ sym (filter-append (λ q. not (same pair q)) xs ys)

out_of_second : (pair : Pair) (xs ys : List Pair) → (Contains xs pair → ⊥) → xs ++ without_pair pair ys ≡ without_pair pair (xs ++ ys)
out_of_second pair xs ys absent = ap (λ (l : List Pair). l ++ without_pair pair ys) (sym (without_absent pair xs absent)) ∙ sym (filter-append (λ q. not (same pair q)) xs ys)

pub takes_out_of_one : (pair : Pair) (i : ℕ) (pss : List (List Pair)) (ks : List Pair) → Parted pss ks → AreInOrder ks → Chosen pair i ks → TakesOutOfOne pair i pss ks
unfolding IsStrictlySortedBy
takes_out_of_one pair i [] ks parted order chosen = absurd parted
takes_out_of_one pair zero (ps ∷ []) [] parted order chosen = record {
  held = λ h. subst (λ (l : List Pair). Contains l pair) (append-nil ps) h;
  pairs = append-nil (without_pair pair ps) ∙ ap (without_pair pair) (sym (append-nil ps));
  parted = tt;
}
takes_out_of_one pair (suc i) (ps ∷ []) [] parted order chosen = absurd chosen
takes_out_of_one pair i (ps ∷ []) (k ∷ ks) parted order chosen = absurd parted
takes_out_of_one pair i (ps ∷ qs ∷ pss) [] parted order chosen = absurd parted
takes_out_of_one pair zero (ps ∷ qs ∷ pss) (k ∷ ks) parted order chosen =
    let absent = absent_above pair k (joined (qs ∷ pss)) (from_first k qs pss ks parted.1 parted.2 order.0) chosen in
    record {
      held = held_first pair ps (joined (qs ∷ pss)) absent;
      pairs = out_of_first pair ps (joined (qs ∷ pss)) absent;
      parted = (all-filter (λ q. before q k ≡ true) (λ q. not (same pair q)) ps parted.0, parted.1, parted.2);
    }
takes_out_of_one pair (suc zero) (ps ∷ qs ∷ pss) (k ∷ ks) parted order chosen =
    let absent = absent_below pair k ps parted.0 chosen.0 in
    let rest = takes_out_of_one pair zero (qs ∷ pss) ks parted.2 order.1 chosen.1 in
    record {
      held = λ h. rest.held (held_second pair ps (joined (qs ∷ pss)) absent h);
      pairs = ap (λ (l : List Pair). ps ++ l) rest.pairs ∙ out_of_second pair ps (joined (qs ∷ pss)) absent;
      parted = (parted.0, all-filter (λ q. before q k ≡ false) (λ q. not (same pair q)) qs parted.1, rest.parted);
    }
takes_out_of_one pair (suc (suc i)) (ps ∷ qs ∷ pss) (k ∷ ks) parted order chosen =
    let absent = absent_below pair k ps parted.0 chosen.0 in
    let rest = takes_out_of_one pair (suc i) (qs ∷ pss) ks parted.2 order.1 chosen.1 in
    record {
      held = λ h. rest.held (held_second pair ps (joined (qs ∷ pss)) absent h);
      pairs = ap (λ (l : List Pair). ps ++ l) rest.pairs ∙ out_of_second pair ps (joined (qs ∷ pss)) absent;
      parted = (parted.0, parted.1, rest.parted);
    }

-- ---- a list that becomes empty goes

joined_remove : (pss : List (List Pair)) (i : ℕ) → i < length pss → joined (set pss i []) ≡ joined (remove pss i)
joined_remove [] i lt = absurd (omega (arith, lt))
joined_remove (ps ∷ pss) zero lt = refl
joined_remove (ps ∷ pss) (suc i) lt = ap (λ (l : List Pair). ps ++ l) (joined_remove pss i (omega (arith, lt)))

pub without_itself : (pair : Pair) → without_pair pair (pair ∷ []) ≡ []
without_itself pair = rw (same_itself pair) refl

pub out_of_last : (pair : Pair) (i : ℕ) (pss : List (List Pair)) (ks : List Pair) → TakesOutOfOne pair i pss ks → i < length pss → get_or pss i [] ≡ pair ∷ [] → joined (remove pss i) ≡ without_pair pair (joined pss)
out_of_last pair i pss ks takes lt only =
    sym (joined_remove pss i lt) ∙ ap (λ (l : List Pair). joined (set pss i l)) (sym (ap (without_pair pair) only ∙ without_itself pair)) ∙ takes.pairs

before_less : (k l : Pair) (ps : List Pair) → pair_cmp k l ≡ Less → AllBefore k ps → AllBefore l ps
before_less k l [] less all = tt
before_less k l (p ∷ ps) less all = (ap is_lt (before_trans p k l (before_is p k all.0) less), before_less k l ps less all.1)

pub parted_remove : (i : ℕ) (pss : List (List Pair)) (ks : List Pair) → Parted pss ks → AreInOrder ks → i < length pss → 1 < length pss → Parted (remove pss i) (keys_without i ks)
unfolding IsStrictlySortedBy
parted_remove i [] ks parted order lt more = absurd parted
parted_remove i (ps ∷ []) ks parted order lt more = absurd (omega (arith, more))
parted_remove i (ps ∷ qs ∷ pss) [] parted order lt more = absurd parted
parted_remove zero (ps ∷ qs ∷ pss) (k ∷ ks) parted order lt more = parted.2
parted_remove (suc zero) (ps ∷ qs ∷ []) (k ∷ []) parted order lt more = tt
parted_remove (suc zero) (ps ∷ qs ∷ []) (k ∷ l ∷ ks) parted order lt more = absurd parted.2
parted_remove (suc zero) (ps ∷ qs ∷ rs ∷ pss) (k ∷ []) parted order lt more = absurd parted.2
parted_remove (suc zero) (ps ∷ qs ∷ rs ∷ pss) (k ∷ l ∷ ks) parted order lt more = (before_less k l ps order.0.0 parted.0, parted.2.1, parted.2.2)
parted_remove (suc (suc i)) (ps ∷ qs ∷ []) (k ∷ ks) parted order lt more = absurd (omega (arith, lt))
parted_remove (suc (suc i)) (ps ∷ qs ∷ rs ∷ pss) (k ∷ []) parted order lt more = absurd parted.2
parted_remove (suc (suc i)) (ps ∷ qs ∷ rs ∷ pss) (k ∷ l ∷ ks) parted order lt more =
    (parted.0, parted.1, parted_remove (suc i) (qs ∷ rs ∷ pss) (l ∷ ks) parted.2 order.1 (omega (arith, lt)) (omega arith))

all_remove : (P : Pair → Type 0) (ps : List Pair) (i : ℕ) → AllByRecursion P ps → AllByRecursion P (remove ps i)
all_remove P [] zero all = tt
all_remove P [] (suc i) all = tt
all_remove P (p ∷ ps) zero all = all.1
all_remove P (p ∷ ps) (suc i) all = (all.0, all_remove P ps i all.1)

order_remove : (ps : List Pair) (i : ℕ) → AreInOrder ps → AreInOrder (remove ps i)
unfolding IsStrictlySortedBy
order_remove [] zero order = tt
order_remove [] (suc i) order = tt
order_remove (p ∷ ps) zero order = order.1
order_remove (p ∷ ps) (suc i) order = (all_remove (λ q. pair_cmp p q ≡ Less) ps i order.0, order_remove ps i order.1)

pub order_without : (i : ℕ) (ks : List Pair) → AreInOrder ks → AreInOrder (keys_without i ks)
order_without zero ks order = order_remove ks 0 order
order_without (suc i) ks order = order_remove ks i order

-- ---- the links with one fewer

pub map_remove : {X : Type 0} (f : ℕ → X) (xs : List ℕ) (i : ℕ) → map f (remove xs i) ≡ remove (map f xs) i
map_remove f [] zero = refl
map_remove f [] (suc i) = refl
map_remove f (x ∷ xs) zero = refl
map_remove f (x ∷ xs) (suc i) = ap (λ ys. f x ∷ ys) (map_remove f xs i)

pub total_remove : (f : ℕ → ℕ) (xs : List ℕ) (i : ℕ) → i < length xs → total f (remove xs i) + f (get_or xs i 0) ≡ total f xs
total_remove f [] i lt = absurd (omega (arith, lt))
total_remove f (x ∷ xs) zero lt = omega arith
total_remove f (x ∷ xs) (suc i) lt = let h = total_remove f xs i (omega (arith, lt)) in omega (arith, h)

-- what holds of all but one holds of those that are left
pub all_but : (P : ℕ → Type 0) (xs : List ℕ) (i : ℕ) → ((j : ℕ) → j < length xs → (j ≡ i → ⊥) → P (get_or xs j 0)) → AllByRecursion P (remove xs i)
all_but P [] zero each = tt
all_but P [] (suc i) each = tt
all_but P (x ∷ xs) zero each = all_from P xs (λ j lt. each (suc j) (omega (arith, lt)) (λ e. omega (arith, e)))
all_but P (x ∷ xs) (suc i) each = (each 0 (omega arith) (λ e. omega (arith, e)), all_but P xs i (λ j lt ne. each (suc j) (omega (arith, lt)) (λ e. ne (omega (arith, e)))))

-- what agrees at all but one agrees at those that are left
pub map_but : {X : Type 0} (f g : ℕ → X) (xs : List ℕ) (i : ℕ) → ((j : ℕ) → j < length xs → (j ≡ i → ⊥) → g (get_or xs j 0) ≡ f (get_or xs j 0)) → map g (remove xs i) ≡ map f (remove xs i)
map_but f g [] zero same = refl
map_but f g [] (suc i) same = refl
map_but f g (x ∷ xs) zero same = map_same f g xs (λ j lt. same (suc j) (omega (arith, lt)) (λ e. omega (arith, e)))
map_but f g (x ∷ xs) (suc i) same = rw (same 0 (omega arith) (λ e. omega (arith, e)), map_but f g xs i (λ j lt ne. same (suc j) (omega (arith, lt)) (λ e. ne (omega (arith, e))))) refl

pub total_but : (f g : ℕ → ℕ) (xs : List ℕ) (i : ℕ) → ((j : ℕ) → j < length xs → (j ≡ i → ⊥) → g (get_or xs j 0) ≡ f (get_or xs j 0)) → total g (remove xs i) ≡ total f (remove xs i)
total_but f g [] zero same = refl
total_but f g [] (suc i) same = refl
total_but f g (x ∷ xs) zero same = total_same f g xs (λ j lt. same (suc j) (omega (arith, lt)) (λ e. omega (arith, e)))
total_but f g (x ∷ xs) (suc i) same = rw (same 0 (omega arith) (λ e. omega (arith, e)), total_but f g xs i (λ j lt ne. same (suc j) (omega (arith, lt)) (λ e. ne (omega (arith, e))))) refl
