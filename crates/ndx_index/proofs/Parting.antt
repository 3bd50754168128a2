-- A pair goes into one of several lists that keys part.
use Rattle.std.proofs.Common.{◌≡◌, ℕ, zero, suc, ◌<◌, true, false, cond, List, [], ◌∷◌, ◌++◌, length, get_or, set, refl, ap, sym, ◌∙◌, subst, arith}
use Rattle.std.specs.List.{AllByRecursion}
use Rattle.std.specs.Ordering.{is_lt, ordering_reverse}
use Rattle.std.specs.declared.cmp.Ordering.{Ordering}
use Rattle.std.specs.declared.cmp.Ordering.TheVariants.{Less, Equal, Greater}
use Rattle.std.proofs.lemmas.Bool.{false≢true}
use Rattle.std.proofs.lemmas.List.{append-nil}
use Rattle.ndx_index.specs.declared.pair.Pair.{Pair}
use Rattle.ndx_index.specs.Order.{pair_cmp, before, with_pair}
use Rattle.ndx_index.specs.Laws.Comparing.{pairs_total, exact_pair, before_is, before_trans}
use Rattle.ndx_index.specs.Laws.Sorting.{all-with_pair}
use Rattle.ndx_index.specs.IndexTree.{joined, AllBefore, AllFrom, Parted}
use Rattle.ndx_index.specs.TreeSteps.{Chosen}

-- q stands before k, and k not after p
below : (q k p : Pair) → before q k ≡ true → before p k ≡ false → before q p ≡ true
below q k p h l = step (pair_cmp k p) refl
  where
    step : (o : Ordering) → pair_cmp k p ≡ o → before q p ≡ true
    step Less o = ap is_lt (before_trans q k p (before_is q k h) o)
    step Equal o = subst (λ x. before q x ≡ true) (exact_pair k p o) h
    step Greater o = absurd (false≢true (sym l ∙ ap is_lt (pairs_total.antisymm p k ∙ ap ordering_reverse o)))

-- p stands before k, and k not after b
not_below : (b k p : Pair) → before p k ≡ true → before b k ≡ false → before b p ≡ false
not_below b k p h l = elim (before b p) as (λ t. before b p ≡ t → t ≡ false) [
  | true ↦ λ e. absurd (false≢true (sym l ∙ ap is_lt (before_trans b p k (before_is b p e) (before_is p k h))))
  | false ↦ λ e. refl
] refl

-- the list begins with no pair before p
abbrev StartsFrom : Pair → List Pair → Type 0
StartsFrom p [] = Unit {0}
StartsFrom p (y ∷ ys) = before y p ≡ false

with_pair_front : (p : Pair) (xs ys : List Pair) → StartsFrom p ys → with_pair p xs ++ ys ≡ with_pair p (xs ++ ys)
with_pair_front p [] [] s = refl
with_pair_front p [] (y ∷ ys) s = rw s refl
with_pair_front p (x ∷ xs) ys s = elim (before x p) as (λ b. cond b (x ∷ with_pair p xs) (p ∷ x ∷ xs) ++ ys ≡ cond b (x ∷ with_pair p (xs ++ ys)) (p ∷ x ∷ (xs ++ ys))) [
  | true ↦ ap (λ zs. x ∷ zs) (with_pair_front p xs ys s)
  | false ↦ refl
]

with_pair_back : (p k : Pair) (xs ys : List Pair) → AllBefore k xs → before p k ≡ false → xs ++ with_pair p ys ≡ with_pair p (xs ++ ys)
with_pair_back p k [] ys all h = refl
with_pair_back p k (x ∷ xs) ys all h = rw (below x k p all.0 h) (ap (λ zs. x ∷ zs) (with_pair_back p k xs ys all.1 h))

starts : (p k : Pair) (qs : List Pair) (pss : List (List Pair)) → 0 < length qs → AllFrom k qs → before p k ≡ true → StartsFrom p (qs ++ joined pss)
starts p k [] pss some all h = absurd (omega arith)
starts p k (q ∷ qs) pss some all h = not_below q k p h all.0

abbrev pub NoneEmpty : List (List Pair) → Type 0
NoneEmpty pss = AllByRecursion (λ ps. 0 < length ps) pss

abbrev pub put_in : Pair → ℕ → List (List Pair) → List (List Pair)
put_in p i pss = set pss i (with_pair p (get_or pss i []))

pub record PutsInOne (p : Pair) (i : ℕ) (pss : List (List Pair)) (ks : List Pair) : Type 0 where
  pub pairs : joined (put_in p i pss) ≡ with_pair p (joined pss)
  pub parted : Parted (put_in p i pss) ks

pub puts_in_one : (p : Pair) (i : ℕ) (pss : List (List Pair)) (ks : List Pair) → Parted pss ks → NoneEmpty pss → Chosen p i ks → PutsInOne p i pss ks
puts_in_one p i [] ks parted some chosen = absurd parted
puts_in_one p zero (ps ∷ []) [] parted some chosen = record {
  pairs = append-nil (with_pair p ps) ∙ ap (with_pair p) (sym (append-nil ps));
  parted = tt;
}
puts_in_one p (suc i) (ps ∷ []) [] parted some chosen = absurd chosen
puts_in_one p i (ps ∷ []) (k ∷ ks) parted some chosen = absurd parted
puts_in_one p i (ps ∷ qs ∷ pss) [] parted some chosen = absurd parted
puts_in_one p zero (ps ∷ qs ∷ pss) (k ∷ ks) parted some chosen = record {
  pairs = with_pair_front p ps (joined (qs ∷ pss)) (starts p k qs pss some.1.0 parted.1 chosen);
  parted = (all-with_pair (λ q. before q k ≡ true) p ps chosen parted.0, parted.1, parted.2);
}
puts_in_one p (suc zero) (ps ∷ qs ∷ pss) (k ∷ ks) parted some chosen =
    let rest = puts_in_one p zero (qs ∷ pss) ks parted.2 some.1 chosen.1 in
    record {
      pairs = ap (λ zs. ps ++ zs) rest.pairs ∙ with_pair_back p k ps (joined (qs ∷ pss)) parted.0 chosen.0;
      parted = (parted.0, all-with_pair (λ q. before q k ≡ false) p qs chosen.0 parted.1, rest.parted);
    }
puts_in_one p (suc (suc i)) (ps ∷ qs ∷ pss) (k ∷ ks) parted some chosen =
    let rest = puts_in_one p (suc i) (qs ∷ pss) ks parted.2 some.1 chosen.1 in
    record {
      pairs = ap (λ zs. ps ++ zs) rest.pairs ∙ with_pair_back p k ps (joined (qs ∷ pss)) parted.0 chosen.0;
      parted = (parted.0, parted.1, rest.parted);
    }
