-- Places in a list of numbers that are counted on from the first.
use Rattle.std.proofs.Common.{◌≡◌, ℕ, zero, suc, ◌+◌, ◌-◌, ◌<◌, ◌≤◌, true, false, eqb, List, [], ◌∷◌, ◌++◌, length, Some, None, refl, ap, ◌∙◌, arith}
use Rattle.std.specs.List.{slice_get}
use Rattle.std.specs.Prelude.{nat_le}
use Rattle.std.proofs.lemmas.Bool.{eq-eqb, ne_eqb}
use Rattle.std.proofs.lemmas.Bool.Decides.{nat_tests}
use Rattle.ndx_index.specs.Places.{back_from, place_in, counted}

pub length-counted : (n from : ℕ) → length (counted from n) ≡ n
length-counted zero from = refl
length-counted (suc n) from = ap suc (length-counted n (from + 1))

-- one number more
pub counted-push : (n from : ℕ) → counted from (suc n) ≡ counted from n ++ (from + n) ∷ []
counted-push zero from = let m : from ≡ from + 0 = omega arith in ap (λ k. k ∷ []) m
counted-push (suc n) from = let m : from + 1 + n ≡ from + suc n = omega arith in ap (λ (l : List ℕ). from ∷ l) (counted-push n (from + 1) ∙ ap (λ k. counted (from + 1) n ++ k ∷ []) m)

pub place_in-counted : (n from i : ℕ) → i < n → place_in (from + i) (counted from n) ≡ i
place_in-counted zero from i lt = absurd (omega arith)
place_in-counted (suc n) from zero lt =
    let m : from ≡ from + 0 = omega arith in
    rw (eq-eqb from (from + 0) m) refl
place_in-counted (suc n) from (suc i) lt =
    let ne : eqb from (from + suc i) ≡ false = ne_eqb from (from + suc i) (λ e. omega arith) in
    let m : from + suc i ≡ from + 1 + i = omega arith in
    rw ne (ap suc (ap (λ (x : ℕ). place_in x (counted (from + 1) n)) m ∙ place_in-counted n (from + 1) i (omega arith)))

pub counted_at : (n from k : ℕ) → k < n → slice_get (counted from n) k ≡ Some (from + k)
counted_at zero from k lt = absurd (omega arith)
counted_at (suc n) from zero lt = let m : from ≡ from + 0 = omega arith in ap Some m
counted_at (suc n) from (suc k) lt = let m : from + 1 + k ≡ from + suc k = omega arith in counted_at n (from + 1) k (omega arith) ∙ ap Some m

pub counted_past : (n from k : ℕ) → n ≤ k → slice_get (counted from n) k ≡ None
counted_past zero from k le = refl
counted_past (suc n) from zero le = absurd (omega arith)
counted_past (suc n) from (suc k) le = counted_past n (from + 1) k (omega arith)

pub counted_back : (n i steps : ℕ) → steps ≤ i → i - steps < n → back_from (counted 1 n) i steps ≡ Some (1 + (i - steps))
counted_back n i steps there lt =
    let b : nat_le steps i ≡ true = grind (arith, nat_tests) in
    rw b (counted_at n 1 (i - steps) lt)

pub counted_none : (n i steps : ℕ) → i < steps → back_from (counted 1 n) i steps ≡ None
counted_none n i steps lt =
    let b : nat_le steps i ≡ false = grind (arith, nat_tests) in
    rw b refl
