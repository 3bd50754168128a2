-- Which records are shown, and how often.
use Rattle.std.proofs.Common.{◌≡◌, ℕ, suc, zero, ◌+◌, ◌-◌, ◌<◌, ◌≤◌, Bool, true, false, List, [], ◌∷◌, cond, sym, ap, ◌∙◌, arith}
use Rattle.std.proofs.lemmas.List.Elements.{All-contains, All-contains_itself, All-filter, Contains-append_right, filter_passes}
use Rattle.std.proofs.lemmas.List.FromFn.{get_or-range_with_len, length-range_with_len}
use Rattle.std.proofs.lemmas.List.Kept.{IsStrictlyIncreasing-filter}
use Rattle.std.specs.List.{Contains, filter, range_with_len}
use Rattle.std.specs.List.Sorted.{IsStrictlyIncreasing}

pub kept-contained : {X : Type 0} (p : X → Bool) (xs : List X) (x : X) → Contains (filter p xs) x → Contains xs x
kept-contained p xs x h = All-contains (Contains xs) (filter p xs) x (All-filter p (Contains xs) xs (All-contains_itself xs)) h

pub kept-passes : {X : Type 0} (p : X → Bool) (xs : List X) (x : X) → Contains (filter p xs) x → p x ≡ true
kept-passes p xs x h = All-contains (λ y. p y ≡ true) (filter p xs) x (filter_passes p xs) h

pub contained-later : {X : Type 0} (y : X) (ys : List X) (x : X) → Contains ys x → Contains (y ∷ ys) x
contained-later y ys x h = Contains-append_right (y ∷ []) ys x h

contained-first : {X : Type 0} (y : X) (ys : List X) (x : X) → y ≡ x → Contains (y ∷ ys) x
contained-first y ys x is = (0, omega arith, is)

-- what is kept of a list holds where it is kept of what comes after its first element
later-kept : {X : Type 0} (p : X → Bool) (y : X) (ys : List X) (x : X) → Contains (filter p ys) x → Contains (filter p (y ∷ ys)) x
later-kept p y ys x h =
    elim (p y) as (λ b. Contains (cond b (y ∷ filter p ys) (filter p ys)) x) [
      | true ↦ contained-later y (filter p ys) x h
      | false ↦ h
    ]

pub contained-kept : {X : Type 0} (p : X → Bool) (xs : List X) (x : X) → p x ≡ true → Contains xs x → Contains (filter p xs) x
contained-kept p [] x passes (k, lt, is) = absurd (omega (arith, lt))
contained-kept p (y ∷ ys) x passes (zero, lt, is) =
    let first : p y ≡ true = ap p is ∙ passes in
    rw first (contained-first y (filter p ys) x is)
contained-kept p (y ∷ ys) x passes (suc k, lt, is) =
    later-kept p y ys x (contained-kept p ys x passes (k, omega (arith, lt), is))

-- the numbers that count on from one
pub counted-inside : (n number : ℕ) → Contains (range_with_len 1 n) number → (1 ≤ number) × (number ≤ n)
counted-inside n number (k, lt, is) =
    let inside : k < n = omega (arith, lt, length-range_with_len 1 n) in
    let value : 1 + k ≡ number = sym (get_or-range_with_len 1 n k number inside) ∙ is in
    (omega arith, omega arith)

pub inside-counted : (n number : ℕ) → 1 ≤ number → number ≤ n → Contains (range_with_len 1 n) number
inside-counted n number one inside =
    let lt : number - 1 < n = omega arith in
    let value : 1 + (number - 1) ≡ number = omega arith in
    (number - 1, omega (arith, length-range_with_len 1 n), get_or-range_with_len 1 n (number - 1) number lt ∙ value)

counted-ascends : (n : ℕ) → IsStrictlyIncreasing (range_with_len 1 n)
counted-ascends n k lt =
    let next : k + 1 < n = omega (arith, lt, length-range_with_len 1 n) in
    let first : k < n = omega arith in
    omega (arith, get_or-range_with_len 1 n k 0 first, get_or-range_with_len 1 n (k + 1) 0 next)

pub kept-ascend : (p : ℕ → Bool) (n : ℕ) → IsStrictlyIncreasing (filter p (range_with_len 1 n))
kept-ascend p n = IsStrictlyIncreasing-filter p (range_with_len 1 n) (counted-ascends n)
