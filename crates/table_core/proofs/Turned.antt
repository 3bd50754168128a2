-- Lists whose elements are changed one after the other.
use Rattle.std.proofs.Common.{◌≡◌, ℕ, zero, suc, ◌+◌, ◌<◌, ◌≤◌, List, [], ◌∷◌, ◌++◌, length, take, get_or, set, sym, subst, add-one, arith}
use Rattle.std.specs.List.{AllByRecursion}
use Rattle.std.proofs.lemmas.List.{take-append-le, take_all}

-- the first n elements have Q, and the others P
abbrev pub Turned : {X : Type 0} → (X → Type 0) → (X → Type 0) → ℕ → List X → Type 0
Turned P Q zero xs = AllByRecursion P xs
Turned P Q (suc n) [] = Unit {0}
Turned P Q (suc n) (x ∷ xs) = Q x × Turned P Q n xs

-- the element whose turn it is
pub turned-here : {X : Type 0} (P Q : X → Type 0) (n : ℕ) (xs : List X) (d : X) → n < length xs → Turned P Q n xs → P (get_or xs n d)
turned-here P Q n [] d lt h = absurd (omega arith)
turned-here P Q zero (x ∷ xs) d lt h = h.0
turned-here P Q (suc n) (x ∷ xs) d lt h = turned-here P Q n xs d (omega arith) h.1

turned-suc : {X : Type 0} (P Q : X → Type 0) (n : ℕ) (xs : List X) (x : X) → n < length xs → Q x → Turned P Q n xs → Turned P Q (suc n) (set xs n x)
turned-suc P Q n [] x lt q h = absurd (omega arith)
turned-suc P Q zero (y ∷ xs) x lt q h = (q, h.1)
turned-suc P Q (suc n) (y ∷ xs) x lt q h = (h.0, turned-suc P Q n xs x (omega arith) q h.1)

-- one more is changed
pub turned-set : {X : Type 0} (P Q : X → Type 0) (n : ℕ) (xs : List X) (x : X) → n < length xs → Q x → Turned P Q n xs → Turned P Q (n + 1) (set xs n x)
turned-set P Q n xs x lt q h = rw add-one (turned-suc P Q n xs x lt q h)

-- all are changed
turned-all : {X : Type 0} (P Q : X → Type 0) (n : ℕ) (xs : List X) → length xs ≤ n → Turned P Q n xs → AllByRecursion Q xs
turned-all P Q zero [] le h = tt
turned-all P Q zero (x ∷ xs) le h = absurd (omega arith)
turned-all P Q (suc n) [] le h = tt
turned-all P Q (suc n) (x ∷ xs) le h = (h.0, turned-all P Q n xs (omega arith) h.1)

-- what a loop over a vector's elements leaves
pub whole : {X : Type 0} (xs zs : List X) (n : ℕ) → n ≡ length xs → take n (xs ++ zs) ≡ xs
whole xs zs n e =
    let le : n ≤ length xs = omega arith in
    rw (take-append-le n xs zs le) (take_all n xs (omega arith))

-- a loop over a vector's elements leaves all changed
pub whole-turned : {X : Type 0} (P Q : X → Type 0) (i : ℕ) (xs zs : List X) (n : ℕ) → length xs ≤ i → n ≡ length xs → Turned P Q i xs → AllByRecursion Q (take n (xs ++ zs))
whole-turned P Q i xs zs n le e h = subst (AllByRecursion Q) (sym (whole xs zs n e)) (turned-all P Q i xs le h)

-- one more element
pub all_push : {X : Type 0} (P : X → Type 0) (xs : List X) (x : X) → AllByRecursion P xs → P x → AllByRecursion P (xs ++ x ∷ [])
all_push P [] x all own = (own, tt)
all_push P (y ∷ ys) x all own = (all.0, all_push P ys x all.1 own)
