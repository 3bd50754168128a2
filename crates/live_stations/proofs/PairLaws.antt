-- Lists that belong together, one after another.
use Rattle.std.proofs.Common.{◌≡◌, ℕ, zero, suc, ◌+◌, ◌<◌, ◌≤◌, List, [], ◌∷◌, ◌++◌, length, set, get_or, refl, subst, sym, ap, ◌∙◌, arith}
use Rattle.std.specs.Prelude.{map}
use Rattle.std.proofs.lemmas.List.{map-append}
use Rattle.live_stations.specs.Pairs.{AreFrom, EachFrom}

shift : (n k : ℕ) → (n + 1) + k ≡ n + suc k
shift n k = omega arith

-- the two of a place
pub pair_at : {A B : Type 0} (R : ℕ → A → B → Type 0) (n k : ℕ) (xs : List A) (ys : List B) (y : B) → AreFrom R n xs ys → k < length ys → (x : A) × R (n + k) x (get_or ys k y)
pair_at R n k [] [] y are inside = absurd (omega (arith, inside))
pair_at R n k [] (z ∷ ys) y are inside = absurd are
pair_at R n zero (x ∷ xs) [] y are inside = absurd are
pair_at R n (suc k) (x ∷ xs) [] y are inside = absurd are
pair_at R n zero (x ∷ xs) (z ∷ ys) y are inside = (x, subst (λ (m : ℕ). R m x z) (omega arith) are.0)
pair_at R n (suc k) (x ∷ xs) (z ∷ ys) y are inside =
    let rest = pair_at R (n + 1) k xs ys y are.1 (omega (arith, inside)) in
    (rest.0, subst (λ (m : ℕ). R m rest.0 (get_or ys k y)) (shift n k) rest.1)

-- another relation, of all
pub pair_all : {A B : Type 0} (R S : ℕ → A → B → Type 0) (n : ℕ) (xs : List A) (ys : List B) → AreFrom R n xs ys → ((m : ℕ) (x : A) (y : B) → n ≤ m → R m x y → S m x y) → AreFrom S n xs ys
pair_all R S n [] [] are goes = tt
pair_all R S n [] (y ∷ ys) are goes = absurd are
pair_all R S n (x ∷ xs) [] are goes = absurd are
pair_all R S n (x ∷ xs) (y ∷ ys) are goes = (goes n x y (omega arith) are.0, pair_all R S (n + 1) xs ys are.1 (λ m x y after r. goes m x y (omega (arith, after)) r))

-- another relation, where the second of one place is another
pub pair_set : {A B : Type 0} (R S : ℕ → A → B → Type 0) (n k : ℕ) (xs : List A) (ys : List B) (y z : B) → AreFrom R n xs ys → k < length ys
    → ((x : A) → R (n + k) x (get_or ys k y) → S (n + k) x z)
    → ((m : ℕ) (x : A) (w : B) → (m ≡ n + k → ⊥) → R m x w → S m x w)
    → AreFrom S n xs (set ys k z)
pair_set R S n k [] [] y z are inside this others = absurd (omega (arith, inside))
pair_set R S n k [] (w ∷ ys) y z are inside this others = absurd are
pair_set R S n zero (x ∷ xs) [] y z are inside this others = absurd are
pair_set R S n (suc k) (x ∷ xs) [] y z are inside this others = absurd are
pair_set R S n zero (x ∷ xs) (w ∷ ys) y z are inside this others =
    let here : n + 0 ≡ n = omega arith in (
      subst (λ (m : ℕ). S m x z) here (this x (subst (λ (m : ℕ). R m x w) (sym here) are.0)),
      pair_all R S (n + 1) xs ys are.1 (λ m x w after r. others m x w (λ (e : m ≡ n + 0). absurd (omega (arith, e, after))) r),
    )
pair_set R S n (suc k) (x ∷ xs) (w ∷ ys) y z are inside this others =
    let at = shift n k in (
      others n x w (λ (e : n ≡ n + suc k). absurd (omega (arith, e))) are.0,
      pair_set R S (n + 1) k xs ys y z are.1 (omega (arith, inside))
          (λ x r. subst (λ (m : ℕ). S m x z) (sym at) (this x (subst (λ (m : ℕ). R m x (get_or ys k y)) at r)))
          (λ m x w apart r. others m x w (λ (e : m ≡ n + suc k). apart (e ∙ sym at)) r),
    )

-- one more of both
pub pair_snoc : {A B : Type 0} (R : ℕ → A → B → Type 0) (n : ℕ) (xs : List A) (ys : List B) (x : A) (y : B) → AreFrom R n xs ys → R (n + length ys) x y → AreFrom R n (xs ++ x ∷ []) (ys ++ y ∷ [])
pair_snoc R n [] [] x y are r = (subst (λ (m : ℕ). R m x y) (omega arith) r, tt)
pair_snoc R n [] (w ∷ ys) x y are r = absurd are
pair_snoc R n (z ∷ xs) [] x y are r = absurd are
pair_snoc R n (z ∷ xs) (w ∷ ys) x y are r = (are.0, pair_snoc R (n + 1) xs ys x y are.1 (subst (λ (m : ℕ). R m x y) (sym (shift n (length ys))) r))

-- one more
pub each_snoc : {A : Type 0} (P : ℕ → A → Type 0) (n : ℕ) (xs : List A) (x : A) → EachFrom P n xs → P (n + length xs) x → EachFrom P n (xs ++ x ∷ [])
each_snoc P n [] x each p = (subst (λ (m : ℕ). P m x) (omega arith) p, tt)
each_snoc P n (z ∷ xs) x each p = (each.0, each_snoc P (n + 1) xs x each.1 (subst (λ (m : ℕ). P m x) (sym (shift n (length xs))) p))

-- one more of both, the first of them by a map
pub pair_snoc_by : {A B C : Type 0} (R : ℕ → B → C → Type 0) (f : A → B) (xs : List A) (ys next : List C) (x : A) (y : C) → AreFrom R 1 (map f xs) ys → next ≡ ys ++ y ∷ []
    → R (1 + length ys) (f x) y → AreFrom R 1 (map f (xs ++ x ∷ [])) next
pair_snoc_by {A} {B} {C} R f xs ys next x y are more r =
    subst (λ (firsts : List B). AreFrom R 1 firsts next) (sym (map-append f xs (x ∷ [])))
    (subst (λ (l : List C). AreFrom R 1 (map f xs ++ f x ∷ []) l) (sym more) (pair_snoc R 1 (map f xs) ys (f x) y are r))

-- as many of both
pub pair_length : {A B : Type 0} (R : ℕ → A → B → Type 0) (n : ℕ) (xs : List A) (ys : List B) → AreFrom R n xs ys → length xs ≡ length ys
pair_length R n [] [] are = refl
pair_length R n [] (y ∷ ys) are = absurd are
pair_length R n (x ∷ xs) [] are = absurd are
pair_length R n (x ∷ xs) (y ∷ ys) are = ap suc (pair_length R (n + 1) xs ys are.1)

-- the first of both by a map
pub pair_of_map : {A B C : Type 0} (R : ℕ → B → C → Type 0) (f : A → B) (n : ℕ) (xs : List A) (ys : List C) → AreFrom R n (map f xs) ys → AreFrom (λ k x y. R k (f x) y) n xs ys
pair_of_map R f n [] [] are = tt
pair_of_map R f n [] (y ∷ ys) are = absurd are
pair_of_map R f n (x ∷ xs) [] are = absurd are
pair_of_map R f n (x ∷ xs) (y ∷ ys) are = (are.0, pair_of_map R f (n + 1) xs ys are.1)

-- two relations from the same list
pub pair_through : {A B C : Type 0} (R : ℕ → A → B → Type 0) (S : ℕ → A → C → Type 0) (T : ℕ → B → C → Type 0) (n : ℕ) (xs : List A) (ys : List B) (zs : List C) → AreFrom R n xs ys → AreFrom S n xs zs
    → ((m : ℕ) (x : A) (y : B) (z : C) → R m x y → S m x z → T m y z) → AreFrom T n ys zs
pair_through R S T n [] [] [] r s goes = tt
pair_through R S T n [] (y ∷ ys) zs r s goes = absurd r
pair_through R S T n [] [] (z ∷ zs) r s goes = absurd s
pair_through R S T n (x ∷ xs) [] zs r s goes = absurd r
pair_through R S T n (x ∷ xs) (y ∷ ys) [] r s goes = absurd s
pair_through R S T n (x ∷ xs) (y ∷ ys) (z ∷ zs) r s goes = (goes n x y z r.0 s.0, pair_through R S T (n + 1) xs ys zs r.1 s.1 goes)

-- the first of both, by themselves
pub pair_alone : {A B : Type 0} (R : ℕ → A → B → Type 0) (S : ℕ → A → A → Type 0) (n : ℕ) (xs : List A) (ys : List B) → AreFrom R n xs ys → ((m : ℕ) (x : A) (y : B) → R m x y → S m x x) → AreFrom S n xs xs
pair_alone R S n [] [] are goes = tt
pair_alone R S n [] (y ∷ ys) are goes = absurd are
pair_alone R S n (x ∷ xs) [] are goes = absurd are
pair_alone R S n (x ∷ xs) (y ∷ ys) are goes = (goes n x y are.0, pair_alone R S (n + 1) xs ys are.1 goes)
