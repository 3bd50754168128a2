-- Two lists that belong together, one after another.
use Rattle.std.specs.Prelude.{ℕ, ◌+◌, List, [], ◌∷◌}

-- of each two that stand at the same place this holds, counted from a number on, and there are as many of both
abbrev pub AreFrom : {A B : Type 0} → (ℕ → A → B → Type 0) → ℕ → List A → List B → Type 0
AreFrom R n [] [] = Unit {0}
AreFrom R n [] (y ∷ ys) = ⊥
AreFrom R n (x ∷ xs) [] = ⊥
AreFrom R n (x ∷ xs) (y ∷ ys) = R n x y × AreFrom R (n + 1) xs ys

-- of each this holds, counted from a number on
abbrev pub EachFrom : {A : Type 0} → (ℕ → A → Type 0) → ℕ → List A → Type 0
EachFrom P n [] = Unit {0}
EachFrom P n (x ∷ xs) = P n x × EachFrom P (n + 1) xs
