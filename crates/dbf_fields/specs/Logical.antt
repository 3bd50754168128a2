-- The logical value that a cell stands for.
use Rattle.std.specs.Prelude.{ℕ, Bool, false, ◌||◌, ◌==◌, List, [], ◌∷◌, if◌then◌else◌}

-- one of the letters `T`, `t`, `Y` and `y`
abbrev pub is_true_letter : ℕ → Bool
is_true_letter b = ((b == 84 || b == 116) || b == 89) || b == 121

-- a cell of one such letter is true, and every other cell false
abbrev pub truth : List ℕ → Bool
truth [] = false
truth (b ∷ []) = is_true_letter b
truth (b ∷ c ∷ cs) = false

-- `T` for what is true, and else `F`
abbrev pub truth_text : Bool → List ℕ
truth_text truth = (if truth then 84 else 70) ∷ []
