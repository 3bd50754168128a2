-- Places in lists, counted from 0; the place after the last is the end.
use Rattle.std.specs.Prelude.{ℕ, zero, suc, ◌+◌, ◌-◌, ◌==◌, nat_le, if◌then◌else◌, List, [], ◌∷◌, Option, None}
use Rattle.std.specs.List.{slice_get}

-- the element that stands a number of steps before a place; none before the first
abbrev pub back_from : {X : Type 0} → List X → ℕ → ℕ → Option X
back_from xs place steps = if nat_le steps place then slice_get xs (place - steps) else None

-- where a number stands first; the end where it stands nowhere
abbrev pub place_in : ℕ → List ℕ → ℕ
place_in number [] = 0
place_in number (m ∷ ns) = if m == number then 0 else suc (place_in number ns)

-- n numbers, counted on from the first
abbrev pub counted : ℕ → ℕ → List ℕ
counted from zero = []
counted from (suc n) = from ∷ counted (from + 1) n
