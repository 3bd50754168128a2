-- Names and their numbers.
use Rattle.std.specs.Prelude.{ℕ, Bool, bytes_eq, List, [], ◌∷◌, ◌++◌, Option, if◌then◌else◌}
use Rattle.std.specs.List.{list_any, position}

-- the index of a name, from 0
abbrev pub index_named : List (List ℕ) → List ℕ → Option ℕ
index_named names name = position (bytes_eq name) names

-- one of the names is this one
abbrev pub includes_name : List (List ℕ) → List ℕ → Bool
includes_name names name = list_any (bytes_eq name) names

-- the names with one more, where it is new
abbrev pub with_name : List (List ℕ) → List ℕ → List (List ℕ)
with_name names name = if includes_name names name then names else names ++ name ∷ []
