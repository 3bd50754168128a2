-- What contracts see of an ordered index.
use Rattle.std.specs.Prelude.{◌≡◌, ℕ, List, length}
use Rattle.std.specs.List.{AllByRecursion}
use Rattle.ndx_index.specs.declared.pair.Pair.{Pair}

-- an ordered index as contracts see it: the length of its keys, its pairs in order, and how many inserts there is room for
pub record Index : Type 0 where
  pub key_len : ℕ
  pub pairs : List Pair
  pub spare : ℕ

-- all keys have this length
abbrev pub HaveLength : ℕ → List Pair → Type 0
HaveLength key_len ps = AllByRecursion (λ p. length p.key ≡ key_len) ps
