-- Pairs by new numbers of their records.
use Rattle.std.specs.Prelude.{ℕ, ◌-◌, ◌≤◌, ◌==◌, List, [], ◌∷◌, length, slice_index, if◌then◌else◌}
use Rattle.std.specs.List.{AllByRecursion}
use Rattle.ndx_index.specs.declared.pair.Pair.{Pair}

-- where a list has the new number of each record, 0 for one that goes: that of a pair's record
abbrev pub new_number : List ℕ → Pair → ℕ
new_number numbers p = slice_index numbers (p.number - 1)

-- the pairs by the new numbers of their records, without those of the records that go
abbrev pub renumbered : List ℕ → List Pair → List Pair
renumbered numbers [] = []
renumbered numbers (p ∷ ps) =
    if new_number numbers p == 0 then renumbered numbers ps else record { key = p.key; number = new_number numbers p } ∷ renumbered numbers ps

-- each pair's record has a new number
abbrev pub HaveNewNumbers : List ℕ → List Pair → Type 0
HaveNewNumbers numbers ps = AllByRecursion (λ p. (1 ≤ p.number) × (p.number ≤ length numbers)) ps
