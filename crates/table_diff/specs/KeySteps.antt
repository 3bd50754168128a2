-- The first match of pairs in order.
use Rattle.std.specs.Prelude.{ℕ, List, [], ◌∷◌, Option, None, Some}
use Rattle.std.specs.Ordering.{nat_cmp}
use Rattle.std.specs.declared.cmp.Ordering.TheVariants.{Less, Equal, Greater}
use Rattle.std.specs.Cmp.Lexicographic.{slice_cmp}
use Rattle.ndx_index.specs.declared.pair.Pair.{Pair}
use Rattle.table_diff.specs.declared.matching.Match.{Match}
use Rattle.table_diff.specs.declared.matching.Match.TheVariants.{Both, Old, New}
use Rattle.table_diff.specs.declared.matching.RecordNumbers.{RecordNumbers}

-- the record whose key stands before the other's, or both where they have one key
abbrev pub lesser_match : List ℕ → List ℕ → RecordNumbers → Match
lesser_match old_key new_key numbers = elim (slice_cmp nat_cmp old_key new_key) [
  | Less ↦ Old numbers.old_number
  | Equal ↦ Both numbers
  | Greater ↦ New numbers.new_number
]

-- the first match of pairs in order
abbrev pub first_match : List Pair → List Pair → Option Match
first_match [] [] = None
first_match [] (n ∷ ns) = Some (New n.number)
first_match (o ∷ os) [] = Some (Old o.number)
first_match (o ∷ os) (n ∷ ns) = Some (lesser_match o.key n.key (record { old_number = o.number; new_number = n.number }))
