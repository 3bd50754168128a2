-- Records that are taken out of a table, and the numbers that the others have then.
use Rattle.std.specs.Prelude.{ℕ, ◌+◌, List, [], ◌∷◌, if◌then◌else◌}
use Rattle.dbf_image.specs.Table.{Row}

-- the new number of each record, counted on from a number; 0 for one that is marked as deleted, which goes
abbrev pub packed_numbers : ℕ → List Row → List ℕ
packed_numbers next [] = []
packed_numbers next (r ∷ rs) = if r.deleted then 0 ∷ packed_numbers next rs else next ∷ packed_numbers (next + 1) rs
