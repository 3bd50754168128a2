-- Records of two tables that are matched: by their numbers, or by their keys.
use Rattle.std.specs.Prelude.{ℕ, ◌≤◌, nat_le, max, bytes_eq, if◌then◌else◌, List, [], ◌∷◌, ◌++◌, length, map, filter, flat_map}
use Rattle.std.specs.List.{range_with_len}
use Rattle.std.specs.Ordering.{nat_cmp}
use Rattle.std.specs.declared.cmp.Ordering.TheVariants.{Less, Equal, Greater}
use Rattle.std.specs.Cmp.Lexicographic.{slice_cmp}
use Rattle.dbf_image.specs.Table.{Table}
use Rattle.key_expr.specs.Grammar.{Expr}
use Rattle.ndx_index.specs.declared.pair.Pair.{Pair}
use Rattle.table_order.specs.TableOrder.{order}
use Rattle.table_diff.specs.declared.matching.Match.{Match}
use Rattle.table_diff.specs.declared.matching.Match.TheVariants.{Both, Old, New}
use Rattle.table_diff.specs.declared.matching.Matches.{Matches}
use Rattle.table_diff.specs.declared.matching.Matches.TheVariants.{ByNumber, Listed}
use Rattle.table_diff.specs.Changes.{in_both}

-- ---- by numbers

-- the record of a number, which one of two tables has at least, by how many records they have
abbrev pub match_of_number : ℕ → ℕ → ℕ → Match
match_of_number old_count new_count number =
    if nat_le number new_count then (if nat_le number old_count then Both (in_both number) else New number) else Old number

-- the records of two tables by their numbers
abbrev pub matches_by_number : ℕ → ℕ → List Match
matches_by_number old_count new_count = map (match_of_number old_count new_count) (range_with_len 1 (max old_count new_count))

-- ---- by keys

-- a key put among keys in order, where it is not among them
abbrev pub with_key : List ℕ → List (List ℕ) → List (List ℕ)
with_key key [] = key ∷ []
with_key key (k ∷ ks) = elim (slice_cmp nat_cmp key k) [ Less ↦ key ∷ k ∷ ks | Equal ↦ k ∷ ks | Greater ↦ k ∷ with_key key ks ]

-- the keys of pairs in order, each once
abbrev pub keys_once : List Pair → List (List ℕ)
keys_once [] = []
keys_once (p ∷ ps) = with_key p.key (keys_once ps)

-- the numbers of the records that have a key, in the order of the pairs
abbrev pub numbers_with : List Pair → List ℕ → List ℕ
numbers_with pairs key = map (λ p. p.number) (filter (λ p. bytes_eq p.key key) pairs)

-- the first of the old with the first of the new, and so on; what is left over has no other
abbrev pub side_by_side : List ℕ → List ℕ → List Match
side_by_side [] news = map New news
side_by_side (o ∷ os) [] = map Old (o ∷ os)
side_by_side (o ∷ os) (n ∷ ns) = Both (record { old_number = o; new_number = n }) ∷ side_by_side os ns

-- the records that have a key
abbrev pub matches_with : List Pair → List Pair → List ℕ → List Match
matches_with olds news key = side_by_side (numbers_with olds key) (numbers_with news key)

-- the records of all keys
unfoldable pub all_matches : List Pair → List Pair → List Match
all_matches olds news = flat_map (matches_with olds news) (keys_once (olds ++ news))

-- the records of two tables by the keys that an expression gives of them, in the order of the keys
abbrev pub matches_by_key : Table → Table → Expr → Expr → List Match
matches_by_key old new old_key new_key = all_matches (order old old_key) (order new new_key)

-- ---- the records that are there

-- the record of the old table
abbrev pub in_old : Match → List ℕ
in_old (Both numbers) = numbers.old_number ∷ []
in_old (Old number) = number ∷ []
in_old (New number) = []

-- the record of the new table
abbrev pub in_new : Match → List ℕ
in_new (Both numbers) = numbers.new_number ∷ []
in_new (Old number) = []
in_new (New number) = number ∷ []

-- the records of the old table
abbrev pub old_numbers : List Match → List ℕ
old_numbers ms = flat_map in_old ms

-- the records of the new table
abbrev pub new_numbers : List Match → List ℕ
new_numbers ms = flat_map in_new ms

-- a record of the table has the number
pub record HasRecord (table : Table) (number : ℕ) : Type 0 where
  pub some : 1 ≤ number
  pub inside : number ≤ length table.rows

-- the tables have the records
abbrev pub HaveRecords : Table → Table → Match → Type 0
HaveRecords old new (Both numbers) = HasRecord old numbers.old_number × HasRecord new numbers.new_number
HaveRecords old new (Old number) = HasRecord old number
HaveRecords old new (New number) = HasRecord new number

-- the matches that are lent
abbrev pub matches_in : Matches → List Match
matches_in (ByNumber old_count new_count) = matches_by_number old_count new_count
matches_in (Listed matches) = matches.now
