-- The first pair of an index's file that isn't that of its table's record.
use Rattle.std.specs.Prelude.{ℕ, ◌+◌, ◌&&◌, if◌then◌else◌, Bool, bytes_eq, List, [], ◌∷◌, length, Option, Some, None}
use Rattle.std.specs.Int.{is_in_range}
use Rattle.dbf_image.specs.Table.{Table, row_at}
use Rattle.key_expr.specs.Grammar.{Expr}
use Rattle.key_expr.specs.Keys.{key}
use Rattle.ndx_index.specs.declared.pair.Pair.{Pair}
use Rattle.setup_check.specs.declared.wrong_pair.WrongPair.{WrongPair}

-- there is a record of the number
abbrev pub has_record : Table → ℕ → Bool
has_record table number = is_in_range 1 (length table.rows) number

-- the pair is that of the record of its number
abbrev pub is_record_pair : Table → Expr → Pair → Bool
is_record_pair table e p = has_record table p.number && bytes_eq p.key (key (row_at table p.number).cells e)

-- the key of the record of a number, where there is one
abbrev pub key_of_number : Table → Expr → ℕ → Option (List ℕ)
key_of_number table e number = if has_record table number then Some (key (row_at table number).cells e) else None

-- a pair that isn't its record's, the nth of the file
abbrev pub wrong_pair : Table → Expr → ℕ → Pair → WrongPair
wrong_pair table e n p = record { pair_number = n; record_number = p.number; key = p.key; record_key = key_of_number table e p.number }

-- the first such among pairs of which the first is the nth of the file
abbrev pub first_wrong_from : Table → Expr → ℕ → List Pair → Option WrongPair
first_wrong_from table e n [] = None
first_wrong_from table e n (p ∷ pairs) = if is_record_pair table e p then first_wrong_from table e (n + 1) pairs else Some (wrong_pair table e n p)

-- the first pair of an index's file that isn't its record's: its number in the file, its record number, its key and that record's
-- key, if there is one
abbrev pub first_wrong : Table → Expr → List Pair → Option WrongPair
first_wrong table e pairs = first_wrong_from table e 1 pairs
