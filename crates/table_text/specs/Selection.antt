-- Which records of a table are shown.
use Rattle.std.specs.Prelude.{ℕ, Bool, not, ◌&&◌, ◌||◌, ◌==◌, ◌≤◌, List, length, drop, Option, Some, None}
use Rattle.std.specs.List.{filter, list_any, range_with_len, AllByRecursion}
use Rattle.std.specs.Int.{is_in_range}
use Rattle.dbf_image.specs.Table.{Table, row_at}
use Rattle.table_text.specs.declared.selection.Selection.{Selection}

-- there is a record of the number
abbrev pub has_record : Table → ℕ → Bool
has_record table number = is_in_range 1 (length table.rows) number

-- the number is one of those that are asked for, and the record is kept, or marked ones are shown too
abbrev pub is_asked_for : Table → Selection → ℕ → Bool
is_asked_for table selection number =
    is_in_range selection.first selection.last number && (selection.with_deleted || not (row_at table number).deleted)

-- the record of the number is shown: it is asked for, and it is kept, or marked ones are shown too
abbrev pub is_selected : Table → Selection → ℕ → Bool
is_selected table selection number = has_record table number && is_asked_for table selection number

-- the numbers of records in the order in which they are shown: those that are given, or all from 1 on
abbrev pub numbers_in : Table → Option (List ℕ) → List ℕ
numbers_in table None = range_with_len 1 (length table.rows)
numbers_in table (Some numbers) = numbers

-- the numbers of the records that are shown: of the numbers in their order those that are selected
abbrev pub selected : Table → Option (List ℕ) → Selection → List ℕ
selected table order selection = filter (is_selected table selection) (numbers_in table order)

-- the numbers of the records that are shown, from a place of their order on
abbrev pub selected_from : Table → Option (List ℕ) → Selection → ℕ → List ℕ
selected_from table order selection place = filter (is_selected table selection) (drop place (numbers_in table order))

-- there is a record of each number
abbrev pub AreNumbersOf : Table → List ℕ → Type 0
AreNumbersOf table numbers = AllByRecursion (λ number. (1 ≤ number) × (number ≤ length table.rows)) numbers

-- the number is one of these
abbrev pub is_among : List ℕ → ℕ → Bool
is_among numbers number = list_any (λ n. number == n) numbers
