-- The names of fields.
use Rattle.std.specs.Prelude.{ℕ, Bool, ◌&&◌, ◌||◌, ◌==◌, slice_index, List, length}
use Rattle.std.specs.List.{list_all}
use Rattle.std.specs.Int.{is_in_range}
use Rattle.std.specs.Char.{is_ascii_alphabetic, is_ascii_alphanumeric}

-- a letter, a digit or `_`
abbrev pub is_name_char : ℕ → Bool
is_name_char b = is_ascii_alphanumeric b || b == 95

-- 1 to 10 bytes: a letter, then letters, digits or `_`
abbrev pub is_name : List ℕ → Bool
is_name name = is_in_range 1 10 (length name) && (is_ascii_alphabetic (slice_index name 0) && list_all is_name_char name)
