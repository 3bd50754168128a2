-- The numbers of records that a command line asks for.
use Rattle.std.specs.Prelude.{ℕ, ◌+◌, Bool, ◌&&◌, ◌==◌, List, length, take, drop, Option, Some, None, if◌then◌else◌}
use Rattle.std.specs.List.{list_all, position}
use Rattle.std.specs.Char.{is_ascii_digit}
use Rattle.std.specs.Int.{is_in_range}
use Rattle.dbf_fields.specs.Digits.{digits_after}
use Rattle.dbf_fields.specs.declared.format.TheConstants.{MINUS}
use Rattle.tool_program.specs.declared.range.TheConstants.{MAX_DIGITS, MAX_RECORD_NUMBER}

-- one to ten digits of a number that 32 bits keep
abbrev pub is_record_number : List ℕ → Bool
is_record_number text =
    is_in_range 1 MAX_DIGITS (length text) && (list_all is_ascii_digit text && is_in_range 0 MAX_RECORD_NUMBER (digits_after 0 text))

unfoldable pub record_number : List ℕ → Option ℕ
record_number text = if is_record_number text then Some (digits_after 0 text) else None

-- two numbers, where both are there
abbrev pub both : Option ℕ → Option ℕ → Option (ℕ × ℕ)
both None last = None
both (Some first) None = None
both (Some first) (Some last) = Some (first, last)

-- a number alone is the first and the last; else they stand before and after the first `-`
abbrev pub range_at : Option ℕ → List ℕ → Option (ℕ × ℕ)
range_at None text = both (record_number text) (record_number text)
range_at (Some i) text = both (record_number (take i text)) (record_number (drop (i + 1) text))

-- which records a range on the command line names
abbrev pub range_in : List ℕ → Option (ℕ × ℕ)
range_in text = range_at (position (λ b. b == MINUS) text) text
