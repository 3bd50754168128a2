-- What is shown of a cell.
use Rattle.std.specs.Prelude.{ℕ, ◌+◌, ◌-◌, ◌/◌, ◌%◌, nat_lt, List, [], ◌∷◌, reverse}
use Rattle.std.specs.Prelude.{Bool, not, ◌&&◌, ◌||◌, ◌==◌, if◌then◌else◌}
use Rattle.std.specs.List.{flat_map, before_first}
use Rattle.std.specs.Int.{is_in_range}
use Rattle.dbf_fields.specs.Date.{date_shown}
use Rattle.dbf_fields.specs.Number.{trimmed, without_leading}
use Rattle.dbf_fields.specs.declared.format.TheConstants.{BLANK, DATE, MEMO, NUMBER, ZERO_DIGIT}
use Rattle.table_text.specs.declared.format.TheConstants.{BACKSLASH, CR, HEX_MARK, LAST_PRINTABLE, LF, LETTER_A}
use Rattle.table_text.specs.declared.memo_form.MemoForm.{MemoForm}
use Rattle.table_text.specs.declared.memo_form.MemoForm.TheVariants.{FirstLine, Whole}

-- a printable character of ASCII other than the backslash
abbrev pub is_plain : ℕ → Bool
is_plain byte = is_in_range BLANK LAST_PRINTABLE byte && not (byte == BACKSLASH)

-- a digit of a number to the base 16, in small letters
abbrev pub hex_digit : ℕ → ℕ
hex_digit n = if nat_lt n 10 then ZERO_DIGIT + n else LETTER_A + (n - 10)

-- a byte as it is shown: a plain one as it is, a backslash twice, and every other byte as a backslash, `x` and two digits
abbrev pub shown_byte : ℕ → List ℕ
shown_byte byte =
    if is_plain byte then byte ∷ [] else
    (if byte == BACKSLASH then BACKSLASH ∷ BACKSLASH ∷ [] else
    BACKSLASH ∷ HEX_MARK ∷ hex_digit (byte / 16) ∷ hex_digit (byte % 16) ∷ [])

-- bytes as they are shown, one after the other
abbrev pub shown_bytes : List ℕ → List ℕ
shown_bytes bytes = flat_map shown_byte bytes

-- what stands before the first CR or LF
abbrev pub first_line : List ℕ → List ℕ
first_line text = before_first (λ b. b == CR || b == LF) text

-- a memo's first line, or its whole text
abbrev pub memo_part : MemoForm → List ℕ → List ℕ
memo_part FirstLine text = first_line text
memo_part Whole text = text

-- without the blanks at the end
unfoldable pub trimmed_end : List ℕ → List ℕ
trimmed_end bytes = reverse (without_leading (reverse bytes))

-- the bytes of a cell that are shown, by the letter of its field's kind: part of a memo, a date as MM/DD/YY, a number
-- without the blanks around it, and of every other cell what stands before the blanks at its end
abbrev pub cell_part : MemoForm → ℕ → List ℕ → List ℕ
cell_part memos kind cell =
    if kind == MEMO then memo_part memos cell else
    (if kind == DATE then date_shown cell else
    (if kind == NUMBER then trimmed cell else
    trimmed_end cell))

-- what is shown of a cell
unfoldable pub shown_cell : MemoForm → ℕ → List ℕ → List ℕ
shown_cell memos kind cell = shown_bytes (cell_part memos kind cell)
