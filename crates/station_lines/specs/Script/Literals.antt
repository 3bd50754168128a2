-- The values that a word stands for.
use Rattle.std.specs.Prelude.{◌≡◌, ◌≢◌, ℕ, ◌+◌, Bool, true, false, ◌&&◌, ◌||◌, ◌==◌, List, [], ◌∷◌, ◌++◌, length, slice_index, codes, Option, Some, None, option_map, ℤ, pos, neg_ℤ, if◌then◌else◌}
use Rattle.std.specs.List.{list_all}
use Rattle.std.specs.Int.{is_in_range}
use Rattle.std.specs.Char.{is_ascii_digit}
use Rattle.std.specs.Str.{str_eq_ignore_ascii_case}
use Rattle.dbf_fields.specs.declared.format.TheConstants.{MINUS, PLUS, SLASH}
use Rattle.dbf_fields.specs.declared.literal.Literal.{Literal}
use Rattle.dbf_fields.specs.declared.literal.Literal.TheVariants.{Text, Number, Truth, Date, BlankDate, BadDate}
use Rattle.dbf_fields.specs.Digits.{digits_after}
use Rattle.dbf_fields.specs.Number.{whole_part, fraction_part}
use Rattle.dbf_fields.specs.Date.{is_date, SaysDay}
use Rattle.station_lines.specs.declared.script.format.TheConstants.{MAX_LITERAL_DIGITS}
use Rattle.station_lines.specs.Script.Parts.{IsText}

-- digits with at most one point among or beside them, 1 to 19 of them
unfoldable pub is_number_word : List ℕ → Bool
is_number_word text =
    list_all is_ascii_digit (whole_part text)
    && (list_all is_ascii_digit (fraction_part text)
    && is_in_range 1 MAX_LITERAL_DIGITS (length (whole_part text) + length (fraction_part text)))

-- the whole number of all digits, and how many of them stand after the point
abbrev pub decimal_in : List ℕ → Option (ℕ × ℕ)
decimal_in text =
    if is_number_word text then Some (digits_after 0 (whole_part text ++ fraction_part text), length (fraction_part text))
    else None

abbrev pub is_negative : List ℕ → Bool
is_negative [] = false
is_negative (b ∷ bs) = b == MINUS

abbrev pub without_sign : List ℕ → List ℕ
without_sign [] = []
without_sign (b ∷ bs) = if b == MINUS || b == PLUS then bs else b ∷ bs

-- a number: an optional sign, and digits
abbrev pub number_in : List ℕ → Option (ℤ × ℕ)
number_in word =
    option_map (λ n. (if is_negative word then neg_ℤ (pos n.0) else pos n.0, n.1)) (decimal_in (without_sign word))

-- `.T.` and `.Y.` are true, `.F.` and `.N.` false, in any case
abbrev pub truth_in : List ℕ → Option Bool
truth_in word =
    if str_eq_ignore_ascii_case word (codes ".T.") then Some true
    else (if str_eq_ignore_ascii_case word (codes ".Y.") then Some true
    else (if str_eq_ignore_ascii_case word (codes ".F.") then Some false
    else (if str_eq_ignore_ascii_case word (codes ".N.") then Some false
    else None)))

-- `CTOD(`, a text and `)`, without blanks around the text
abbrev pub IsDateCall : List ℕ → List ℕ → Type 0
IsDateCall word text =
    (name : List ℕ) × (inside : List ℕ) × (word ≡ name ++ (inside ++ codes ")"))
    × (str_eq_ignore_ascii_case name (codes "CTOD(") ≡ true) × IsText inside text

-- MM/DD/YY
abbrev pub has_slashes : List ℕ → Bool
has_slashes text = length text == 8 && (slice_index text 2 == SLASH && slice_index text 5 == SLASH)

-- 19YYMMDD
abbrev pub year_first : List ℕ → List ℕ
year_first text =
    49 ∷ 57 ∷ slice_index text 6 ∷ slice_index text 7 ∷ slice_index text 0 ∷ slice_index text 1 ∷ slice_index text 3 ∷ slice_index text 4 ∷ []

-- the cell of the date MM/DD/YY: YY is the year 19YY
abbrev pub cell_of_shown : List ℕ → List ℕ
cell_of_shown text = if has_slashes text then year_first text else []

-- what the text of a CTOD stands for: the blank date, a date, or neither
abbrev pub IsDateValue : List ℕ → Literal → Type 0
IsDateValue text BlankDate = text ≡ codes "  /  /  "
IsDateValue text (Date day) = SaysDay (cell_of_shown text) day
IsDateValue text BadDate = (text ≢ codes "  /  /  ") × (is_date (cell_of_shown text) ≡ false)
IsDateValue text other = ⊥

-- the word is a text, a number, a logical value or a date
abbrev pub IsLiteral : List ℕ → Literal → Type 0
IsLiteral word (Text text) = IsText word text
IsLiteral word (Number digits scale) = number_in word ≡ Some (digits, scale)
IsLiteral word (Truth truth) = truth_in word ≡ Some truth
IsLiteral word date = (text : List ℕ) × IsDateCall word text × IsDateValue text date
