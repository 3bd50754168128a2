-- Dates as a text of CSV has them.
use Rattle.std.specs.Prelude.{ℕ, ◌==◌, List, [], ◌∷◌, ◌++◌, length, codes, map, slice_index_or, Option, Some, None, if◌then◌else◌}
use Rattle.std.specs.List.{before_first, after_first}
use Rattle.dbf_fields.specs.declared.format.TheConstants.{MINUS, POINT, SLASH, ZERO_DIGIT}
use Rattle.table_loader.specs.declared.form.DateForm.{DateForm}
use Rattle.table_loader.specs.declared.form.DateForm.TheVariants.{American, AmericanShort, Digits, German, Iso}

-- the bytes before the first mark of a text, and those after it; a text without one stands before it
abbrev pub before_mark : ℕ → List ℕ → List ℕ
before_mark mark text = before_first (λ b. b == mark) text

abbrev pub after_mark : ℕ → List ℕ → List ℕ
after_mark mark text = after_first (λ b. b == mark) text

-- what stands before, between and after the first two marks of a text
abbrev pub first_part : ℕ → List ℕ → List ℕ
first_part mark text = before_mark mark text

abbrev pub second_part : ℕ → List ℕ → List ℕ
second_part mark text = before_mark mark (after_mark mark text)

abbrev pub third_part : ℕ → List ℕ → List ℕ
third_part mark text = after_mark mark (after_mark mark text)

-- the bytes at some places
abbrev pub bytes_at : List ℕ → List ℕ → List ℕ
bytes_at text places = map (λ place. slice_index_or text place 0) places

-- four bytes one after another, and two
abbrev pub four_bytes : (ℕ × ℕ × ℕ × ℕ) → List ℕ
four_bytes bytes = bytes.0 ∷ bytes.1 ∷ bytes.2 ∷ bytes.3 ∷ []

abbrev pub two_bytes : (ℕ × ℕ) → List ℕ
two_bytes bytes = bytes.0 ∷ bytes.1 ∷ []

-- the four bytes of a year, of which a form may leave out the first two, which are `19` then
abbrev pub year_digits : DateForm → List ℕ → Option (List ℕ)
year_digits AmericanShort text = if length text == 2 then Some (codes "19" ++ bytes_at text (0 ∷ 1 ∷ [])) else None
year_digits form text = if length text == 4 then Some (bytes_at text (0 ∷ 1 ∷ 2 ∷ 3 ∷ [])) else None

-- the two bytes of a month or of a day, of which a zero in front may be left out
abbrev pub two_digits : List ℕ → Option (List ℕ)
two_digits text =
    if length text == 1 then Some (ZERO_DIGIT ∷ bytes_at text (0 ∷ [])) else
    (if length text == 2 then Some (bytes_at text (0 ∷ 1 ∷ [])) else
    None)

-- a year, a month and a day one after the other, where all three are there
abbrev pub joined : Option (List ℕ) → Option (List ℕ) → Option (List ℕ) → Option (List ℕ)
joined (Some year) (Some month) (Some day) = Some (year ++ (month ++ day))
joined year month day = None

-- the same of the texts that stand for them
abbrev pub digits_of : DateForm → List ℕ → List ℕ → List ℕ → Option (List ℕ)
digits_of form year month day = joined (year_digits form year) (two_digits month) (two_digits day)

-- Four digits of the year, two of the month and two of the day, of what stands between the marks of a text in its form; of a text without
-- marks, of which all eight are there, these.
abbrev pub date_digits : DateForm → List ℕ → Option (List ℕ)
date_digits Digits text = if length text == 8 then Some (bytes_at text (0 ∷ 1 ∷ 2 ∷ 3 ∷ 4 ∷ 5 ∷ 6 ∷ 7 ∷ [])) else None
date_digits Iso text = digits_of Iso (first_part MINUS text) (second_part MINUS text) (third_part MINUS text)
date_digits American text = digits_of American (third_part SLASH text) (first_part SLASH text) (second_part SLASH text)
date_digits AmericanShort text = digits_of AmericanShort (third_part SLASH text) (first_part SLASH text) (second_part SLASH text)
date_digits German text = digits_of German (third_part POINT text) (second_part POINT text) (first_part POINT text)
