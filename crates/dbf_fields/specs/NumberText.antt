-- The text of a number in a cell.
use Rattle.std.specs.Prelude.{◌≡◌, ℕ, ◌-◌, ◌/◌, ◌^◌, Bool, ◌&&◌, ◌==◌, nat_le, List, [], ◌∷◌, ◌++◌, length, take, drop, replicate, Option, Some, None, ℤ, pos, negsuc, ◌*ℤ◌, if◌then◌else◌}
use Rattle.std.specs.List.{list_all}
use Rattle.std.specs.Int.RustNames.{unsigned_abs}
use Rattle.dbf_fields.specs.Digits.{last_digits, numeral}
use Rattle.dbf_fields.specs.declared.format.TheConstants.{BLANK, ZERO_DIGIT, POINT, MINUS}

-- `-` before a number below zero
abbrev pub sign : ℤ → List ℕ
sign (pos n) = []
sign (negsuc n) = MINUS ∷ []

-- a point before decimals, where there are any
abbrev pub point : ℕ → List ℕ
point decimals = if decimals == 0 then [] else POINT ∷ []

-- as many digits as there are decimals, with zeros where there are fewer
abbrev pub digits_kept : ℕ → List ℕ → List ℕ
digits_kept decimals digits = take decimals (digits ++ replicate decimals ZERO_DIGIT)

-- The text of the number whose digits are given, of which `scale` stand after its point, with the decimals that are asked for.
unfoldable pub number_text : ℤ → ℕ → ℕ → List ℕ
number_text digits scale decimals =
    sign digits
    ++ (numeral (unsigned_abs digits / 10 ^ scale)
    ++ (point decimals
    ++ digits_kept decimals (last_digits scale (unsigned_abs digits))))

-- the number's digits past the decimals are zeros
unfoldable pub is_exact : ℤ → ℕ → ℕ → Bool
is_exact digits scale decimals = list_all (λ b. b == ZERO_DIGIT) (drop decimals (last_digits scale (unsigned_abs digits)))

-- a text after as many blanks as fill the width
abbrev pub right_justified : ℕ → List ℕ → List ℕ
right_justified width text = replicate (width - length text) BLANK ++ text

-- the one cell of that width and number of decimals that is written of a number; none if the number would be rounded or is too wide
unfoldable pub number_cell : ℕ → ℕ → ℤ → ℕ → Option (List ℕ)
number_cell width decimals digits scale =
    if is_exact digits scale decimals && nat_le (length (number_text digits scale decimals)) width
    then Some (right_justified width (number_text digits scale decimals))
    else None

-- The number of a cell, which is times ten for each decimal, is the one of the digits, of which `scale` stand
-- after the point.
abbrev pub IsSameNumber : Option ℤ → ℕ → ℤ → ℕ → Type 0
IsSameNumber None decimals digits scale = ⊥
IsSameNumber (Some number) decimals digits scale = number *ℤ pos (10 ^ scale) ≡ digits *ℤ pos (10 ^ decimals)
