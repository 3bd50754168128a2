-- The number that a cell stands for.
use Rattle.std.specs.Prelude.{ℕ, ◌+◌, ◌-◌, Bool, ◌&&◌, ◌==◌, nat_le, List, [], ◌∷◌, ◌++◌, length, take, drop, reverse, replicate, Option, Some, None, option_map, ℤ, pos, neg_ℤ, if◌then◌else◌}
use Rattle.std.specs.List.{list_all, before_first, after_first}
use Rattle.std.specs.Char.{is_ascii_digit}
use Rattle.dbf_fields.specs.Digits.{digits_after}
use Rattle.dbf_fields.specs.declared.format.TheConstants.{BLANK, ZERO_DIGIT, POINT, MINUS, PLUS}

-- what is left after the blanks at the front
abbrev pub without_leading : List ℕ → List ℕ
without_leading [] = []
without_leading (b ∷ bs) = if b == BLANK then without_leading bs else b ∷ bs

-- a text without the blanks at both ends
unfoldable pub trimmed : List ℕ → List ℕ
trimmed bs = reverse (without_leading (reverse (without_leading bs)))

-- what stands before the point and after it
abbrev pub whole_part : List ℕ → List ℕ
whole_part text = before_first (λ b. b == POINT) text

abbrev pub fraction_part : List ℕ → List ℕ
fraction_part text = after_first (λ b. b == POINT) text

-- digits with at most one point and at least one digit, those after the point past the decimals all zero
unfoldable pub is_decimal : List ℕ → ℕ → Bool
is_decimal text decimals =
    list_all is_ascii_digit (whole_part text) && (list_all is_ascii_digit (fraction_part text)
    && (nat_le 1 (length (whole_part text) + length (fraction_part text)) && list_all (λ b. b == ZERO_DIGIT) (drop decimals (fraction_part text))))

-- the digits before the point and as many after it as there are decimals, with zeros where there are fewer
unfoldable pub scaled : List ℕ → ℕ → ℕ
scaled text decimals =
    digits_after 0 (whole_part text ++ (take decimals (fraction_part text) ++ replicate (decimals - length (fraction_part text)) ZERO_DIGIT))

-- a number without its sign
abbrev pub magnitude : List ℕ → ℕ → Option ℕ
magnitude text decimals = if is_decimal text decimals then Some (scaled text decimals) else None

-- a trimmed text: nothing is zero, else an optional sign and digits
abbrev pub signed : List ℕ → ℕ → Option ℤ
signed [] decimals = Some (pos 0)
signed (b ∷ bs) decimals =
    if b == MINUS then option_map (λ n. neg_ℤ (pos n)) (magnitude bs decimals)
    else (if b == PLUS then option_map pos (magnitude bs decimals) else option_map pos (magnitude (b ∷ bs) decimals))

-- the number in a cell, times ten for each decimal, by how its text splits: blanks, sign, digits, point, digits, blanks
unfoldable pub number : List ℕ → ℕ → Option ℤ
number cell decimals = signed (trimmed cell) decimals
