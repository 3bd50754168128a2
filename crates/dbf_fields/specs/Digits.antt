-- Decimal digits: the number that they stand for, and those of a number.
use Rattle.std.specs.Prelude.{ℕ, zero, suc, ◌+◌, ◌-◌, ◌*◌, ◌/◌, ◌%◌, List, [], ◌∷◌, ◌++◌, map, fold}
use Rattle.std.specs.Int.Digits.{digits_of}
use Rattle.dbf_fields.specs.declared.format.TheConstants.{ZERO_DIGIT}

-- the number that decimal digits stand for, after a number n
abbrev pub digits_after : ℕ → List ℕ → ℕ
digits_after n digits = fold (λ n b. n * 10 + (b - ZERO_DIGIT)) n digits

-- the last k digits of a number
abbrev pub last_digits : ℕ → ℕ → List ℕ
last_digits zero n = []
last_digits (suc k) n = last_digits k (n / 10) ++ (ZERO_DIGIT + n % 10) ∷ []

-- a number's digits without zeros at the front, but the last one always
abbrev pub numeral : ℕ → List ℕ
numeral n = map (λ d. ZERO_DIGIT + d) (digits_of 10 (n / 10)) ++ (ZERO_DIGIT + n % 10) ∷ []
