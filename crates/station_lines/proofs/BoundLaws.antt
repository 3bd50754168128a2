-- How long numbers, words and lines are at most.
use Rattle.std.proofs.Common.{◌≡◌, ℕ, suc, ◌+◌, ◌-◌, ◌*◌, ◌/◌, ◌%◌, ◌^◌, ◌<◌, ◌≤◌, Bool, true, false, List, [], ◌∷◌, ◌++◌, length, replicate, get_or, ℤ, pos, negsuc, ap, ◌∙◌, sym, append_assoc, lit<, lit≤, arith, length-append, div-le_self}
use lib.Signed.{mag}
use Rattle.std.specs.Prelude.{◌==◌, nat_lt, codes, if◌then◌else◌}
use Rattle.std.specs.Fmt.{decimal, signed_decimal}
use Rattle.std.specs.Int.RustNames.{unsigned_abs}
use Rattle.std.proofs.lemmas.Fmt.{decimal_digit, decimal_step, length-decimal-le, length_signed_le}
use Rattle.std.proofs.lemmas.List.{length-take}
use Rattle.table_core.specs.declared.refusal.Refusal.{Refusal}
use Rattle.table_core.specs.declared.refusal.Refusal.TheVariants.{NoTable}
use Rattle.table_core.specs.Refusals.{code_of, name_of}
use Rattle.dbf_fields.specs.declared.format.TheConstants.{BLANK, POINT, ZERO_DIGIT}
use Rattle.dbf_fields.specs.Digits.{last_digits, numeral}
use Rattle.dbf_fields.specs.NumberText.{sign, point, digits_kept, number_text}
use Rattle.dbf_fields.proofs.WrittenDigits.{length-last_digits}
use Rattle.station_lines.specs.declared.script.format.TheConstants.{LF, MAX_LITERAL_DIGITS}
use Rattle.station_lines.specs.AnswerLines.{refusal_text}
use Rattle.station_lines.specs.CommandLines.{written_number, after_commas, with_commas}
use Rattle.station_lines.specs.JournalLines.{entry_and}
use Rattle.station_lines.proofs.CommandLaws.NumberLaws.{numeral_short}

-- ---- numbers

-- a number of 64 bits has twenty digits at most
pub number_short : (n : ℕ) → n < 2 ^ 64 → length (decimal n) ≤ 20
number_short n small = length-decimal-le 20 n (lit< tt) (omega arith) small

-- so many bytes has one with a sign
pub signed_short : (z : ℤ) → mag z < 2 ^ 63 → length (signed_decimal z) ≤ 20
signed_short z small = length_signed_le 19 z (omega arith) small

-- the digits of a number that has two
two_digits : (n : ℕ) → 10 ≤ n → n < 100 → decimal n ≡ (48 + n / 10) ∷ ((48 + n % 10) ∷ [])
two_digits n two small = decimal_step n two (omega arith) ∙ ap (λ (ds : List ℕ). ds ++ ((48 + n % 10) ∷ [])) (decimal_digit (n / 10) (omega arith))

-- the digit of a number that has one, after other bytes
pub one_put : (front : List ℕ) (n : ℕ) → n < 10 → front ++ (48 + n) ∷ [] ≡ front ++ decimal n
one_put front n small = ap (λ (ds : List ℕ). front ++ ds) (sym (decimal_digit n small))

-- the two digits of a number, one after the other
pub two_put : (front : List ℕ) (n : ℕ) → 10 ≤ n → n < 100 → (front ++ (48 + n / 10) ∷ []) ++ (48 + n % 10) ∷ [] ≡ front ++ decimal n
two_put front n two small = append_assoc front ((48 + n / 10) ∷ []) ((48 + n % 10) ∷ []) ∙ ap (λ (ds : List ℕ). front ++ ds) (sym (two_digits n two small))

-- numbers after commas
after_short : (ns : List ℕ) → ((k : ℕ) → k < length ns → get_or ns k 0 < 2 ^ 64) → length (after_commas ns) ≤ 21 * length ns
after_short [] small = lit≤ tt
after_short (n ∷ ns) small =
    omega (arith, length-append (decimal n) (after_commas ns), number_short n (small 0 (omega arith)), after_short ns (λ k h. small (suc k) (omega arith)))

pub commas_short : (ns : List ℕ) → ((k : ℕ) → k < length ns → get_or ns k 0 < 2 ^ 64) → length (with_commas ns) ≤ 21 * length ns
commas_short [] small = lit≤ tt
commas_short (n ∷ ns) small =
    omega (arith, length-append (decimal n) (after_commas ns), number_short n (small 0 (omega arith)), after_short ns (λ k h. small (suc k) (omega arith)))

-- ---- numbers with decimals

sign_short : (z : ℤ) → length (sign z) ≤ 1
sign_short (pos n) = lit≤ tt
sign_short (negsuc n) = lit≤ tt

point_by : (none : Bool) → length (if none then [] else POINT ∷ []) ≤ 1
point_by true = lit≤ tt
point_by false = lit≤ tt

point_short : (n : ℕ) → length (point n) ≤ 1
point_short n = point_by (n == 0)

kept_short : (n : ℕ) (ds : List ℕ) → length (digits_kept n ds) ≤ n
kept_short n ds = omega (arith, length-take n (ds ++ replicate n ZERO_DIGIT))

abs_small : (z : ℤ) → mag z < 2 ^ 127 → unsigned_abs z < 10 ^ 39
abs_small (pos n) small = omega arith
abs_small (negsuc n) small = omega arith

text_short : (z : ℤ) (scale : ℕ) → unsigned_abs z < 10 ^ 39 → length (number_text z scale scale) ≤ 41 + scale
unfolding number_text
text_short z scale small =
    let whole = unsigned_abs z / 10 ^ scale in
    let kept = digits_kept scale (last_digits scale (unsigned_abs z)) in
    let less : whole < 10 ^ 39 = omega (arith, div-le_self (unsigned_abs z) (10 ^ scale)) in
    omega (
      arith,
      length-append (sign z) (numeral whole ++ (point scale ++ kept)),
      length-append (numeral whole) (point scale ++ kept),
      length-append (point scale) kept,
      sign_short z,
      numeral_short 38 whole less,
      point_short scale,
      kept_short scale (last_digits scale (unsigned_abs z)),
    )

written_by : (less : Bool) (whole decimals : List ℕ) (n : ℕ) → length whole ≤ n → length decimals ≤ n → length (if less then whole else decimals) ≤ n
written_by true whole decimals n a b = a
written_by false whole decimals n a b = b

pub written_short : (z : ℤ) (scale : ℕ) → mag z < 2 ^ 127 → length (written_number z scale) ≤ 64 + scale
written_short z scale small =
    let digits = last_digits scale (unsigned_abs z) in
    written_by (nat_lt scale MAX_LITERAL_DIGITS) _ _ (64 + scale)
    (omega (arith, text_short z scale (abs_small z small)))
    (omega (arith, length-append (sign z) (POINT ∷ digits), sign_short z, length-last_digits scale (unsigned_abs z)))

-- ---- refusals

parts_short : (refusal : Refusal) → (code_of refusal < 2 ^ 64) × (length (name_of refusal) ≤ 20)
parts_short NoTable = (lit< tt, lit≤ tt)
parts_short _ = (lit< tt, lit≤ tt)

pub refusal_short : (refusal : Refusal) → length (refusal_text refusal) ≤ 64
refusal_short refusal =
    let parts = parts_short refusal in
    omega (
      arith,
      length-append (codes "REFUSED ") (decimal (code_of refusal) ++ (codes " " ++ name_of refusal)),
      length-append (decimal (code_of refusal)) (codes " " ++ name_of refusal),
      length-append (codes " ") (name_of refusal),
      number_short (code_of refusal) parts.0,
      parts.1,
    )

-- ---- an entry's line

-- beside the station's number and both lines it has no more than so many bytes
pub entry_short : (station : ℕ) (command answer : List ℕ) → length command < 2 ^ 64 → length answer < 2 ^ 64
    → length (entry_and (station, command, answer) []) ≤ 64 + length (decimal station) + length command + length answer
entry_short station command answer c a =
    let t3 = answer ++ (LF ∷ []) in
    let t2 = command ++ (BLANK ∷ t3) in
    let t1 = decimal (length answer) ++ (BLANK ∷ t2) in
    let t0 = decimal (length command) ++ (BLANK ∷ t1) in
    omega (
      arith,
      length-append (decimal station) (BLANK ∷ t0),
      length-append (decimal (length command)) (BLANK ∷ t1),
      length-append (decimal (length answer)) (BLANK ∷ t2),
      length-append command (BLANK ∷ t3),
      length-append answer (LF ∷ []),
      number_short (length command) c,
      number_short (length answer) a,
    )
