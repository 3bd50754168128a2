-- The number that decimal digits stand for.
use Rattle.std.proofs.Common.{◌≡◌, ℕ, zero, suc, ◌+◌, ◌-◌, ◌*◌, ◌^◌, ◌<◌, ◌≤◌, true, List, [], ◌∷◌, length, take, drop, get_or, refl, arith}
use Rattle.std.specs.List.{list_all}
use Rattle.std.specs.Char.{is_ascii_digit}
use Rattle.std.proofs.lemmas.Bool.Decides.{nat_tests}
use Rattle.std.proofs.lemmas.Grind.{pow_more, fold-append}
use Rattle.std.proofs.lemmas.List.{take_more, take-append-drop}
use Rattle.std.proofs.lemmas.List.Folds.{list_all-append}
use Rattle.std.proofs.Math.Nat.{pow-le-pow_right, mul-le-mul_left, mul-le-mul_right, mul_assoc}
use Rattle.std.proofs.lemmas.Nat.{pow-add}
use Rattle.dbf_fields.specs.Digits.{digits_after}
use Rattle.dbf_fields.specs.declared.decimal.TheConstants.{MAX_DIGITS}

pub digit_at : (ds : List ℕ) → list_all is_ascii_digit ds ≡ true → (i : ℕ) → i < length ds → (48 ≤ get_or ds i 0) × (get_or ds i 0 ≤ 57)
digit_at [] h i lt = absurd (omega arith)
digit_at (d ∷ ds) h zero lt = (grind (arith, nat_tests), grind (arith, nat_tests))
digit_at (d ∷ ds) h (suc i) lt = digit_at ds (grind (arith, nat_tests)) i (omega arith)

pub digits_take : (k : ℕ) (ds : List ℕ) → list_all is_ascii_digit ds ≡ true → list_all is_ascii_digit (take k ds) ≡ true
digits_take k ds h = grind (arith, nat_tests, list_all-append is_ascii_digit (take k ds) (drop k ds), take-append-drop k ds)

-- one more digit after a number that has some after another one
pub next_small : (v m a b d : ℕ) → b ≡ a + 1 → v < m * 10 ^ a → d < 10 → v * 10 + d < m * 10 ^ b
next_small v m a b d e bounded digit = rw (e, pow_more 10 a, ← mul_assoc m (10 ^ a) 10) (omega arith)

pub below_cap : (v m a n cap : ℕ) → v < m * 10 ^ a → a ≤ n → m * 10 ^ n ≤ cap → v < cap
below_cap v m a n cap bounded le room =
    let more : m * 10 ^ a ≤ m * 10 ^ n = mul-le-mul_left m (pow-le-pow_right (omega arith) le) in
    omega (arith, more)

-- a number of few digits, and digits after it
pub more_digits : (n a k : ℕ) → n < 10 ^ a → (n + 1) * 10 ^ k ≤ 10 ^ (a + k)
more_digits n a k bounded =
    let some : n + 1 ≤ 10 ^ a = omega arith in
    rw (pow-add 10 a k) (mul-le-mul_right (10 ^ k) some)

pub room_for : (n a k : ℕ) → n < 10 ^ a → a + k ≤ MAX_DIGITS → (n + 1) * 10 ^ k ≤ 10 ^ MAX_DIGITS
room_for n a k bounded le =
    let most : 10 ^ (a + k) ≤ 10 ^ MAX_DIGITS = pow-le-pow_right (omega arith) le in
    omega (arith, more_digits n a k bounded, most)

-- room after digits that were read before, and digits after those
pub room_after : (n m a j k : ℕ) → n < (0 + 1) * 10 ^ a → m < (n + 1) * 10 ^ j → a + j + k ≤ MAX_DIGITS → (m + 1) * 10 ^ k ≤ 10 ^ MAX_DIGITS
room_after n m a j k first second le = room_for m (a + j) k (omega (arith, more_digits n a j (omega arith))) le

pub digit_more : (n : ℕ) (ds : List ℕ) (i : ℕ) → i < length ds → digits_after n (take (i + 1) ds) ≡ digits_after n (take i ds) * 10 + (get_or ds i 0 - 48)
digit_more n ds i lt = rw (take_more ds i 0 lt, fold-append) refl

pub below_64_bits : (v k : ℕ) → v < 10 ^ k → k ≤ 19 → v < 2 ^ 64
below_64_bits v k bounded le =
    let most : 10 ^ k ≤ 10 ^ 19 = pow-le-pow_right (omega arith) le in
    omega (arith, most)
