-- The digits of a number, written from the last one on.
use Rattle.std.proofs.Common.{◌≡◌, ℕ, zero, suc, ◌+◌, ◌-◌, ◌/◌, ◌%◌, ◌^◌, ◌<◌, ◌≤◌, Bool, true, ◌==◌, ◌&&◌, List, [], ◌∷◌, ◌++◌, length, take, drop, map, replicate, ℤ, refl, ap, append_assoc, arith, length-append}
use Rattle.std.proofs.Math.ListN.{set}
use Rattle.std.proofs.Math.Nat.{div-div-eq-div-mul, pow-suc, pow-succ'}
use Rattle.std.specs.List.{list_all}
use Rattle.std.specs.Int.Digits.{digits_of}
use Rattle.std.specs.Int.RustNames.{unsigned_abs}
use Rattle.std.proofs.lemmas.Int.Digits.{digits_of_step}
use Rattle.std.proofs.lemmas.List.{drop-set, drop-replicate, take-replicate, map-append}
use Rattle.dbf_fields.specs.Digits.{last_digits}
use Rattle.dbf_fields.specs.NumberText.{digits_kept, is_exact}

-- the last digit of the rest, written before what stands
pub digit_before : (index rest : ℕ) (last : List ℕ) → 0 < index → index ≤ length last
    → last_digits (index - 1) (rest / 10) ++ drop (index - 1) (set last (index - 1) (48 + rest % 10)) ≡ last_digits index rest ++ drop index last
digit_before zero rest last some le = absurd (omega arith)
digit_before (suc p) rest last some le =
    let e : suc p - 1 ≡ p = omega arith in
    let more : p + 1 ≡ suc p = omega arith in
    rw (e, drop-set last p (48 + rest % 10) (omega arith), more, append_assoc) refl

pub rest_before : (index rest : ℕ) → 0 < index → rest / 10 / 10 ^ (index - 1) ≡ rest / 10 ^ index
rest_before zero rest some = absurd (omega arith)
rest_before (suc p) rest some =
    let e : suc p - 1 ≡ p = omega arith in
    rw (e, pow-succ' 10 p, ← div-div-eq-div-mul rest 10 (10 ^ p)) refl

-- nothing is written yet
pub all_zeros : (index k n : ℕ) → index ≡ k → last_digits index n ++ drop index (replicate 255 48) ≡ last_digits k n ++ replicate (255 - k) 48
all_zeros index k n e = rw (e, drop-replicate {X = ℕ} k 255 48) refl

-- the same for a number without zeros at its front
pub numeral_before : (start rest : ℕ) (digits : List ℕ) → 0 < rest → 0 < start → start ≤ length digits
    → map (λ d. 48 + d) (digits_of 10 (rest / 10)) ++ drop (start - 1) (set digits (start - 1) (48 + rest % 10)) ≡ map (λ d. 48 + d) (digits_of 10 rest) ++ drop start digits
numeral_before zero rest digits some room le = absurd (omega arith)
numeral_before (suc p) rest digits some room le =
    let e : suc p - 1 ≡ p = omega arith in
    let more : p + 1 ≡ suc p = omega arith in
    let step = digits_of_step 10 rest (omega arith) some in
    rw (e, drop-set digits p (48 + rest % 10) (omega arith), more, step, map-append, append_assoc) refl

pub small_before : (start rest : ℕ) → rest < 10 ^ start → 0 < rest → (0 < start) × (rest / 10 < 10 ^ (start - 1))
small_before zero rest bounded some = absurd (omega arith)
small_before (suc p) rest bounded some =
    let e : suc p - 1 ≡ p = omega arith in
    (omega arith, rw e (omega (arith, pow-suc 10 p)))

pub length-last_digits : (k n : ℕ) → length (last_digits k n) ≡ k
length-last_digits zero n = refl
length-last_digits (suc k) n = omega (arith, length-append (last_digits k (n / 10)) ((48 + n % 10) ∷ []), length-last_digits k (n / 10))

-- zeros after the digits, as many as serve
filled_take : (ds : List ℕ) (k r q : ℕ) → k ≤ length ds + r → k ≤ length ds + q → take k (ds ++ replicate r 48) ≡ take k (ds ++ replicate q 48)
filled_take [] k r q a b = rw (take-replicate {X = ℕ} k r 48 (omega arith), take-replicate {X = ℕ} k q 48 (omega arith)) refl
filled_take (d ∷ ds) zero r q a b = refl
filled_take (d ∷ ds) (suc k) r q a b = ap (λ (t : List ℕ). d ∷ t) (filled_take ds k r q (omega arith) (omega arith))

pub zeros_pass : (p : ℕ → Bool) → p 48 ≡ true → (r : ℕ) → list_all p (replicate r 48) ≡ true
zeros_pass p h zero = refl
zeros_pass p h (suc r) = rw h (zeros_pass p h r)

zeros_after : (ds : List ℕ) (k r : ℕ) → list_all (λ b. b == 48) (drop k (ds ++ replicate r 48)) ≡ list_all (λ b. b == 48) (drop k ds)
zeros_after [] zero r = zeros_pass (λ b. b == 48) refl r
zeros_after [] (suc k) r = rw (drop-replicate {X = ℕ} (suc k) r 48) (zeros_pass (λ b. b == 48) refl (r - suc k))
zeros_after (d ∷ ds) zero r = ap (λ (t : Bool). (d == 48) && t) (zeros_after ds zero r)
zeros_after (d ∷ ds) (suc k) r = zeros_after ds k r

-- the digits after the point, as they are written
pub kept_is : (scale n decimals : ℕ) → scale < 256 → decimals < 256 → take decimals (last_digits scale n ++ replicate (255 - scale) 48) ≡ digits_kept decimals (last_digits scale n)
kept_is scale n decimals a b =
    let len = length-last_digits scale n in
    filled_take (last_digits scale n) decimals (255 - scale) decimals (omega arith) (omega arith)

-- the digits past the decimals, as the code cuts them off
pub cut_is : (z : ℤ) (scale decimals : ℕ) → list_all (λ b. b == 48) (drop decimals (last_digits scale (unsigned_abs z) ++ replicate (255 - scale) 48)) ≡ is_exact z scale decimals
unfolding is_exact
cut_is z scale decimals = zeros_after (last_digits scale (unsigned_abs z)) decimals (255 - scale)
