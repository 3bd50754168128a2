-- The number that a cell keeps is read from it again.
use Rattle.std.proofs.Common.{◌≡◌, ℕ, zero, suc, ◌+◌, ◌-◌, ◌*◌, ◌/◌, ◌%◌, ◌^◌, ◌<◌, ◌≤◌, true, not, ◌==◌, List, [], ◌∷◌, ◌++◌, length, take, drop, map, replicate, reverse, Some, ℤ, pos, negsuc, neg_ℤ, ◌*ℤ◌, refl, ap, ◌∙◌, arith, length-append}
use Rattle.std.specs.Prelude.{option_map}
use Rattle.std.specs.List.{list_all, AllByRecursion, position_or_len}
use Rattle.std.specs.Char.{is_ascii_digit}
use Rattle.std.specs.Int.Digits.{digits_of, number_from_digits_after}
use Rattle.std.specs.Int.RustNames.{unsigned_abs}
use Rattle.std.proofs.Math.Nat.{pow-suc, pow-succ', mul_assoc, div-div-eq-div-mul}
use Rattle.std.proofs.Math.IntN.{pos-*ℤ-pos, negsuc-*ℤ-pos}
use Rattle.std.proofs.lemmas.Bool.{le-leb}
use Rattle.std.proofs.lemmas.Bool.Decides.{nat_tests}
use Rattle.std.proofs.lemmas.Grind.{fold-append}
use Rattle.std.proofs.lemmas.Int.{ints}
use Rattle.std.proofs.lemmas.Int.Digits.{number_digits_of, all_below_base_digits_of}
use Rattle.std.proofs.Math.Seq.{take-append_seam, drop-append-add}
use Rattle.std.proofs.lemmas.List.{reverse-append, reverse-reverse, take_all, drop_all, append-nil, length-take-le, length-replicate, take-replicate}
use Rattle.std.proofs.lemmas.List.Folds.{list_all-append}
use Rattle.dbf_fields.specs.Digits.{digits_after, last_digits, numeral}
use Rattle.dbf_fields.specs.Number.{without_leading, trimmed, is_decimal, scaled, magnitude, signed, number}
use Rattle.dbf_fields.specs.NumberText.{sign, point, digits_kept, number_text, is_exact, right_justified, number_cell, IsSameNumber}
use Rattle.dbf_fields.proofs.Digits.{digits_take}
use Rattle.dbf_fields.proofs.WrittenDigits.{length-last_digits, zeros_pass}
use Rattle.dbf_fields.specs.declared.format.TheConstants.{BLANK}

-- ---- digits

glyph_digit : (d : ℕ) → d < 10 → is_ascii_digit (48 + d) ≡ true
glyph_digit d bounded = rw (le-leb 48 (48 + d) (omega arith), le-leb (48 + d) 57 (omega arith)) refl

glyphs_digits : (ds : List ℕ) → AllByRecursion (λ d. d < 10) ds → list_all is_ascii_digit (map (λ d. 48 + d) ds) ≡ true
glyphs_digits [] h = refl
glyphs_digits (d ∷ ds) h = rw (glyph_digit d h.0, glyphs_digits ds h.1) refl

numeral_digits : (n : ℕ) → list_all is_ascii_digit (numeral n) ≡ true
numeral_digits n =
    rw (list_all-append is_ascii_digit (map (λ d. 48 + d) (digits_of 10 (n / 10))) ((48 + n % 10) ∷ []), glyphs_digits _ (all_below_base_digits_of 10 (n / 10) (omega arith)), glyph_digit (n % 10) (omega arith)) refl

numeral_some : (n : ℕ) → 0 < length (numeral n)
numeral_some n = omega (arith, length-append (map (λ d. 48 + d) (digits_of 10 (n / 10))) ((48 + n % 10) ∷ []))

pub last_digits_digits : (k n : ℕ) → list_all is_ascii_digit (last_digits k n) ≡ true
last_digits_digits zero n = refl
last_digits_digits (suc k) n =
    rw (list_all-append is_ascii_digit (last_digits k (n / 10)) ((48 + n % 10) ∷ []), last_digits_digits k (n / 10), glyph_digit (n % 10) (omega arith)) refl

kept_digits : (d : ℕ) (ds : List ℕ) → list_all is_ascii_digit ds ≡ true → list_all is_ascii_digit (digits_kept d ds) ≡ true
kept_digits d ds h = digits_take d (ds ++ replicate d 48) (rw (list_all-append is_ascii_digit ds (replicate d 48), h, zeros_pass is_ascii_digit refl d) refl)

length-kept : (d : ℕ) (ds : List ℕ) → length (digits_kept d ds) ≡ d
length-kept d ds = length-take-le d (ds ++ replicate d 48) (omega (arith, length-append ds (replicate d 48), length-replicate {A = ℕ} d 48))

-- ---- the number of digits that were written

number_of_glyphs : (n : ℕ) (ds : List ℕ) → digits_after n (map (λ d. 48 + d) ds) ≡ number_from_digits_after 10 n ds
number_of_glyphs n [] = refl
number_of_glyphs n (d ∷ ds) =
    let digit : 48 + d - 48 ≡ d = omega arith in
    ap (λ (k : ℕ). digits_after (n * 10 + k) (map (λ d. 48 + d) ds)) digit ∙ number_of_glyphs (n * 10 + d) ds

number_of_numeral : (n : ℕ) → digits_after 0 (numeral n) ≡ n
number_of_numeral n =
    let front : digits_after 0 (map (λ d. 48 + d) (digits_of 10 (n / 10))) ≡ n / 10 = number_of_glyphs 0 (digits_of 10 (n / 10)) ∙ number_digits_of 10 (n / 10) (omega arith) in
    rw (fold-append, front) (omega arith)

pub number_of_last : (k n : ℕ) → digits_after (n / 10 ^ k) (last_digits k n) ≡ n
number_of_last zero n = omega arith
number_of_last (suc k) n =
    let front : digits_after (n / 10 ^ suc k) (last_digits k (n / 10)) ≡ n / 10 = rw (pow-succ' 10 k, ← div-div-eq-div-mul n 10 (10 ^ k)) (number_of_last k (n / 10)) in
    rw (fold-append, front) (omega arith)

-- zeros after a number, and more or fewer of them
zeros_number : (n : ℕ) (ds : List ℕ) → list_all (λ b. b == 48) ds ≡ true → digits_after n ds ≡ n * 10 ^ length ds
zeros_number n [] h = omega arith
zeros_number n (d ∷ ds) h =
    let zero_digit : n * 10 + (d - 48) ≡ n * 10 = grind (arith, nat_tests) in
    rw (zero_digit, pow-succ' 10 (length ds), ← mul_assoc n 10 (10 ^ length ds)) (zeros_number (n * 10) ds (grind (arith, nat_tests)))

ten_more : (v a n b : ℕ) → v * 10 ^ a ≡ n * 10 ^ b → v * 10 ^ suc a ≡ n * 10 ^ suc b
ten_more v a n b e = rw (pow-suc 10 a, pow-suc 10 b, ← mul_assoc v (10 ^ a) 10, ← mul_assoc n (10 ^ b) 10, e) refl

kept_number : (n : ℕ) (ds : List ℕ) (d r : ℕ) → d ≤ length ds + r → list_all (λ b. b == 48) (drop d ds) ≡ true
    → digits_after n (take d (ds ++ replicate r 48)) * 10 ^ length ds ≡ digits_after n ds * 10 ^ d
kept_number n [] d r room zeros =
    let e : digits_after n (replicate d 48) ≡ n * 10 ^ d = zeros_number n (replicate d 48) (zeros_pass (λ b. b == 48) refl d) ∙ ap (λ (k : ℕ). n * 10 ^ k) (length-replicate {A = ℕ} d 48) in
    rw (take-replicate {X = ℕ} d r 48 (omega arith), e) (omega arith)
kept_number n (b ∷ ds) zero r room zeros = rw (zeros_number n (b ∷ ds) zeros) (omega arith)
kept_number n (b ∷ ds) (suc d) r room zeros =
    ten_more _ (length ds) _ d (kept_number (n * 10 + (b - 48)) ds d r (omega arith) zeros)

-- ---- the text between the blanks

digits_full : (ds : List ℕ) → list_all is_ascii_digit ds ≡ true → list_all (λ b. not (b == BLANK)) ds ≡ true
digits_full [] h = refl
digits_full (d ∷ ds) h = grind (arith, nat_tests, digits_full ds)

full_append : (a b : List ℕ) → list_all (λ b. not (b == BLANK)) a ≡ true → list_all (λ b. not (b == BLANK)) b ≡ true → list_all (λ b. not (b == BLANK)) (a ++ b) ≡ true
full_append a b ha hb = rw (list_all-append (λ b. not (b == BLANK)) a b, ha, hb) refl

full_reverse : (text : List ℕ) → list_all (λ b. not (b == BLANK)) text ≡ true → list_all (λ b. not (b == BLANK)) (reverse text) ≡ true
full_reverse [] h = refl
full_reverse (b ∷ bs) h =
    let turned : reverse (b ∷ bs) ≡ reverse bs ++ (b ∷ []) = reverse-append (b ∷ []) bs in
    rw turned (full_append (reverse bs) (b ∷ []) (full_reverse bs (grind (arith, nat_tests))) (grind (arith, nat_tests)))

nothing_off : (text : List ℕ) → list_all (λ b. not (b == BLANK)) text ≡ true → without_leading text ≡ text
nothing_off [] h = refl
nothing_off (b ∷ bs) h = grind (arith, nat_tests)

blanks_off : (k : ℕ) (text : List ℕ) → without_leading (replicate k BLANK ++ text) ≡ without_leading text
blanks_off zero text = refl
blanks_off (suc k) text = blanks_off k text

trimmed_cell : (k : ℕ) (text : List ℕ) → list_all (λ b. not (b == BLANK)) text ≡ true → trimmed (replicate k BLANK ++ text) ≡ text
unfolding trimmed
trimmed_cell k text h = rw (blanks_off k text, nothing_off text h, nothing_off (reverse text) (full_reverse text h)) (reverse-reverse text)

-- ---- the parts of the text

no_point_in : (whole rest : List ℕ) → list_all is_ascii_digit whole ≡ true → position_or_len (λ b. b == 46) (whole ++ rest) ≡ length whole + position_or_len (λ b. b == 46) rest
no_point_in [] rest h = omega arith
no_point_in (b ∷ bs) rest h = grind (arith, nat_tests, no_point_in bs rest)

-- digits with a point are read as they stand
with_point : (whole digits : List ℕ) (decimals : ℕ) → list_all is_ascii_digit whole ≡ true → list_all is_ascii_digit digits ≡ true → 0 < length whole → length digits ≡ decimals
    → magnitude (whole ++ (46 ∷ digits)) decimals ≡ Some (digits_after 0 (whole ++ digits))
unfolding is_decimal scaled
with_point whole digits decimals hw hd some len =
    let before : position_or_len (λ b. b == 46) (whole ++ (46 ∷ digits)) ≡ length whole = omega (arith, no_point_in whole (46 ∷ digits) hw) in
    let none : decimals - length digits ≡ 0 = omega arith in
    rw (before, take-append_seam whole (46 ∷ digits), drop-append-add whole (46 ∷ digits) 1, hw, hd, le-leb 1 (length whole + length digits) (omega arith), drop_all decimals digits (omega arith), take_all decimals digits (omega arith), none, append-nil) refl

without_point : (whole : List ℕ) → list_all is_ascii_digit whole ≡ true → 0 < length whole → magnitude whole 0 ≡ Some (digits_after 0 whole)
unfolding is_decimal scaled
without_point whole hw some =
    let before : position_or_len (λ b. b == 46) whole ≡ length whole = omega (arith, rw append-nil at (no_point_in whole [] hw)) in
    rw (before, take_all (length whole) whole (omega arith), drop_all (length whole + 1) whole (omega arith), hw, le-leb 1 (length whole + 0) (omega arith), append-nil) refl

a_point : (decimals : ℕ) → point (suc decimals) ≡ 46 ∷ []
a_point decimals = grind (arith, nat_tests)

-- the digits of a cell, of which as many as the decimals stand after the point
magnitude_of : (whole digits : List ℕ) (decimals : ℕ) → list_all is_ascii_digit whole ≡ true → list_all is_ascii_digit digits ≡ true → 0 < length whole → length digits ≡ decimals
    → magnitude (whole ++ (point decimals ++ digits)) decimals ≡ Some (digits_after 0 (whole ++ digits))
magnitude_of whole [] zero hw hd some len = rw append-nil (without_point whole hw some)
magnitude_of whole (b ∷ bs) zero hw hd some len = absurd (omega arith)
magnitude_of whole digits (suc decimals) hw hd some len = rw (a_point decimals) (with_point whole digits (suc decimals) hw hd some len)

unsigned : (whole rest : List ℕ) (decimals : ℕ) → list_all is_ascii_digit whole ≡ true → 0 < length whole → signed (whole ++ rest) decimals ≡ option_map pos (magnitude (whole ++ rest) decimals)
unsigned [] rest decimals h some = absurd (omega arith)
unsigned (b ∷ bs) rest decimals h some = grind (arith, nat_tests)

-- ---- the law

-- the digits of the text, whose number is that of the value
text_number : (m scale decimals : ℕ) → list_all (λ b. b == 48) (drop decimals (last_digits scale m)) ≡ true
    → digits_after 0 (numeral (m / 10 ^ scale) ++ digits_kept decimals (last_digits scale m)) * 10 ^ scale ≡ m * 10 ^ decimals
text_number m scale decimals exact =
    let number = kept_number (m / 10 ^ scale) (last_digits scale m) decimals decimals (omega arith) exact in
    rw (fold-append, number_of_numeral (m / 10 ^ scale)) (rw (length-last_digits scale m, number_of_last scale m) at number)

text_magnitude : (m scale decimals : ℕ)
    → magnitude (numeral (m / 10 ^ scale) ++ (point decimals ++ digits_kept decimals (last_digits scale m))) decimals ≡ Some (digits_after 0 (numeral (m / 10 ^ scale) ++ digits_kept decimals (last_digits scale m)))
text_magnitude m scale decimals =
    magnitude_of (numeral (m / 10 ^ scale)) (digits_kept decimals (last_digits scale m)) decimals (numeral_digits (m / 10 ^ scale))
    (kept_digits decimals (last_digits scale m) (last_digits_digits scale m)) (numeral_some (m / 10 ^ scale)) (length-kept decimals (last_digits scale m))

negative_times : (v a m b : ℕ) → v * a ≡ suc m * b → neg_ℤ (pos v) *ℤ pos a ≡ negsuc m *ℤ pos b
negative_times zero a m b e = rw (negsuc-*ℤ-pos, ← e) (omega (arith, ints))
negative_times (suc v) a m b e = rw (negsuc-*ℤ-pos v a, negsuc-*ℤ-pos m b, e) refl

text_signed : (z : ℤ) (scale decimals : ℕ) → is_exact z scale decimals ≡ true → IsSameNumber (signed (number_text z scale decimals) decimals) decimals z scale
unfolding is_exact number_text
text_signed (pos m) scale decimals exact =
    let text = unsigned (numeral (m / 10 ^ scale)) (point decimals ++ digits_kept decimals (last_digits scale m)) decimals (numeral_digits (m / 10 ^ scale)) (numeral_some (m / 10 ^ scale)) in
    rw (text, text_magnitude m scale decimals, pos-*ℤ-pos, pos-*ℤ-pos) (ap pos (text_number m scale decimals exact))
text_signed (negsuc m) scale decimals exact =
    rw (text_magnitude (suc m) scale decimals) (negative_times _ (10 ^ scale) m (10 ^ decimals) (text_number (suc m) scale decimals exact))

text_full : (z : ℤ) (scale decimals : ℕ) → list_all (λ b. not (b == BLANK)) (number_text z scale decimals) ≡ true
unfolding number_text
text_full z scale decimals =
    let whole = numeral (unsigned_abs z / 10 ^ scale) in
    let last = last_digits scale (unsigned_abs z) in
    let sign_full : list_all (λ b. not (b == BLANK)) (sign z) ≡ true = elim z as (λ k. list_all (λ b. not (b == BLANK)) (sign k) ≡ true) [ pos m ↦ refl | negsuc m ↦ refl ] in
    let point_full : list_all (λ b. not (b == BLANK)) (point decimals) ≡ true = grind (arith, nat_tests) in
    full_append (sign z) _ sign_full
    (full_append whole _ (digits_full whole (numeral_digits (unsigned_abs z / 10 ^ scale)))
    (full_append (point decimals) _ point_full (digits_full (digits_kept decimals last) (kept_digits decimals last (last_digits_digits scale (unsigned_abs z))))))

-- what a cell of a number is
cell_parts : (width decimals : ℕ) (z : ℤ) (scale : ℕ) (cell : List ℕ) → number_cell width decimals z scale ≡ Some cell
    → (is_exact z scale decimals ≡ true) × (length (number_text z scale decimals) ≤ width) × (cell ≡ right_justified width (number_text z scale decimals))
unfolding number_cell
cell_parts width decimals z scale cell e = (grind (arith, nat_tests), grind (arith, nat_tests), grind (arith, nat_tests))

pub length-number_cell : (width decimals : ℕ) (z : ℤ) (scale : ℕ) (cell : List ℕ) → number_cell width decimals z scale ≡ Some cell → length cell ≡ width
length-number_cell width decimals z scale cell e =
    let text = number_text z scale decimals in
    let p = cell_parts width decimals z scale cell e in
    rw p.2 (omega (arith, p.1, length-append (replicate (width - length text) BLANK) text, length-replicate {A = ℕ} (width - length text) BLANK))

-- the number that a cell keeps is read from it again
pub same_number_again : (width decimals : ℕ) (z : ℤ) (scale : ℕ) (cell : List ℕ) → number_cell width decimals z scale ≡ Some cell → IsSameNumber (number cell decimals) decimals z scale
unfolding number
same_number_again width decimals z scale cell e =
    let text = number_text z scale decimals in
    let p = cell_parts width decimals z scale cell e in
    rw (p.2, trimmed_cell (width - length text) text (text_full z scale decimals)) (text_signed z scale decimals p.0)
