-- A number that is written is read again.
use Rattle.std.proofs.Common.{◌≡◌, ℕ, zero, suc, ◌+◌, ◌-◌, ◌*◌, ◌/◌, ◌%◌, ◌^◌, ◌<◌, ◌≤◌, Bool, true, false, not, cond, ◌==◌, ◌||◌, List, [], ◌∷◌, ◌++◌, length, take, drop, map, replicate, Option, Some, None, ℤ, pos, negsuc, neg_ℤ, refl, ap, ◌∙◌, sym, subst, arith}
use Rattle.std.specs.Prelude.{option_map, nat_lt}
use Rattle.std.specs.List.{list_all, AllByRecursion, position_or_len}
use Rattle.std.specs.Char.{is_ascii_digit}
use Rattle.std.specs.Fmt.{decimal, signed_decimal}
use Rattle.std.specs.Int.{is_in_range}
use Rattle.std.specs.Int.Digits.{digits_of, number_from_digits_after}
use Rattle.std.specs.Int.RustNames.{unsigned_abs}
use Rattle.std.proofs.Math.Nat.{pow-suc, pow-le-pow_right, div-lt_iff_lt-mul, div-eq_of_lt}
use Rattle.std.proofs.lemmas.Nat.{pow-add}
use Rattle.std.proofs.Math.Seq.{take-append_seam, drop-append_seam, drop-append-add}
use Rattle.std.proofs.lemmas.Bool.{false≢true, and_parts, and_from}
use Rattle.std.proofs.lemmas.Bool.Decides.{nat_tests}
use Rattle.std.proofs.lemmas.Fmt.{decimal_by_steps, length-decimal-le}
use Rattle.std.proofs.lemmas.Int.Digits.{number_digits_of, all_below_base_digits_of, length-digits_of-le}
use Rattle.std.proofs.lemmas.List.{append_assoc, length-append, length-map, append-nil, take_all, drop_all}
use Rattle.dbf_fields.specs.Digits.{digits_after, last_digits, numeral}
use Rattle.dbf_fields.specs.Number.{whole_part, fraction_part}
use Rattle.dbf_fields.specs.NumberText.{sign, point, digits_kept, number_text}
use Rattle.dbf_fields.specs.declared.format.TheConstants.{MINUS, PLUS, POINT}
use Rattle.dbf_fields.proofs.ReadBack.{last_digits_digits, number_of_last}
use Rattle.dbf_fields.proofs.WrittenDigits.{length-last_digits}
use Rattle.station_lines.specs.declared.script.format.TheConstants.{MAX_COUNT_DIGITS, MAX_LITERAL_DIGITS}
use Rattle.station_lines.specs.Script.Parts.{is_count, count_in, distance_in}
use Rattle.station_lines.specs.Script.Literals.{is_number_word, decimal_in, is_negative, without_sign, number_in}
use Rattle.station_lines.specs.CommandLines.{written_number}
use Rattle.station_lines.proofs.ScriptLaws.TextLaws.{chosen, passed}
use Rattle.station_lines.proofs.ScriptLaws.PartLaws.{tested, all_both}
use Rattle.station_lines.proofs.ScriptLaws.WordLaws.{take_front}

-- ---- digits

glyph_digit : (d : ℕ) → d < 10 → is_ascii_digit (48 + d) ≡ true
glyph_digit d small = grind (arith, nat_tests)

-- digits, at least one, that stand for the number
pub record AreDigitsOf (n : ℕ) (ds : List ℕ) : Type 0 where
  pub digits : list_all is_ascii_digit ds ≡ true
  pub number : digits_after 0 ds ≡ n
  pub some : 0 < length ds

digits_both : (n : ℕ) (ds es : List ℕ) → digits_after n (ds ++ es) ≡ digits_after (digits_after n ds) es
digits_both n [] es = refl
digits_both n (d ∷ ds) es = digits_both (n * 10 + (d - 48)) ds es

one_digit : (m : ℕ) → m < 10 → AreDigitsOf m ((48 + m) ∷ [])
one_digit m small = record {
  digits = and_from (is_ascii_digit (48 + m)) true (glyph_digit m small) refl;
  number = omega arith;
  some = omega arith;
}

more_digits : (m : ℕ) (ds : List ℕ) → 10 ≤ m → AreDigitsOf (m / 10) ds → AreDigitsOf m (ds ++ ((48 + m % 10) ∷ []))
more_digits m ds some h = record {
  digits = all_both is_ascii_digit ds ((48 + m % 10) ∷ []) h.digits (and_from (is_ascii_digit (48 + m % 10)) true (glyph_digit (m % 10) (omega arith)) refl);
  number = digits_both 0 ds ((48 + m % 10) ∷ []) ∙ (ap (λ (n : ℕ). n * 10 + (48 + m % 10 - 48)) h.number ∙ omega arith);
  some = omega (arith, length-append ds ((48 + m % 10) ∷ []));
}

pub decimal_digits : (n : ℕ) → n < 2 ^ 64 → AreDigitsOf n (decimal n)
decimal_digits n small = decimal_by_steps AreDigitsOf one_digit more_digits n small

glyphs_digits : (ds : List ℕ) → AllByRecursion (λ d. d < 10) ds → list_all is_ascii_digit (map (λ d. 48 + d) ds) ≡ true
glyphs_digits [] h = refl
glyphs_digits (d ∷ ds) h = and_from (is_ascii_digit (48 + d)) (list_all is_ascii_digit (map (λ d. 48 + d) ds)) (glyph_digit d h.0) (glyphs_digits ds h.1)

number_of_glyphs : (n : ℕ) (ds : List ℕ) → digits_after n (map (λ d. 48 + d) ds) ≡ number_from_digits_after 10 n ds
number_of_glyphs n [] = refl
number_of_glyphs n (d ∷ ds) =
    let digit : 48 + d - 48 ≡ d = omega arith in
    ap (λ (k : ℕ). digits_after (n * 10 + k) (map (λ d. 48 + d) ds)) digit ∙ number_of_glyphs (n * 10 + d) ds

pub numeral_digits : (n : ℕ) → AreDigitsOf n (numeral n)
numeral_digits n =
    let front : digits_after 0 (map (λ d. 48 + d) (digits_of 10 (n / 10))) ≡ n / 10 = number_of_glyphs 0 (digits_of 10 (n / 10)) ∙ number_digits_of 10 (n / 10) (omega arith) in
    record {
      digits = all_both is_ascii_digit (map (λ d. 48 + d) (digits_of 10 (n / 10))) ((48 + n % 10) ∷ []) (glyphs_digits _ (all_below_base_digits_of 10 (n / 10) (omega arith))) (and_from (is_ascii_digit (48 + n % 10)) true (glyph_digit (n % 10) (omega arith)) refl);
      number = digits_both 0 (map (λ d. 48 + d) (digits_of 10 (n / 10))) ((48 + n % 10) ∷ []) ∙ (ap (λ (k : ℕ). k * 10 + (48 + n % 10 - 48)) front ∙ omega arith);
      some = omega (arith, length-append (map (λ d. 48 + d) (digits_of 10 (n / 10))) ((48 + n % 10) ∷ []));
    }

pub numeral_short : (k n : ℕ) → n < 10 ^ suc k → length (numeral n) ≤ suc k
numeral_short k n small =
    let tenth : n / 10 < 10 ^ k = omega (arith, pow-suc 10 k) in
    let front : length (map (λ d. 48 + d) (digits_of 10 (n / 10))) ≡ length (digits_of 10 (n / 10)) = length-map (digits_of 10 (n / 10)) (λ d. 48 + d) in
    let few : length (digits_of 10 (n / 10)) ≤ k = length-digits_of-le 10 k (n / 10) (omega arith) tenth in
    omega (arith, length-append (map (λ d. 48 + d) (digits_of 10 (n / 10))) ((48 + n % 10) ∷ []), front, few)

digit_less : (d : ℕ) → is_ascii_digit d ≡ true → d - 48 < 10
digit_less d h = grind (arith, nat_tests)

-- digits are a number with as many digits at most
digits_below : (n a : ℕ) (ds : List ℕ) → n < 10 ^ a → list_all is_ascii_digit ds ≡ true → digits_after n ds < 10 ^ (a + length ds)
digits_below n a [] small h = let e : a + 0 ≡ a = omega arith in rw e small
digits_below n a (d ∷ ds) small h =
    let p = and_parts (is_ascii_digit d) (list_all is_ascii_digit ds) h in
    let e : a + suc (length ds) ≡ suc a + length ds = omega arith in
    rw e (digits_below (n * 10 + (d - 48)) (suc a) ds (omega (arith, pow-suc 10 a, digit_less d p.0)) p.1)

pub few_digits : (k : ℕ) (ds : List ℕ) → length ds ≤ k → list_all is_ascii_digit ds ≡ true → digits_after 0 ds < 10 ^ k
few_digits k ds few h =
    let most : 10 ^ (0 + length ds) ≤ 10 ^ k = pow-le-pow_right (omega arith) (omega arith) in
    omega (arith, digits_below 0 0 ds (omega arith) h, most)

-- ---- numbers of records, areas and orders

pub count_small : (word : List ℕ) (n : ℕ) → count_in word ≡ Some n → n < 10 ^ MAX_COUNT_DIGITS
count_small word n e =
    let t = tested (is_count word) (digits_after 0 word) n e in
    let p = and_parts (is_in_range 1 MAX_COUNT_DIGITS (length word)) (list_all is_ascii_digit word) t.0 in
    let few : length word ≤ MAX_COUNT_DIGITS = grind (arith, nat_tests, p.0) in
    subst (λ (m : ℕ). m < 10 ^ MAX_COUNT_DIGITS) t.1 (few_digits MAX_COUNT_DIGITS word few p.1)

pub count_again : (n : ℕ) → n < 10 ^ MAX_COUNT_DIGITS → count_in (decimal n) ≡ Some n
count_again n small =
    let d = decimal_digits n (omega arith) in
    let few : length (decimal n) ≤ MAX_COUNT_DIGITS = length-decimal-le MAX_COUNT_DIGITS n (omega arith) small (omega arith) in
    let some : 0 < length (decimal n) = d.some in
    chosen (is_count (decimal n)) _ None (and_from (is_in_range 1 MAX_COUNT_DIGITS (length (decimal n))) (list_all is_ascii_digit (decimal n)) (grind (arith, nat_tests)) d.digits)
    ∙ ap Some d.number

-- ---- distances

pub mapped_is : {X Y : Type 0} (f : X → Y) (o : Option X) (y : Y) → option_map f o ≡ Some y → (x : X) × (o ≡ Some x) × (f x ≡ y)
mapped_is f None y e = absurd cc
mapped_is f (Some x) y e = (x, refl, cc)

abs_negated : (n : ℕ) → unsigned_abs (neg_ℤ (pos n)) ≡ n
abs_negated zero = refl
abs_negated (suc n) = refl

distance_below : (b : ℕ) (bs : List ℕ) (z : ℤ) (q : Bool) → cond q (option_map (λ n. neg_ℤ (pos n)) (count_in bs)) (option_map pos (count_in (b ∷ bs))) ≡ Some z → unsigned_abs z < 10 ^ MAX_COUNT_DIGITS
distance_below b bs z true e =
    let m = mapped_is (λ (n : ℕ). neg_ℤ (pos n)) (count_in bs) z e in
    let same : unsigned_abs z ≡ m.0 = ap unsigned_abs (sym m.2) ∙ abs_negated m.0 in
    subst (λ (k : ℕ). k < 10 ^ MAX_COUNT_DIGITS) (sym same) (count_small bs m.0 m.1)
distance_below b bs z false e =
    let m = mapped_is pos (count_in (b ∷ bs)) z e in
    let same : unsigned_abs z ≡ m.0 = ap unsigned_abs (sym m.2) in
    subst (λ (k : ℕ). k < 10 ^ MAX_COUNT_DIGITS) (sym same) (count_small (b ∷ bs) m.0 m.1)

pub distance_small : (word : List ℕ) (z : ℤ) → distance_in word ≡ Some z → unsigned_abs z < 10 ^ MAX_COUNT_DIGITS
distance_small [] z e = absurd cc
distance_small (b ∷ bs) z e = distance_below b bs z (b == MINUS) e

digit_no_minus : (b : ℕ) → is_ascii_digit b ≡ true → (b == MINUS) ≡ false
digit_no_minus b h = grind (arith, nat_tests)

plain_distance : (ds : List ℕ) (n : ℕ) → list_all is_ascii_digit ds ≡ true → count_in ds ≡ Some n → distance_in ds ≡ Some (pos n)
plain_distance [] n h e = absurd (false≢true (tested (is_count []) 0 n e).0)
plain_distance (b ∷ bs) n h e =
    let p = and_parts (is_ascii_digit b) (list_all is_ascii_digit bs) h in
    passed (b == MINUS) _ (option_map pos (count_in (b ∷ bs))) (digit_no_minus b p.0) ∙ ap (option_map pos) e

pub distance_again : (z : ℤ) → unsigned_abs z < 10 ^ MAX_COUNT_DIGITS → distance_in (signed_decimal z) ≡ Some z
distance_again (pos n) small = plain_distance (decimal n) n (decimal_digits n (omega arith)).digits (count_again n small)
distance_again (negsuc n) small = ap (option_map (λ (n : ℕ). neg_ℤ (pos n))) (count_again (suc n) small)

-- ---- numbers that are values

pub record IsSmallNumber (z : ℤ) (scale : ℕ) : Type 0 where
  pub digits : unsigned_abs z < 10 ^ MAX_LITERAL_DIGITS
  pub decimals : scale ≤ MAX_LITERAL_DIGITS

decimal_small : (text : List ℕ) (n : ℕ × ℕ) → decimal_in text ≡ Some n → (n.0 < 10 ^ MAX_LITERAL_DIGITS) × (n.1 ≤ MAX_LITERAL_DIGITS)
unfolding is_number_word
decimal_small text n e =
    let t = tested (is_number_word text) (digits_after 0 (whole_part text ++ fraction_part text), length (fraction_part text)) n e in
    let p = and_parts (list_all is_ascii_digit (whole_part text)) _ t.0 in
    let q = and_parts (list_all is_ascii_digit (fraction_part text)) _ p.1 in
    let few : length (whole_part text) + length (fraction_part text) ≤ MAX_LITERAL_DIGITS = grind (arith, nat_tests, q.1) in
    let all = all_both is_ascii_digit (whole_part text) (fraction_part text) p.0 q.0 in
    let both : length (whole_part text ++ fraction_part text) ≤ MAX_LITERAL_DIGITS = omega (arith, length-append (whole_part text) (fraction_part text)) in (
      subst (λ (m : ℕ × ℕ). m.0 < 10 ^ MAX_LITERAL_DIGITS) t.1 (few_digits MAX_LITERAL_DIGITS (whole_part text ++ fraction_part text) both all),
      subst (λ (m : ℕ × ℕ). m.1 ≤ MAX_LITERAL_DIGITS) t.1 (omega (arith, few)),
    )

abs_either : (q : Bool) (n : ℕ) → unsigned_abs (cond q (neg_ℤ (pos n)) (pos n)) ≡ n
abs_either true n = abs_negated n
abs_either false n = refl

pub number_small : (word : List ℕ) (z : ℤ) (scale : ℕ) → number_in word ≡ Some (z, scale) → IsSmallNumber z scale
number_small word z scale e =
    let m = mapped_is (λ (n : ℕ × ℕ). (cond (is_negative word) (neg_ℤ (pos n.0)) (pos n.0), n.1)) (decimal_in (without_sign word)) (z, scale) e in
    let small = decimal_small (without_sign word) m.0 m.1 in
    let digits : unsigned_abs z ≡ m.0.0 = ap (λ (p : ℤ × ℕ). unsigned_abs p.0) (sym m.2) ∙ abs_either (is_negative word) m.0.0 in
    let decimals : scale ≡ m.0.1 = ap (λ (p : ℤ × ℕ). p.1) (sym m.2) in
    record {
      digits = subst (λ (k : ℕ). k < 10 ^ MAX_LITERAL_DIGITS) (sym digits) small.0;
      decimals = subst (λ (k : ℕ). k ≤ MAX_LITERAL_DIGITS) (sym decimals) small.1;
    }

digit_no_point : (b : ℕ) → is_ascii_digit b ≡ true → (b == POINT) ≡ false
digit_no_point b h = grind (arith, nat_tests)

no_point_in : (whole rest : List ℕ) → list_all is_ascii_digit whole ≡ true → position_or_len (λ b. b == POINT) (whole ++ rest) ≡ length whole + position_or_len (λ b. b == POINT) rest
no_point_in [] rest h = omega arith
no_point_in (b ∷ bs) rest h =
    let p = and_parts (is_ascii_digit b) (list_all is_ascii_digit bs) h in
    let more = no_point_in bs rest p.1 in
    rw (digit_no_point b p.0) (omega (arith, more))

-- the parts of a written number
record HasParts (text whole digits : List ℕ) : Type 0 where
  whole_is : whole_part text ≡ whole
  fraction_is : fraction_part text ≡ digits

a_point : (scale : ℕ) → point (suc scale) ≡ POINT ∷ []
a_point scale = grind (arith, nat_tests)

has_parts : (whole digits : List ℕ) (scale : ℕ) → list_all is_ascii_digit whole ≡ true → length digits ≡ scale → HasParts (whole ++ (point scale ++ digits)) whole digits
has_parts whole [] zero h e =
    let place : position_or_len (λ b. b == POINT) (whole ++ []) ≡ length whole = omega (arith, no_point_in whole [] h) in
    let all : whole ++ [] ≡ whole = append-nil whole in
    record {
      whole_is = rw (place, all) (take_all (length whole) whole (omega arith));
      fraction_is = rw (place, all) (drop_all (length whole + 1) whole (omega arith));
    }
has_parts whole (d ∷ ds) zero h e = absurd (omega (arith, e))
has_parts whole digits (suc scale) h e =
    let place : position_or_len (λ b. b == POINT) (whole ++ (POINT ∷ digits)) ≡ length whole = omega (arith, no_point_in whole (POINT ∷ digits) h) in
    subst (λ (p : List ℕ). HasParts (whole ++ (p ++ digits)) whole digits) (sym (a_point scale)) (record {
      whole_is = rw place (take-append_seam whole (POINT ∷ digits));
      fraction_is = rw place (drop-append-add whole (POINT ∷ digits) 1);
    })

-- digits with a point among them are a number
record IsWritten (whole digits : List ℕ) (scale n : ℕ) : Type 0 where
  whole_digits : list_all is_ascii_digit whole ≡ true
  last_digits_are : list_all is_ascii_digit digits ≡ true
  decimals : length digits ≡ scale
  some : 1 ≤ length whole + scale
  few : length whole + scale ≤ MAX_LITERAL_DIGITS
  number : digits_after 0 (whole ++ digits) ≡ n

decimal_read : (whole digits : List ℕ) (scale n : ℕ) → IsWritten whole digits scale n → decimal_in (whole ++ (point scale ++ digits)) ≡ Some (n, scale)
unfolding is_number_word
decimal_read whole digits scale n w =
    let text = whole ++ (point scale ++ digits) in
    let parts = has_parts whole digits scale w.whole_digits w.decimals in
    let range : is_in_range 1 MAX_LITERAL_DIGITS (length whole + length digits) ≡ true = grind (arith, nat_tests, w.decimals, w.some, w.few) in
    let is : is_number_word text ≡ true = rw (parts.whole_is, parts.fraction_is, w.whole_digits, w.last_digits_are, range) refl in
    chosen (is_number_word text) _ None is ∙ rw (parts.whole_is, parts.fraction_is, w.number, w.decimals) refl

-- neither `-` nor `+` is first
abbrev begins_plain : List ℕ → Bool
begins_plain [] = true
begins_plain (b ∷ bs) = not (b == MINUS || b == PLUS)

plain_digits : (whole rest : List ℕ) → list_all is_ascii_digit whole ≡ true → begins_plain rest ≡ true → begins_plain (whole ++ rest) ≡ true
plain_digits [] rest h p = p
plain_digits (b ∷ bs) rest h p = let q = and_parts (is_ascii_digit b) (list_all is_ascii_digit bs) h in plain_digit b q.0
  where
    plain_digit : (b : ℕ) → is_ascii_digit b ≡ true → not (b == MINUS || b == PLUS) ≡ true
    plain_digit b h = grind (arith, nat_tests)

plain_point : (scale : ℕ) (digits : List ℕ) → length digits ≡ scale → begins_plain (point scale ++ digits) ≡ true
plain_point zero [] e = refl
plain_point zero (d ∷ ds) e = absurd (omega (arith, e))
plain_point (suc scale) digits e = subst (λ (p : List ℕ). begins_plain (p ++ digits) ≡ true) (sym (a_point scale)) refl

not_minus : (b : ℕ) → not (b == MINUS || b == PLUS) ≡ true → (b == MINUS) ≡ false
not_minus b h = grind (arith, nat_tests)

not_sign : (b : ℕ) → not (b == MINUS || b == PLUS) ≡ true → (b == MINUS || b == PLUS) ≡ false
not_sign b h = grind (arith, nat_tests)

unsigned_text : (body : List ℕ) → begins_plain body ≡ true → (is_negative body ≡ false) × (without_sign body ≡ body)
unsigned_text [] h = (refl, refl)
unsigned_text (b ∷ bs) h = (not_minus b h, passed (b == MINUS || b == PLUS) bs (b ∷ bs) (not_sign b h))

-- a number with its sign
abbrev with_sign : Bool → ℕ × ℕ → ℤ × ℕ
with_sign negative n = (cond negative (neg_ℤ (pos n.0)) (pos n.0), n.1)

signed_read : (z : ℤ) (scale : ℕ) (body : List ℕ) → begins_plain body ≡ true → decimal_in body ≡ Some (unsigned_abs z, scale) → number_in (sign z ++ body) ≡ Some (z, scale)
signed_read (pos n) scale body plain e =
    let u = unsigned_text body plain in
    ap (λ (q : Bool). option_map (with_sign q) (decimal_in (without_sign body))) u.0
    ∙ (ap (λ (xs : List ℕ). option_map (with_sign false) (decimal_in xs)) u.1 ∙ ap (option_map (with_sign false)) e)
signed_read (negsuc n) scale body plain e = ap (option_map (with_sign true)) e

number_read : (z : ℤ) (whole digits : List ℕ) (scale : ℕ) → IsWritten whole digits scale (unsigned_abs z) → number_in (sign z ++ (whole ++ (point scale ++ digits))) ≡ Some (z, scale)
number_read z whole digits scale w =
    signed_read z scale (whole ++ (point scale ++ digits)) (plain_digits whole (point scale ++ digits) w.whole_digits (plain_point scale digits w.decimals)) (decimal_read whole digits scale (unsigned_abs z) w)

pub kept_all : (scale m : ℕ) → digits_kept scale (last_digits scale m) ≡ last_digits scale m
kept_all scale m =
    ap (λ (n : ℕ). take n (last_digits scale m ++ replicate scale 48)) (sym (length-last_digits scale m)) ∙ take_front (last_digits scale m) (replicate scale 48)

-- a number with fewer decimals than the most digits has one before its point, at least
with_whole : (scale m : ℕ) → scale < MAX_LITERAL_DIGITS → m < 10 ^ MAX_LITERAL_DIGITS → IsWritten (numeral (m / 10 ^ scale)) (last_digits scale m) scale m
with_whole scale m room small =
    let k = MAX_LITERAL_DIGITS - 1 - scale in
    let sum : MAX_LITERAL_DIGITS ≡ suc k + scale = omega arith in
    let split : 10 ^ MAX_LITERAL_DIGITS ≡ 10 ^ suc k * 10 ^ scale = ap (λ (n : ℕ). 10 ^ n) sum ∙ pow-add 10 (suc k) scale in
    let unit : 0 < 10 ^ scale = pow-pos scale in
    let whole : m / 10 ^ scale < 10 ^ suc k = (div-lt_iff_lt-mul unit).1 (subst (λ (n : ℕ). m < n) split small) in
    let n = numeral_digits (m / 10 ^ scale) in
    let some : 0 < length (numeral (m / 10 ^ scale)) = n.some in
    let short = numeral_short k (m / 10 ^ scale) whole in
    record {
      whole_digits = n.digits;
      last_digits_are = last_digits_digits scale m;
      decimals = length-last_digits scale m;
      some = omega (arith, some);
      few = omega (arith, short, sum);
      number = digits_both 0 (numeral (m / 10 ^ scale)) (last_digits scale m) ∙ (ap (λ (n : ℕ). digits_after n (last_digits scale m)) n.number ∙ number_of_last scale m);
    }
  where
    pow-pos : (k : ℕ) → 0 < 10 ^ k
    pow-pos zero = omega arith
    pow-pos (suc k) = omega (arith, pow-suc 10 k, pow-pos k)

without_whole : (scale m : ℕ) → scale ≡ MAX_LITERAL_DIGITS → m < 10 ^ MAX_LITERAL_DIGITS → IsWritten [] (last_digits scale m) scale m
without_whole scale m all small =
    let none : m / 10 ^ scale ≡ 0 = subst (λ (k : ℕ). m / 10 ^ k ≡ 0) (sym all) (div-eq_of_lt small) in
    record {
      whole_digits = refl;
      last_digits_are = last_digits_digits scale m;
      decimals = length-last_digits scale m;
      some = omega (arith, all);
      few = omega (arith, all);
      number = ap (λ (n : ℕ). digits_after n (last_digits scale m)) (sym none) ∙ number_of_last scale m;
    }

by_room : (z : ℤ) (scale : ℕ) → IsSmallNumber z scale → (q : Bool) → nat_lt scale MAX_LITERAL_DIGITS ≡ q
    → number_in (cond q (number_text z scale scale) (sign z ++ (POINT ∷ last_digits scale (unsigned_abs z)))) ≡ Some (z, scale)
unfolding number_text
by_room z scale small true room =
    let room_left : scale < MAX_LITERAL_DIGITS = grind (arith, nat_tests, room) in
    let read = number_read z (numeral (unsigned_abs z / 10 ^ scale)) (last_digits scale (unsigned_abs z)) scale (with_whole scale (unsigned_abs z) room_left small.digits) in
    subst (λ (ds : List ℕ). number_in (sign z ++ (numeral (unsigned_abs z / 10 ^ scale) ++ (point scale ++ ds))) ≡ Some (z, scale)) (sym (kept_all scale (unsigned_abs z))) read
by_room z zero small false room = absurd (false≢true (sym room))
by_room z (suc scale) small false room =
    let most : suc scale ≡ MAX_LITERAL_DIGITS = grind (arith, nat_tests, room, small.decimals) in
    let read = number_read z [] (last_digits (suc scale) (unsigned_abs z)) (suc scale) (without_whole (suc scale) (unsigned_abs z) most small.digits) in
    subst (λ (p : List ℕ). number_in (sign z ++ (p ++ last_digits (suc scale) (unsigned_abs z))) ≡ Some (z, suc scale)) (a_point scale) read

pub number_again : (z : ℤ) (scale : ℕ) → IsSmallNumber z scale → number_in (written_number z scale) ≡ Some (z, scale)
number_again z scale small = by_room z scale small (nat_lt scale MAX_LITERAL_DIGITS) refl

-- ---- the decimals at the end of a number's text

-- the last bytes of a text are these, of this number
pub record EndsWith (text last : List ℕ) (n : ℕ) : Type 0 where
  pub room : n ≤ length text
  pub are : drop (length text - n) text ≡ last

ends_with : (text front last : List ℕ) (n : ℕ) → text ≡ front ++ last → length last ≡ n → EndsWith text last n
ends_with text front last n e long =
    let sum : length (front ++ last) ≡ length front + length last = length-append front last in
    let all : length text ≡ length front + n = ap length e ∙ omega (arith, sum, long) in
    let start : length text - n ≡ length front = omega (arith, all) in
    record {
      room = omega (arith, all);
      are = ap (λ (k : ℕ). drop k text) start ∙ (ap (drop (length front)) e ∙ drop-append_seam front last);
    }

-- how the text of a number ends
pub text_end : (z : ℤ) (scale : ℕ) → EndsWith (number_text z scale scale) (last_digits scale (unsigned_abs z)) scale
unfolding number_text
text_end z scale =
    let m = unsigned_abs z in
    let last = last_digits scale m in
    let whole : List ℕ = numeral (m / 10 ^ scale) in
    ends_with (number_text z scale scale) (sign z ++ (whole ++ point scale)) last scale
    (ap (λ (ds : List ℕ). sign z ++ (whole ++ (point scale ++ ds))) (kept_all scale m)
    ∙ (ap (λ (xs : List ℕ). sign z ++ xs) (sym (append_assoc whole (point scale) last)) ∙ sym (append_assoc (sign z) (whole ++ point scale) last)))
    (length-last_digits scale m)
