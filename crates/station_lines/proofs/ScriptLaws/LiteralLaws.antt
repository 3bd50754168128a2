-- A word is one value at most, and the reader finds it.
use Rattle.std.proofs.Common.{◌≡◌, ℕ, suc, zero, List, [], ◌∷◌, ◌++◌, Bool, true, false, not, cond, ◌==◌, ◌||◌, ◌+◌, ◌-◌, ◌≤◌, length, take, drop, get_or, Option, Some, None, refl, ap, ◌∙◌, sym, subst, arith, ℤ}
use Rattle.std.specs.Prelude.{pos, neg_ℤ, codes, bytes_eq, option_map}
use Rattle.std.specs.List.{list_all, position_or_len}
use Rattle.std.specs.Char.{is_ascii_digit, to_ascii_lowercase}
use Rattle.std.specs.Str.{str_eq_ignore_ascii_case}
use Rattle.std.proofs.lemmas.Bool.{false≢true, eqb-true, and_parts, and_from}
use Rattle.std.proofs.lemmas.Bool.Decides.{nat_tests}
use Rattle.std.proofs.lemmas.List.{take-append-drop, length-append}
use Rattle.std.proofs.lemmas.Slice.Eq.{bytes_eq-Decides}
use Rattle.dbf_fields.specs.declared.format.TheConstants.{MINUS, PLUS, POINT}
use Rattle.dbf_fields.specs.Number.{whole_part, fraction_part}
use Rattle.dbf_fields.specs.Date.{is_date}
use Rattle.dbf_fields.specs.declared.literal.Literal.{Literal}
use Rattle.dbf_fields.specs.declared.literal.Literal.TheVariants.{Text, Number, Truth, Date, BlankDate, BadDate}
use Rattle.station_lines.specs.Script.Words.{begins_word}
use Rattle.station_lines.specs.Script.Parts.{is_quote, IsText, count_in, distance_in}
use Rattle.station_lines.specs.Script.Literals.{is_number_word, decimal_in, number_in, truth_in, without_sign, IsDateCall, IsDateValue, cell_of_shown, IsLiteral}
use Rattle.station_lines.specs.Script.Reading.{text_in, before_close, text_in_part, date_text_in, day_when, date_literal, date_in, truth_or_date_in, number_or_other_in, text_or_other_in, literal_in}
use Rattle.station_lines.proofs.ScriptLaws.TextLaws.{chosen, passed, guarded, text_found, text_is}
use Rattle.station_lines.proofs.ScriptLaws.Dates.{date_said, bad_date}
use Rattle.station_lines.proofs.ScriptLaws.LineLaws.{last_at}
use Rattle.station_lines.proofs.ScriptLaws.WordLaws.{is_solid, Whole, IsCutWord, take_front, drop_front, not_true, solid_word, solid_whole, solid_starts, whole_append, text_whole}
use Rattle.station_lines.proofs.ScriptLaws.PartLaws.{lower, same_text, all_lower, all_front, like, same_length, weaker, tested, solid_lower, call_word, digits_of, solid_digit}

-- ---- numbers

-- a digit, a point or a sign
abbrev is_number_char : ℕ → Bool
is_number_char b = is_ascii_digit b || (b == POINT || (b == MINUS || b == PLUS))

digit_char : (c : ℕ) → is_ascii_digit c ≡ true → is_number_char c ≡ true
digit_char c h = rw h refl

point_char : (b : ℕ) → (b == POINT) ≡ true → is_number_char b ≡ true
point_char b h = grind (arith, nat_tests, h)

sign_char : (b : ℕ) → (b == MINUS || b == PLUS) ≡ true → is_number_char b ≡ true
sign_char b h = grind (arith, nat_tests, h)

by_point : (is : Bool) (b : ℕ) (bs : List ℕ) → (b == POINT) ≡ is
    → (list_all is_ascii_digit (whole_part bs) ≡ true → list_all is_ascii_digit (fraction_part bs) ≡ true → list_all is_number_char bs ≡ true)
    → list_all is_ascii_digit (take (cond (not is) (1 + position_or_len (λ b. b == POINT) bs) 0) (b ∷ bs)) ≡ true
    → list_all is_ascii_digit (drop (cond (not is) (1 + position_or_len (λ b. b == POINT) bs) 0 + 1) (b ∷ bs)) ≡ true
    → list_all is_number_char (b ∷ bs) ≡ true
by_point true b bs e others h g =
    and_from (is_number_char b) (list_all is_number_char bs) (point_char b e) (weaker is_ascii_digit is_number_char digit_char bs g)
by_point false b bs e others h g =
    let n = position_or_len (λ b. b == POINT) bs in
    let one : 1 + n ≡ suc n = omega arith in
    let two : 1 + n + 1 ≡ suc (n + 1) = omega arith in
    let front = and_parts (is_ascii_digit b) (list_all is_ascii_digit (take n bs)) (rw one at h) in
    and_from (is_number_char b) (list_all is_number_char bs) (digit_char b front.0) (others front.1 (rw two at g))

decimal_chars : (text : List ℕ) → list_all is_ascii_digit (whole_part text) ≡ true → list_all is_ascii_digit (fraction_part text) ≡ true → list_all is_number_char text ≡ true
decimal_chars [] h g = refl
decimal_chars (b ∷ bs) h g = by_point (b == POINT) b bs refl (decimal_chars bs) h g

decimal_is : (text : List ℕ) → is_number_word text ≡ true → list_all is_number_char text ≡ true
unfolding is_number_word
decimal_is text h =
    let p = and_parts (list_all is_ascii_digit (whole_part text)) _ h in
    decimal_chars text p.0 (and_parts (list_all is_ascii_digit (fraction_part text)) _ p.1).0

pub mapped : {X Y : Type 0} (f : X → Y) (o : Option X) (y : Y) → option_map f o ≡ Some y → (x : X) × (o ≡ Some x)
mapped f None y e = absurd cc
mapped f (Some x) y e = (x, refl)

with_sign : (b : ℕ) (bs : List ℕ) (is : Bool) → (b == MINUS || b == PLUS) ≡ is → list_all is_number_char (cond is bs (b ∷ bs)) ≡ true → list_all is_number_char (b ∷ bs) ≡ true
with_sign b bs true e h = and_from (is_number_char b) (list_all is_number_char bs) (sign_char b e) h
with_sign b bs false e h = h

-- a number has digits, signs and points alone
pub number_chars : (word : List ℕ) (n : ℤ × ℕ) → number_in word ≡ Some n → list_all is_number_char word ≡ true
number_chars [] n e = refl
number_chars (b ∷ bs) n e =
    let d = mapped _ (decimal_in (without_sign (b ∷ bs))) n e in
    with_sign b bs (b == MINUS || b == PLUS) refl (decimal_is (without_sign (b ∷ bs)) (tested (is_number_word (without_sign (b ∷ bs))) _ d.0 d.1).0)

solid_number : (c : ℕ) → is_number_char c ≡ true → is_solid c ≡ true
solid_number c h = grind (arith, nat_tests, h)

no_number : (n : ℤ × ℕ) → number_in [] ≡ Some n → ⊥
unfolding is_number_word
no_number n e = absurd cc

pub number_word : (word : List ℕ) (n : ℤ × ℕ) → number_in word ≡ Some n → IsCutWord word
number_word [] n e = absurd (no_number n e)
number_word (b ∷ bs) n e = solid_word b bs (weaker is_number_char is_solid solid_number (b ∷ bs) (number_chars (b ∷ bs) n e))

-- ---- dates

get_last : (xs : List ℕ) (c : ℕ) → get_or (xs ++ (c ∷ [])) (length xs) 0 ≡ c
get_last [] c = refl
get_last (x ∷ xs) c = get_last xs c

pub close_found : (inside : List ℕ) → before_close (inside ++ codes ")") ≡ Some inside
close_found inside =
    let all = inside ++ codes ")" in
    let long : length all ≡ length inside + 1 = length-append inside (codes ")") in
    let less : length all - 1 ≡ length inside = omega (arith, long) in
    let last : get_or all (length all - 1) 0 ≡ 41 = ap (λ (n : ℕ). get_or all n 0) less ∙ get_last inside 41 in
    chosen (get_or all (length all - 1) 0 == 41) _ None (ap (λ (c : ℕ). c == 41) last)
    ∙ (ap (λ (n : ℕ). Some (take n all)) less ∙ ap Some (take_front inside (codes ")")))

pub close_is : (text inside : List ℕ) → before_close text ≡ Some inside → text ≡ inside ++ codes ")"
close_is [] inside e = absurd cc
close_is (b ∷ bs) inside e =
    let t = tested (get_or (b ∷ bs) (length (b ∷ bs) - 1) 0 == 41) (take (length (b ∷ bs) - 1) (b ∷ bs)) inside e in
    let one : length (b ∷ bs) - 1 ≡ length bs = omega arith in
    last_at bs b 41 (rw one at (eqb-true _ 41 t.0)) ∙ ap (λ (xs : List ℕ). xs ++ codes ")") (rw one at t.1)

name_front : (word name rest : List ℕ) → word ≡ name ++ rest → length name ≡ 5 → (take 5 word ≡ name) × (drop 5 word ≡ rest)
name_front word name rest e five = (
  ap (take 5) e ∙ (ap (λ (n : ℕ). take n (name ++ rest)) (sym five) ∙ take_front name rest),
  ap (drop 5) e ∙ (ap (λ (n : ℕ). drop n (name ++ rest)) (sym five) ∙ drop_front name rest),
)

-- the text of a CTOD is found
pub date_found : (word text : List ℕ) → IsDateCall word text → date_text_in word ≡ Some text
date_found word text d =
    let parts = name_front word d.0 (d.1 ++ codes ")") d.2 (same_length d.0 (codes "CTOD(") d.3) in
    chosen (str_eq_ignore_ascii_case (take 5 word) (codes "CTOD(")) _ None (ap (λ (xs : List ℕ). str_eq_ignore_ascii_case xs (codes "CTOD(")) parts.0 ∙ d.3)
    ∙ (ap (λ (xs : List ℕ). text_in_part (before_close xs)) parts.1 ∙ (ap text_in_part (close_found d.1) ∙ text_found d.1 text d.4))

record IsPartOf (word text : List ℕ) : Type 0 where
  inside : List ℕ
  closed : word ≡ inside ++ codes ")"
  is_text : IsText inside text

part_is : (word text : List ℕ) (o : Option (List ℕ)) → before_close word ≡ o → text_in_part o ≡ Some text → IsPartOf word text
part_is word text None e h = absurd cc
part_is word text (Some inside) e h = record { inside = inside; closed = close_is word inside e; is_text = text_is inside text h }

-- what is found is the text of a CTOD
pub date_is : (word text : List ℕ) → date_text_in word ≡ Some text → IsDateCall word text
date_is word text e =
    let g = guarded (str_eq_ignore_ascii_case (take 5 word) (codes "CTOD(")) (text_in_part (before_close (drop 5 word))) text e in
    let p = part_is (drop 5 word) text (before_close (drop 5 word)) refl g.1 in
    (take 5 word, p.inside, sym (take-append-drop 5 word) ∙ ap (λ (xs : List ℕ). take 5 word ++ xs) p.closed, g.0, p.is_text)

by_blank : (word text : List ℕ) → IsDateCall word text → (q : Bool) → bytes_eq text (codes "  /  /  ") ≡ q
    → (b : Bool) (is : is_date (cell_of_shown text) ≡ b) → IsLiteral word (cond q BlankDate (day_when (cell_of_shown text) b is))
by_blank word text call true e b is = (text, call, same_text text (codes "  /  /  ") e)
by_blank word text call false e true is = (text, call, record { real = is; year = refl; month = refl; day_of_month = refl })
by_blank word text call false e false is =
    (text, call, (λ same. false≢true (sym e ∙ (bytes_eq-Decides text (codes "  /  /  ")).1 same), is))

date_sound : (word text : List ℕ) → IsDateCall word text → IsLiteral word (date_literal text)
date_sound word text call = by_blank word text call (bytes_eq text (codes "  /  /  ")) refl (is_date (cell_of_shown text)) refl

-- ---- values

same_some : {X : Type 0} (x y : X) → Some x ≡ Some y → x ≡ y
same_some x y e = cc

sound_date : (word : List ℕ) (l : Literal) (o : Option (List ℕ)) → date_text_in word ≡ o → date_in o ≡ Some l → IsLiteral word l
sound_date word l None e h = absurd cc
sound_date word l (Some text) e h = subst (λ (x : Literal). IsLiteral word x) (same_some _ l h) (date_sound word text (date_is word text e))

sound_truth : (word : List ℕ) (l : Literal) (o : Option Bool) → truth_in word ≡ o → truth_or_date_in o word ≡ Some l → IsLiteral word l
sound_truth word l None e h = sound_date word l (date_text_in word) refl h
sound_truth word l (Some truth) e h = subst (λ (x : Literal). IsLiteral word x) (same_some (Truth truth) l h) e

sound_number : (word : List ℕ) (l : Literal) (o : Option (ℤ × ℕ)) → number_in word ≡ o → number_or_other_in o word ≡ Some l → IsLiteral word l
sound_number word l None e h = sound_truth word l (truth_in word) refl h
sound_number word l (Some n) e h = subst (λ (x : Literal). IsLiteral word x) (same_some (Number n.0 n.1) l h) e

sound_text : (word : List ℕ) (l : Literal) (o : Option (List ℕ)) → text_in word ≡ o → text_or_other_in o word ≡ Some l → IsLiteral word l
sound_text word l None e h = sound_number word l (number_in word) refl h
sound_text word l (Some text) e h = subst (λ (x : Literal). IsLiteral word x) (same_some (Text text) l h) (text_is word text e)

-- what is found is the value of the word
pub literal_is : (word : List ℕ) (l : Literal) → literal_in word ≡ Some l → IsLiteral word l
literal_is word l e = sound_text word l (text_in word) refl e

abbrev no_quote : ℕ → Bool
no_quote b = not (is_quote b)

pub quote_lower : (c : ℕ) → no_quote (to_ascii_lowercase c) ≡ no_quote c
quote_lower c = grind (arith, nat_tests)

number_lower : (c : ℕ) → is_number_char (to_ascii_lowercase c) ≡ is_number_char c
number_lower c = grind (arith, nat_tests)

number_no_quote : (c : ℕ) → is_number_char c ≡ true → no_quote c ≡ true
number_no_quote c h = grind (arith, nat_tests, h)

no_text : (word : List ℕ) → list_all no_quote (take 5 word) ≡ true → text_in word ≡ None
no_text [] h = refl
no_text (b ∷ bs) h = passed (is_quote b) _ None (not_true (is_quote b) (and_parts (no_quote b) _ h).0)

pub none_of : {X : Type 0} (o : Option X) → ((x : X) → o ≡ Some x → ⊥) → o ≡ None
none_of None h = refl
none_of (Some x) h = absurd (h x refl)

-- a word whose first bytes are those of another in any case, which has a byte that no number has, is no number
no_number_like : (word c : List ℕ) → str_eq_ignore_ascii_case (take 5 word) c ≡ true → list_all is_number_char (lower c) ≡ false → number_in word ≡ None
no_number_like word c e other = none_of (number_in word) (λ n h.
    let one = all_front is_number_char 5 word (number_chars word n h) in
    let two = all_lower is_number_char number_lower (take 5 word) in
    let same : lower (take 5 word) ≡ lower c = same_text (lower (take 5 word)) (lower c) e in
    false≢true (sym other ∙ (ap (list_all is_number_char) (sym same) ∙ (two ∙ one))))

front_all : (n : ℕ) (xs : List ℕ) → length xs ≤ n → take n xs ≡ xs
front_all zero [] h = refl
front_all zero (x ∷ xs) h = absurd (omega (arith, h))
front_all (suc n) [] h = refl
front_all (suc n) (x ∷ xs) h = ap (λ (ys : List ℕ). x ∷ ys) (front_all n xs (omega (arith, h)))

record IsOther (word : List ℕ) : Type 0 where
  no_text : text_in word ≡ None
  no_number : number_in word ≡ None

other_like : (word c : List ℕ) → list_all no_quote c ≡ true → list_all is_number_char (lower c) ≡ false → str_eq_ignore_ascii_case (take 5 word) c ≡ true → IsOther word
other_like word c quotes numbers e = record {
  no_text = no_text word (like no_quote quote_lower (take 5 word) c e quotes);
  no_number = no_number_like word c e numbers;
}

short_like : (word c : List ℕ) → length c ≡ 3 → str_eq_ignore_ascii_case word c ≡ true → str_eq_ignore_ascii_case (take 5 word) c ≡ true
short_like word c three e =
    let long = same_length word c e in
    rw (front_all 5 word (omega (arith, three, long))) e

truth_word_by : (P : Type 0) (p q r s t : Bool) → (p ≡ true → P) → (q ≡ true → P) → (r ≡ true → P) → (s ≡ true → P)
    → cond p (Some true) (cond q (Some true) (cond r (Some false) (cond s (Some false) None))) ≡ Some t → P
truth_word_by P true q r s t f g h k e = f refl
truth_word_by P false true r s t f g h k e = g refl
truth_word_by P false false true s t f g h k e = h refl
truth_word_by P false false false true t f g h k e = k refl
truth_word_by P false false false false t f g h k e = absurd cc

truth_other : (word : List ℕ) (truth : Bool) → truth_in word ≡ Some truth → IsOther word
truth_other word truth e =
    let one : (c : List ℕ) → length c ≡ 3 → list_all no_quote c ≡ true → list_all is_number_char (lower c) ≡ false → str_eq_ignore_ascii_case word c ≡ true → IsOther word
    = λ c three quotes numbers h. other_like word c quotes numbers (short_like word c three h) in
    truth_word_by (IsOther word) _ _ _ _ truth (one (codes ".T.") refl refl refl) (one (codes ".Y.") refl refl refl) (one (codes ".F.") refl refl refl) (one (codes ".N.") refl refl refl) e

pub truth_word : (word : List ℕ) (truth : Bool) → truth_in word ≡ Some truth → IsCutWord word
truth_word word truth e =
    truth_word_by (IsCutWord word) _ _ _ _ truth (call_word (codes ".T.") word (omega arith) refl) (call_word (codes ".Y.") word (omega arith) refl)
    (call_word (codes ".F.") word (omega arith) refl) (call_word (codes ".N.") word (omega arith) refl) e

not_like : (word c : List ℕ) → (length word ≡ length c → ⊥) → (q : Bool) → str_eq_ignore_ascii_case word c ≡ q → q ≡ false
not_like word c h true e = absurd (h (same_length word c e))
not_like word c h false e = refl

long_front : (n : ℕ) (xs : List ℕ) → length (take n xs) ≡ n → n ≤ length xs
long_front zero xs h = omega arith
long_front (suc n) [] h = absurd (omega (arith, h))
long_front (suc n) (x ∷ xs) h = let more = long_front n xs (omega (arith, h)) in omega (arith, more)

no_truth : (word : List ℕ) → 5 ≤ length word → truth_in word ≡ None
no_truth word long =
    let none : (c : List ℕ) → length c ≡ 3 → str_eq_ignore_ascii_case word c ≡ false
    = λ c three. not_like word c (λ same. omega (arith, long, three, same)) (str_eq_ignore_ascii_case word c) refl in
    rw (none (codes ".T.") refl, none (codes ".Y.") refl, none (codes ".F.") refl, none (codes ".N.") refl) refl

blank_no_day : is_date (cell_of_shown (codes "  /  /  ")) ≡ true → ⊥
unfolding is_date
blank_no_day e = false≢true e

none_such : (q : Bool) → (q ≡ true → ⊥) → q ≡ false
none_such true h = absurd (h refl)
none_such false h = refl

date_value_is : (text : List ℕ) (l : Literal) → IsDateValue text l → date_literal text ≡ l
date_value_is text BlankDate v = chosen (bytes_eq text (codes "  /  /  ")) _ _ ((bytes_eq-Decides text (codes "  /  /  ")).1 v)
date_value_is text (Date day) v =
    passed (bytes_eq text (codes "  /  /  ")) _ _ (none_such (bytes_eq text (codes "  /  /  ")) (λ e. blank_no_day (subst (λ (xs : List ℕ). is_date (cell_of_shown xs) ≡ true) (same_text text (codes "  /  /  ") e) v.real)))
    ∙ date_said (cell_of_shown text) day v
date_value_is text BadDate v =
    passed (bytes_eq text (codes "  /  /  ")) _ _ (none_such (bytes_eq text (codes "  /  /  ")) (λ e. v.0 (same_text text (codes "  /  /  ") e)))
    ∙ bad_date (cell_of_shown text) v.1
date_value_is text (Text t) v = absurd v
date_value_is text (Number n s) v = absurd v
date_value_is text (Truth t) v = absurd v

date_complete : (word text : List ℕ) (l : Literal) → IsDateCall word text → IsDateValue text l → literal_in word ≡ Some l
date_complete word text l d v =
    let parts = name_front word d.0 (d.1 ++ codes ")") d.2 (same_length d.0 (codes "CTOD(") d.3) in
    let call : str_eq_ignore_ascii_case (take 5 word) (codes "CTOD(") ≡ true = ap (λ (xs : List ℕ). str_eq_ignore_ascii_case xs (codes "CTOD(")) parts.0 ∙ d.3 in
    let other = other_like word (codes "CTOD(") refl refl call in
    let long = long_front 5 word (same_length (take 5 word) (codes "CTOD(") call) in
    ap (λ (o : Option (List ℕ)). text_or_other_in o word) other.no_text
    ∙ (ap (λ (o : Option (ℤ × ℕ)). number_or_other_in o word) other.no_number
    ∙ (ap (λ (o : Option Bool). truth_or_date_in o word) (no_truth word long)
    ∙ (ap date_in (date_found word text d) ∙ ap Some (date_value_is text l v))))

-- the value of a word is found
pub literal_found : (word : List ℕ) (l : Literal) → IsLiteral word l → literal_in word ≡ Some l
literal_found word (Text text) h = ap (λ (o : Option (List ℕ)). text_or_other_in o word) (text_found word text h)
literal_found word (Number n s) h =
    let quotes = all_front no_quote 5 word (weaker is_number_char no_quote number_no_quote word (number_chars word (n, s) h)) in
    ap (λ (o : Option (List ℕ)). text_or_other_in o word) (no_text word quotes) ∙ ap (λ (o : Option (ℤ × ℕ)). number_or_other_in o word) h
literal_found word (Truth truth) h =
    let other = truth_other word truth h in
    ap (λ (o : Option (List ℕ)). text_or_other_in o word) other.no_text
    ∙ (ap (λ (o : Option (ℤ × ℕ)). number_or_other_in o word) other.no_number ∙ ap (λ (o : Option Bool). truth_or_date_in o word) h)
literal_found word (Date day) h = date_complete word h.0 (Date day) h.1 h.2
literal_found word BlankDate h = date_complete word h.0 BlankDate h.1 h.2
literal_found word BadDate h = date_complete word h.0 BadDate h.1 h.2

name_starts : (name rest : List ℕ) → list_all is_solid name ≡ true → length name ≡ 5 → begins_word (name ++ rest) ≡ true
name_starts [] rest h five = absurd (omega (arith, five))
name_starts (b ∷ bs) rest h five = solid_starts b bs h

date_word : (word text : List ℕ) → IsDateCall word text → IsCutWord word
date_word word text d =
    let name = like is_solid solid_lower d.0 (codes "CTOD(") d.3 refl in
    let inside = text_whole d.1 text d.4 in
    let close : Whole (codes ")") = solid_whole (codes ")") refl in
    let all = whole_append d.0 (d.1 ++ codes ")") (solid_whole d.0 name) (whole_append d.1 (codes ")") inside.whole close) in
    rw d.2 (record { whole = all; start = name_starts d.0 (d.1 ++ codes ")") name (same_length d.0 (codes "CTOD(") d.3) })

pub literal_word : (word : List ℕ) (l : Literal) → IsLiteral word l → IsCutWord word
literal_word word (Text text) h = text_whole word text h
literal_word word (Number n s) h = number_word word (n, s) h
literal_word word (Truth truth) h = truth_word word truth h
literal_word word (Date day) h = date_word word h.0 h.1
literal_word word BlankDate h = date_word word h.0 h.1
literal_word word BadDate h = date_word word h.0 h.1

minus_solid : (b : ℕ) → (b == MINUS) ≡ true → is_solid b ≡ true
minus_solid b h = grind (arith, nat_tests, h)

distance_by : (b : ℕ) (bs : List ℕ) (n : ℤ) (is : Bool) → (b == MINUS) ≡ is
    → cond is (option_map (λ n. neg_ℤ (pos n)) (count_in bs)) (option_map pos (count_in (b ∷ bs))) ≡ Some n → IsCutWord (b ∷ bs)
distance_by b bs n true e h =
    let m = mapped _ (count_in bs) n h in
    solid_word b bs (and_from (is_solid b) (list_all is_solid bs) (minus_solid b e) (weaker is_ascii_digit is_solid solid_digit bs (digits_of bs m.0 m.1)))
distance_by b bs n false e h =
    let m = mapped _ (count_in (b ∷ bs)) n h in
    solid_word b bs (weaker is_ascii_digit is_solid solid_digit (b ∷ bs) (digits_of (b ∷ bs) m.0 m.1))

pub distance_word : (word : List ℕ) (n : ℤ) → distance_in word ≡ Some n → IsCutWord word
distance_word [] n e = absurd cc
distance_word (b ∷ bs) n e = distance_by b bs n (b == MINUS) refl e
