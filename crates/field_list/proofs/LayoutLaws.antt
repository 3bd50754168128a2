-- How the line of a field is laid out in words.
use Rattle.std.proofs.Common.{◌≡◌, ℕ, zero, suc, List, [], ◌∷◌, ◌++◌, Bool, true, false, not, cond, ◌==◌, ◌&&◌, ◌||◌, ◌+◌, ◌-◌, ◌<◌, ◌≤◌, ◌^◌, length, replicate, Some, None, refl, ap, ◌∙◌, sym, arith, append_assoc}
use Rattle.std.specs.Prelude.{nat_le, codes}
use Rattle.std.specs.List.{list_all}
use Rattle.std.specs.Char.{is_ascii_digit, is_ascii_alphabetic}
use Rattle.std.specs.Int.{is_in_range}
use Rattle.std.specs.Fmt.{decimal}
use Rattle.std.proofs.Common.{slice_index}
use Rattle.std.proofs.lemmas.Bool.{false≢true, and_parts, and_from, eqb-true}
use Rattle.std.proofs.lemmas.List.{append-nil}
use Rattle.std.proofs.lemmas.Bool.Decides.{nat_tests}
use Rattle.dbf_fields.specs.declared.field.Field.{Field}
use Rattle.dbf_fields.specs.declared.format.TheConstants.{BLANK, CHARACTER, DATE, LOGICAL, MEMO, NUMBER}
use Rattle.dbf_fields.specs.Field.{is_kind}
use Rattle.dbf_fields.specs.Name.{is_name, is_name_char}
use Rattle.table_text.specs.Columns.{aligned}
use Rattle.table_text.specs.Structure.{kind_word, decimals_part, numbered_name, kind_and_width}
use Rattle.station_lines.specs.Script.Words.{is_gap, are_gaps, ends_word}
use Rattle.station_lines.specs.Setup.{is_word, AreWords}
use Rattle.station_lines.proofs.ScriptLaws.PartLaws.{all_both, weaker}
use Rattle.station_lines.proofs.CommandLaws.NumberLaws.{decimal_digits, count_again}
use Rattle.field_list.specs.FieldLine.{kind_named, byte_in, small_one}
use Rattle.field_list.proofs.WordLaws.{decimals_words}

-- the widths of the columns that are printed
abbrev number_column : ℕ
number_column = 5

abbrev name_column : ℕ
name_column = 10

abbrev kind_column : ℕ
kind_column = 9

abbrev width_column : ℕ
width_column = 5

abbrev decimals_column : ℕ
decimals_column = 8

-- a byte that is no control byte
abbrev pub is_shown : ℕ → Bool
is_shown b = nat_le BLANK b

-- ---- words

digit_apart : (d : ℕ) → is_ascii_digit d ≡ true → not (is_gap d) ≡ true
digit_apart d h = grind (arith, nat_tests)

letter_apart : (d : ℕ) → is_name_char d ≡ true → not (is_gap d) ≡ true
letter_apart d h = grind (arith, nat_tests)

digit_shown : (d : ℕ) → is_ascii_digit d ≡ true → is_shown d ≡ true
digit_shown d h = grind (arith, nat_tests)

letter_shown : (d : ℕ) → is_name_char d ≡ true → is_shown d ≡ true
letter_shown d h = grind (arith, nat_tests)

-- digits, at least one, are a word
digits_word : (ds : List ℕ) → list_all is_ascii_digit ds ≡ true → 0 < length ds → is_word ds ≡ true
digits_word [] h some = absurd (omega (arith, some))
digits_word (d ∷ ds) h some = weaker is_ascii_digit (λ b. not (is_gap b)) digit_apart (d ∷ ds) h

pub number_word : (n : ℕ) → n < 2 ^ 64 → is_word (decimal n) ≡ true
number_word n small = let d = decimal_digits n small in digits_word (decimal n) d.digits d.some

pub number_shown : (n : ℕ) → n < 2 ^ 64 → list_all is_shown (decimal n) ≡ true
number_shown n small = weaker is_ascii_digit is_shown digit_shown (decimal n) (decimal_digits n small).digits

pub name_word : (name : List ℕ) → is_name name ≡ true → is_word name ≡ true
name_word [] h = absurd (false≢true h)
name_word (b ∷ bs) h =
    let p = and_parts (is_in_range 1 10 (length (b ∷ bs))) (is_ascii_alphabetic b && list_all is_name_char (b ∷ bs)) h in
    let q = and_parts (is_ascii_alphabetic b) (list_all is_name_char (b ∷ bs)) p.1 in
    weaker is_name_char (λ c. not (is_gap c)) letter_apart (b ∷ bs) q.1

pub name_shown : (name : List ℕ) → is_name name ≡ true → list_all is_shown name ≡ true
name_shown name h =
    let p = and_parts (is_in_range 1 10 (length name)) (is_ascii_alphabetic (slice_index name 0) && list_all is_name_char name) h in
    let q = and_parts (is_ascii_alphabetic (slice_index name 0)) (list_all is_name_char name) p.1 in
    weaker is_name_char is_shown letter_shown name q.1

-- the word for a kind, by what its letter is
abbrev word_by : Bool → Bool → Bool → Bool → List ℕ
word_by c n l d = cond c (codes "Character") (cond n (codes "Number") (cond l (codes "Logical") (cond d (codes "Date") (codes "Memo"))))

word_by_word : (c n l d : Bool) → is_word (word_by c n l d) ≡ true
word_by_word true n l d = refl
word_by_word false true l d = refl
word_by_word false false true d = refl
word_by_word false false false true = refl
word_by_word false false false false = refl

pub kind_is_word : (kind : ℕ) → is_word (kind_word kind) ≡ true
kind_is_word kind = word_by_word (kind == CHARACTER) (kind == NUMBER) (kind == LOGICAL) (kind == DATE)

word_by_shown : (c n l d : Bool) → list_all is_shown (word_by c n l d) ≡ true
word_by_shown true n l d = refl
word_by_shown false true l d = refl
word_by_shown false false true d = refl
word_by_shown false false false true = refl
word_by_shown false false false false = refl

pub kind_shown : (kind : ℕ) → list_all is_shown (kind_word kind) ≡ true
kind_shown kind = word_by_shown (kind == CHARACTER) (kind == NUMBER) (kind == LOGICAL) (kind == DATE)

named_by : (kind : ℕ) (c n l d m : Bool) → (kind == CHARACTER) ≡ c → (kind == NUMBER) ≡ n → (kind == LOGICAL) ≡ l → (kind == DATE) ≡ d → (kind == MEMO) ≡ m
    → ((((c || n) || l) || d) || m) ≡ true → kind_named (word_by c n l d) ≡ Some kind
named_by kind true n l d m ec en el ed em h = ap Some (sym (eqb-true kind CHARACTER ec))
named_by kind false true l d m ec en el ed em h = ap Some (sym (eqb-true kind NUMBER en))
named_by kind false false true d m ec en el ed em h = ap Some (sym (eqb-true kind LOGICAL el))
named_by kind false false false true m ec en el ed em h = ap Some (sym (eqb-true kind DATE ed))
named_by kind false false false false true ec en el ed em h = ap Some (sym (eqb-true kind MEMO em))
named_by kind false false false false false ec en el ed em h = absurd (false≢true h)

-- the word for a kind names it
pub kind_again : (kind : ℕ) → is_kind kind ≡ true → kind_named (kind_word kind) ≡ Some kind
kind_again kind h =
    named_by kind (kind == CHARACTER) (kind == NUMBER) (kind == LOGICAL) (kind == DATE) (kind == MEMO) refl refl refl refl refl h

chosen : {X : Type 0} (b : Bool) (x y : X) → b ≡ true → cond b x y ≡ x
chosen true x y e = refl
chosen false x y e = absurd (false≢true e)

-- a number up to 255 is read again
pub byte_again : (n : ℕ) → n ≤ 255 → byte_in (decimal n) ≡ Some n
byte_again n small = ap small_one (count_again n (omega arith)) ∙ chosen (nat_le n 255) (Some n) None (grind (arith, nat_tests))

-- ---- columns

blanks : (n : ℕ) → are_gaps (replicate n BLANK) ≡ true
blanks zero = refl
blanks (suc n) = blanks n

blanks_end : (n : ℕ) (rest : List ℕ) → ends_word (replicate n BLANK ++ (BLANK ∷ rest)) ≡ true
blanks_end zero rest = refl
blanks_end (suc n) rest = refl

blanks_shown : (n : ℕ) → list_all is_shown (replicate n BLANK) ≡ true
blanks_shown zero = refl
blanks_shown (suc n) = blanks_shown n

by_side : (q : Bool) (blank text : List ℕ) → list_all is_shown blank ≡ true → list_all is_shown text ≡ true → list_all is_shown (cond q (blank ++ text) (text ++ blank)) ≡ true
by_side true blank text b t = all_both is_shown blank text b t
by_side false blank text b t = all_both is_shown text blank t b

pub column_shown : (kind width : ℕ) (text : List ℕ) → list_all is_shown text ≡ true → list_all is_shown (aligned kind width text) ≡ true
unfolding aligned
column_shown kind width text h = by_side (kind == NUMBER) (replicate (width - length text) BLANK) text (blanks_shown (width - length text)) h

at_right : (width : ℕ) (text : List ℕ) → aligned NUMBER width text ≡ replicate (width - length text) BLANK ++ text
unfolding aligned
at_right width text = refl

at_left : (width : ℕ) (text : List ℕ) → aligned CHARACTER width text ≡ text ++ replicate (width - length text) BLANK
unfolding aligned
at_left width text = refl

-- ---- the words of a field's line

decimals_after : (q : Bool) (text : List ℕ) → is_word text ≡ true → AreWords (decimals_words q text) (cond q (BLANK ∷ aligned NUMBER decimals_column text) [])
decimals_after true text word =
    let pad : List ℕ = replicate (decimals_column - length text) BLANK in
    ((BLANK ∷ pad, [], ap (λ (xs : List ℕ). BLANK ∷ xs) (at_right decimals_column text ∙ ap (λ (xs : List ℕ). pad ++ xs) (sym (append-nil text))), blanks (decimals_column - length text), refl, refl), and_from (is_word text) true word refl)
decimals_after false text word = (refl, refl)

decimals_end : (q : Bool) (rest : List ℕ) → ends_word (cond q (BLANK ∷ rest) []) ≡ true
decimals_end true rest = refl
decimals_end false rest = refl

-- a word after a gap, before others
pub word_before : (gap word rest line : List ℕ) (others : List (List ℕ)) → line ≡ gap ++ (word ++ rest) → are_gaps gap ≡ true → is_word word ≡ true → ends_word rest ≡ true
    → AreWords others rest → AreWords (word ∷ others) line
word_before gap word rest line others is gaps w ends are = ((gap, rest, is, gaps, ends, are.0), and_from (is_word word) (list_all is_word others) w are.1)

pub line_words : (number : ℕ) (f : Field) → is_word (decimal number) ≡ true → is_word f.name ≡ true → is_word (decimal f.width) ≡ true → is_word (decimal f.decimals) ≡ true
    → AreWords (decimal number ∷ f.name ∷ kind_word f.kind ∷ decimal f.width ∷ decimals_words (f.kind == NUMBER) (decimal f.decimals)) (numbered_name number f ++ kind_and_width f)
line_words number f number_is name_is width_is decimals_is =
    let n : List ℕ = decimal number in
    let w : List ℕ = decimal f.width in
    let k : List ℕ = kind_word f.kind in
    let a : List ℕ = replicate (number_column - length n) BLANK in
    let b : List ℕ = replicate (name_column - length f.name) BLANK in
    let c : List ℕ = replicate (kind_column - length k) BLANK in
    let d : List ℕ = replicate (width_column - length w) BLANK in
    let r4 : List ℕ = decimals_part f in
    let r3 : List ℕ = c ++ (BLANK ∷ (d ++ (w ++ r4))) in
    let r2 : List ℕ = b ++ (BLANK ∷ (k ++ r3)) in
    let r1 : List ℕ = BLANK ∷ (f.name ++ r2) in
    let ds : List (List ℕ) = decimals_words (f.kind == NUMBER) (decimal f.decimals) in
    let whole : numbered_name number f ++ kind_and_width f ≡ a ++ (n ++ r1) =
    rw (at_right number_column n, at_left name_column f.name, at_left kind_column k, at_right width_column w) (simp append_assoc) in
    word_before a n r1 _ (f.name ∷ k ∷ w ∷ ds) whole (blanks (number_column - length n)) number_is refl
    (word_before (BLANK ∷ []) f.name r2 r1 (k ∷ w ∷ ds) refl refl name_is (blanks_end (name_column - length f.name) (k ++ r3))
    (word_before (b ++ (BLANK ∷ [])) k r3 r2 (w ∷ ds) (sym (append_assoc b (BLANK ∷ []) (k ++ r3))) (all_both is_gap b (BLANK ∷ []) (blanks (name_column - length f.name)) refl) (kind_is_word f.kind) (blanks_end (kind_column - length k) (d ++ (w ++ r4)))
    (word_before (c ++ (BLANK ∷ d)) w r4 r3 ds (sym (append_assoc c (BLANK ∷ d) (w ++ r4))) (all_both is_gap c (BLANK ∷ d) (blanks (kind_column - length k)) (blanks (width_column - length w))) width_is
    (decimals_end (f.kind == NUMBER) (aligned NUMBER decimals_column (decimal f.decimals)))
    (decimals_after (f.kind == NUMBER) (decimal f.decimals) decimals_is))))

-- ---- a field's line has no control byte

decimals_shown : (q : Bool) (text : List ℕ) → list_all is_shown text ≡ true → list_all is_shown (cond q (BLANK ∷ text) []) ≡ true
decimals_shown true text h = h
decimals_shown false text h = refl

pub line_shown : (number : ℕ) (f : Field) → list_all is_shown (decimal number) ≡ true → list_all is_shown f.name ≡ true → list_all is_shown (decimal f.width) ≡ true
    → list_all is_shown (decimal f.decimals) ≡ true → list_all is_shown (numbered_name number f ++ kind_and_width f) ≡ true
line_shown number f number_is name_is width_is decimals_is =
    let name_end = BLANK ∷ aligned CHARACTER name_column f.name in
    let width_end = BLANK ∷ (aligned NUMBER width_column (decimal f.width) ++ decimals_part f) in
    let kind_end = BLANK ∷ (aligned CHARACTER kind_column (kind_word f.kind) ++ width_end) in
    let decimals_fine : list_all is_shown (decimals_part f) ≡ true =
    decimals_shown (f.kind == NUMBER) (aligned NUMBER decimals_column (decimal f.decimals)) (column_shown NUMBER decimals_column (decimal f.decimals) decimals_is) in
    let width_fine : list_all is_shown width_end ≡ true =
    all_both is_shown (aligned NUMBER width_column (decimal f.width)) (decimals_part f) (column_shown NUMBER width_column (decimal f.width) width_is) decimals_fine in
    let kind_fine : list_all is_shown kind_end ≡ true =
    all_both is_shown (aligned CHARACTER kind_column (kind_word f.kind)) width_end (column_shown CHARACTER kind_column (kind_word f.kind) (kind_shown f.kind)) width_fine in
    let name_fine : list_all is_shown (numbered_name number f) ≡ true =
    all_both is_shown (aligned NUMBER number_column (decimal number)) name_end (column_shown NUMBER number_column (decimal number) number_is) (column_shown CHARACTER name_column f.name name_is) in
    all_both is_shown (numbered_name number f) kind_end name_fine kind_fine
