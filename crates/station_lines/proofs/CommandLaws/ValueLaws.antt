-- A name, a text, a list or a value that is written is read again.
use Rattle.std.proofs.Common.{◌≡◌, ℕ, ◌+◌, ◌-◌, ◌*◌, ◌/◌, ◌%◌, ◌^◌, ◌<◌, ◌≤◌, ◌≢◌, Bool, true, false, not, cond, ◌==◌, ◌&&◌, List, [], ◌∷◌, ◌++◌, length, get_or, Some, None, refl, ap, ◌∙◌, sym, subst, arith}
use Rattle.std.specs.Prelude.{codes, slice_index}
use Rattle.std.specs.List.{list_all, onto_first}
use Rattle.std.specs.Char.{is_ascii_digit, is_ascii_alphabetic, to_ascii_uppercase}
use Rattle.std.specs.Fmt.{decimal}
use Rattle.std.proofs.lemmas.Bool.{false≢true, eqb-true, and_parts}
use Rattle.std.proofs.lemmas.Bool.Decides.{nat_tests}
use Rattle.std.proofs.lemmas.List.{append-nil, append_assoc, drop_more, drop_all}
use Rattle.dbf_fields.specs.declared.day.Day.{Day}
use Rattle.dbf_fields.specs.declared.format.TheConstants.{SLASH}
use Rattle.dbf_fields.specs.declared.literal.Literal.{Literal}
use Rattle.dbf_fields.specs.declared.literal.Literal.TheVariants.{Text, Number, Truth, Date, BlankDate, BadDate}
use Rattle.dbf_fields.specs.Date.{is_date, is_day, SaysDay}
use Rattle.dbf_fields.specs.Digits.{last_digits}
use Rattle.dbf_fields.specs.Name.{is_name_char}
use Rattle.dbf_fields.proofs.Digits.{digit_at}
use Rattle.dbf_fields.proofs.ReadBack.{last_digits_digits}
use Rattle.station_lines.specs.declared.script.format.TheConstants.{MAX_COUNT_DIGITS, QUOTE, APOSTROPHE, COMMA}
use Rattle.station_lines.specs.Script.Parts.{capitals, is_name_word, name_in, between_commas, AreCounts, IsListCall, is_quote, IsText}
use Rattle.station_lines.specs.Script.Literals.{has_slashes, year_first, cell_of_shown, IsDateCall, IsLiteral}
use Rattle.station_lines.specs.CommandLines.{quoted, written_day, date_call, written_value, after_commas, with_commas}
use Rattle.station_lines.proofs.ScriptLaws.TextLaws.{chosen, passed}
use Rattle.station_lines.proofs.ScriptLaws.PartLaws.{tested, all_both, weaker}
use Rattle.station_lines.proofs.CommandLaws.NumberLaws.{decimal_digits, count_small, count_again, number_small, number_again}

-- ---- names

upper_again : (c : ℕ) → to_ascii_uppercase (to_ascii_uppercase c) ≡ to_ascii_uppercase c
upper_again c = grind (arith, nat_tests)

letter_upper : (c : ℕ) → is_ascii_alphabetic (to_ascii_uppercase c) ≡ is_ascii_alphabetic c
letter_upper c = grind (arith, nat_tests)

name_char_upper : (c : ℕ) → is_name_char (to_ascii_uppercase c) ≡ is_name_char c
name_char_upper c = grind (arith, nat_tests)

capitals_again : (word : List ℕ) → capitals (capitals word) ≡ capitals word
capitals_again [] = refl
capitals_again (c ∷ cs) = rw (upper_again c, capitals_again cs) refl

name_chars_upper : (word : List ℕ) → list_all is_name_char (capitals word) ≡ list_all is_name_char word
name_chars_upper [] = refl
name_chars_upper (c ∷ cs) = rw (name_char_upper c, name_chars_upper cs) refl

name_word_upper : (word : List ℕ) → is_name_word (capitals word) ≡ is_name_word word
name_word_upper [] = refl
name_word_upper (c ∷ cs) = rw (letter_upper c, name_char_upper c, name_chars_upper cs) refl

-- a name in capitals is a name
pub name_again : (word name : List ℕ) → name_in word ≡ Some name → name_in name ≡ Some name
name_again word name e =
    let t = tested (is_name_word word) (capitals word) name e in
    subst (λ (n : List ℕ). name_in n ≡ Some n) t.1 (chosen (is_name_word (capitals word)) _ None (name_word_upper word ∙ t.0) ∙ ap Some (capitals_again word))

-- ---- texts

apostrophe_left : (q : ℕ) → is_quote q ≡ true → (q ≡ QUOTE → ⊥) → q ≡ APOSTROPHE
apostrophe_left q is other = grind (arith, nat_tests)

by_quote : (word text : List ℕ) → IsText word text → (q : Bool) → list_all (λ b. not (b == QUOTE)) text ≡ q
    → IsText (cond q (QUOTE ∷ (text ++ (QUOTE ∷ []))) (APOSTROPHE ∷ (text ++ (APOSTROPHE ∷ [])))) text
by_quote word text t true e = (QUOTE, refl, refl, e)
by_quote word text t false e =
    let other : t.0 ≡ QUOTE → ⊥ = λ same. false≢true (sym e ∙ subst (λ (q : ℕ). list_all (λ b. not (b == q)) text ≡ true) same t.3) in
    let is : t.0 ≡ APOSTROPHE = apostrophe_left t.0 t.1 other in
    (APOSTROPHE, refl, refl, subst (λ (q : ℕ). list_all (λ b. not (b == q)) text ≡ true) is t.3)

-- a text of a line stands between quotes that it doesn't hold
pub text_again : (word text : List ℕ) → IsText word text → IsText (quoted text) text
text_again word text t = by_quote word text t (list_all (λ b. not (b == QUOTE)) text) refl

-- ---- lists of numbers

digit_no_comma : (d : ℕ) → is_ascii_digit d ≡ true → (d == COMMA) ≡ false
digit_no_comma d h = grind (arith, nat_tests)

cut_at_comma : (ds rest : List ℕ) → list_all is_ascii_digit ds ≡ true → between_commas (ds ++ (COMMA ∷ rest)) ≡ ds ∷ between_commas rest
cut_at_comma [] rest h = refl
cut_at_comma (d ∷ ds) rest h =
    let p = and_parts (is_ascii_digit d) (list_all is_ascii_digit ds) h in
    passed (d == COMMA) ([] ∷ between_commas (ds ++ (COMMA ∷ rest))) (onto_first d (between_commas (ds ++ (COMMA ∷ rest)))) (digit_no_comma d p.0)
    ∙ ap (onto_first d) (cut_at_comma ds rest p.1)

no_comma : (ds : List ℕ) → list_all is_ascii_digit ds ≡ true → between_commas ds ≡ ds ∷ []
no_comma [] h = refl
no_comma (d ∷ ds) h =
    let p = and_parts (is_ascii_digit d) (list_all is_ascii_digit ds) h in
    passed (d == COMMA) ([] ∷ between_commas ds) (onto_first d (between_commas ds)) (digit_no_comma d p.0)
    ∙ ap (onto_first d) (no_comma ds p.1)

-- each number has 10 digits at most
AreSmall : List ℕ → Type 0
AreSmall [] = Unit {0}
AreSmall (n ∷ ns) = (n < 10 ^ MAX_COUNT_DIGITS) × AreSmall ns

counts_small : (parts : List (List ℕ)) (ns : List ℕ) → AreCounts parts ns → AreSmall ns
unfolding AreSmall
counts_small [] [] h = tt
counts_small [] (n ∷ ns) h = absurd h
counts_small (part ∷ parts) [] h = absurd h
counts_small (part ∷ parts) (n ∷ ns) h = (count_small part n h.0, counts_small parts ns h.1)

small_digits : (n : ℕ) → n < 10 ^ MAX_COUNT_DIGITS → list_all is_ascii_digit (decimal n) ≡ true
small_digits n small = (decimal_digits n (omega arith)).digits

counts_again : (n : ℕ) (ns : List ℕ) → AreSmall (n ∷ ns) → AreCounts (between_commas (decimal n ++ after_commas ns)) (n ∷ ns)
unfolding AreSmall
counts_again n [] small =
    let one : between_commas (decimal n ++ []) ≡ decimal n ∷ [] = ap between_commas (append-nil (decimal n)) ∙ no_comma (decimal n) (small_digits n small.0) in
    subst (λ (parts : List (List ℕ)). AreCounts parts (n ∷ [])) (sym one) (count_again n small.0, tt)
counts_again n (m ∷ ms) small =
    let cut = cut_at_comma (decimal n) (decimal m ++ after_commas ms) (small_digits n small.0) in
    subst (λ (parts : List (List ℕ)). AreCounts parts (n ∷ m ∷ ms)) (sym cut) (count_again n small.0, counts_again m ms small.1)

some_part : (x : ℕ) (parts : List (List ℕ)) → onto_first x parts ≡ [] → ⊥
some_part x [] e = cc
some_part x (part ∷ parts) e = cc

by_comma : (x : ℕ) (xs : List ℕ) (q : Bool) → cond q ([] ∷ between_commas xs) (onto_first x (between_commas xs)) ≡ [] → ⊥
by_comma x xs true e = cc
by_comma x xs false e = some_part x (between_commas xs) e

parts_some : (inside : List ℕ) → between_commas inside ≡ [] → ⊥
parts_some [] e = cc
parts_some (x ∷ xs) e = by_comma x xs (x == COMMA) e

listed_again : (parts : List (List ℕ)) (ns : List ℕ) → (parts ≡ [] → ⊥) → AreCounts parts ns → AreCounts (between_commas (with_commas ns)) ns
listed_again [] ns some h = absurd (some refl)
listed_again (part ∷ parts) [] some h = absurd h
listed_again (part ∷ parts) (n ∷ ns) some h = counts_again n ns (counts_small (part ∷ parts) (n ∷ ns) h)

-- a list of numbers in the parentheses of RLOCK
pub list_again : (function word ns : List ℕ) → IsListCall function word ns → IsListCall (codes "RLOCK(") (codes "RLOCK(" ++ (with_commas ns ++ codes ")")) ns
list_again function word ns call =
    (codes "RLOCK(", with_commas ns, refl, refl, listed_again (between_commas call.1) ns (parts_some call.1) call.4)

-- one number more in a list
pub after_commas-push : (ns : List ℕ) (n : ℕ) → after_commas (ns ++ n ∷ []) ≡ after_commas ns ++ (COMMA ∷ decimal n)
after_commas-push [] n = ap (λ (l : List ℕ). COMMA ∷ l) (append-nil (decimal n))
after_commas-push (m ∷ ns) n =
    ap (λ (l : List ℕ). COMMA ∷ (decimal m ++ l)) (after_commas-push ns n) ∙ ap (λ (l : List ℕ). COMMA ∷ l) (sym (append_assoc (decimal m) (after_commas ns) (COMMA ∷ decimal n)))

-- ---- dates

eight_bytes : (xs : List ℕ) → length xs ≡ 8
    → xs ≡ get_or xs 0 0 ∷ get_or xs 1 0 ∷ get_or xs 2 0 ∷ get_or xs 3 0 ∷ get_or xs 4 0 ∷ get_or xs 5 0 ∷ get_or xs 6 0 ∷ get_or xs 7 0 ∷ []
eight_bytes xs long =
    drop_more xs 0 0 (omega arith)
    ∙ ap (λ (l : List ℕ). get_or xs 0 0 ∷ l) (drop_more xs 1 0 (omega arith)
    ∙ ap (λ (l : List ℕ). get_or xs 1 0 ∷ l) (drop_more xs 2 0 (omega arith)
    ∙ ap (λ (l : List ℕ). get_or xs 2 0 ∷ l) (drop_more xs 3 0 (omega arith)
    ∙ ap (λ (l : List ℕ). get_or xs 3 0 ∷ l) (drop_more xs 4 0 (omega arith)
    ∙ ap (λ (l : List ℕ). get_or xs 4 0 ∷ l) (drop_more xs 5 0 (omega arith)
    ∙ ap (λ (l : List ℕ). get_or xs 5 0 ∷ l) (drop_more xs 6 0 (omega arith)
    ∙ ap (λ (l : List ℕ). get_or xs 6 0 ∷ l) (drop_more xs 7 0 (omega arith)
    ∙ ap (λ (l : List ℕ). get_or xs 7 0 ∷ l) (drop_all 8 xs (omega arith)))))))))

no_empty_date : is_date [] ≡ true → ⊥
unfolding is_date
no_empty_date e = false≢true e

-- two digits of the number that they are
two_again : (a b n : ℕ) → 48 ≤ a → a ≤ 57 → 48 ≤ b → b ≤ 57 → (0 * 10 + (a - 48)) * 10 + (b - 48) ≡ n → (48 + n / 10 % 10 ≡ a) × (48 + n % 10 ≡ b)
two_again a b n al au bl bu e = (omega arith, omega arith)

year_again : (a b n : ℕ) → 48 ≤ a → a ≤ 57 → 48 ≤ b → b ≤ 57 → (((0 * 10 + (49 - 48)) * 10 + (57 - 48)) * 10 + (a - 48)) * 10 + (b - 48) ≡ n → (48 + n / 10 % 10 ≡ a) × (48 + n % 10 ≡ b)
year_again a b n al au bl bu e = (omega arith, omega arith)

slashed_day : (text : List ℕ) (day : Day) → has_slashes text ≡ true → SaysDay (year_first text) day → written_day day ≡ text
unfolding is_date
slashed_day text day slashes s =
    let p = and_parts (length text == 8) (slice_index text 2 == SLASH && slice_index text 5 == SLASH) slashes in
    let q = and_parts (slice_index text 2 == SLASH) (slice_index text 5 == SLASH) p.1 in
    let long : length text ≡ 8 = eqb-true (length text) 8 p.0 in
    let third : get_or text 2 0 ≡ SLASH = eqb-true (get_or text 2 0) SLASH q.0 in
    let sixth : get_or text 5 0 ≡ SLASH = eqb-true (get_or text 5 0) SLASH q.1 in
    let digits = (and_parts (list_all is_ascii_digit (year_first text)) _ (and_parts true _ s.real).1).0 in
    let at = digit_at (year_first text) digits in
    let month = two_again (get_or text 0 0) (get_or text 1 0) day.month (at 4 (omega arith)).0 (at 4 (omega arith)).1 (at 5 (omega arith)).0 (at 5 (omega arith)).1 s.month in
    let date = two_again (get_or text 3 0) (get_or text 4 0) day.day (at 6 (omega arith)).0 (at 6 (omega arith)).1 (at 7 (omega arith)).0 (at 7 (omega arith)).1 s.day_of_month in
    let year = year_again (get_or text 6 0) (get_or text 7 0) day.year (at 2 (omega arith)).0 (at 2 (omega arith)).1 (at 3 (omega arith)).0 (at 3 (omega arith)).1 s.year in
    let whole = eight_bytes text long in
    cc (month.0, month.1, date.0, date.1, year.0, year.1, third, sixth, whole)

by_slashes : (text : List ℕ) (day : Day) (q : Bool) → has_slashes text ≡ q → SaysDay (cond q (year_first text) []) day → written_day day ≡ text
by_slashes text day true e s = slashed_day text day e s
by_slashes text day false e s = absurd (no_empty_date s.real)

-- a day of a line is written as it stands there
pub day_again : (text : List ℕ) (day : Day) → SaysDay (cell_of_shown text) day → written_day day ≡ text
day_again text day s = by_slashes text day (has_slashes text) refl s

digit_no_quote : (d : ℕ) → is_ascii_digit d ≡ true → not (d == QUOTE) ≡ true
digit_no_quote d h = grind (arith, nat_tests)

abbrev has_no_quote : List ℕ → Bool
has_no_quote text = list_all (λ b. not (b == QUOTE)) text

two_no_quote : (n : ℕ) (rest : List ℕ) → has_no_quote rest ≡ true → has_no_quote (last_digits 2 n ++ rest) ≡ true
two_no_quote n rest h = all_both (λ b. not (b == QUOTE)) (last_digits 2 n) rest (weaker is_ascii_digit (λ b. not (b == QUOTE)) digit_no_quote (last_digits 2 n) (last_digits_digits 2 n)) h

day_no_quote : (day : Day) → has_no_quote (written_day day) ≡ true
day_no_quote day =
    two_no_quote day.month (SLASH ∷ (last_digits 2 day.day ++ (SLASH ∷ last_digits 2 day.year)))
    (two_no_quote day.day (SLASH ∷ last_digits 2 day.year) (subst (λ (xs : List ℕ). has_no_quote xs ≡ true) (append-nil (last_digits 2 day.year)) (two_no_quote day.year [] refl)))

date_call_is : (text : List ℕ) → has_no_quote text ≡ true → IsDateCall (date_call text) text
date_call_is text h =
    (codes "CTOD(", QUOTE ∷ (text ++ (QUOTE ∷ [])), ap (λ (xs : List ℕ). codes "CTOD(" ++ (QUOTE ∷ xs)) (sym (append_assoc text (QUOTE ∷ []) (codes ")"))), refl, (QUOTE, refl, refl, h))

no_blank_date : codes "99/99/99" ≢ codes "  /  /  "
no_blank_date e = let first : 57 ≡ 32 = ap (λ (xs : List ℕ). slice_index xs 0) e in absurd (omega (arith, first))

no_such_date : is_date (cell_of_shown (codes "99/99/99")) ≡ false
unfolding is_date is_day
no_such_date = refl

-- ---- values

-- a value of a line is read again
pub value_again : (word : List ℕ) (value : Literal) → IsLiteral word value → IsLiteral (written_value value) value
value_again word (Text text) h = text_again word text h
value_again word (Number digits scale) h = number_again digits scale (number_small word digits scale h)
value_again word (Truth true) h = refl
value_again word (Truth false) h = refl
value_again word (Date day) h =
    (written_day day, date_call_is (written_day day) (day_no_quote day), subst (λ (xs : List ℕ). SaysDay (cell_of_shown xs) day) (sym (day_again h.0 day h.2)) h.2)
value_again word BlankDate h = (codes "  /  /  ", date_call_is (codes "  /  /  ") refl, refl)
value_again word BadDate h = (codes "99/99/99", date_call_is (codes "99/99/99") refl, (no_blank_date, no_such_date))
