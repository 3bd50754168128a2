-- The line of a command that a script's line means has no LF.
use Rattle.std.proofs.Common.{◌≡◌, ℕ, suc, ◌^◌, ◌/◌, ◌<◌, Bool, true, false, not, cond, ◌==◌, List, [], ◌∷◌, ◌++◌, Some, refl, ◌∙◌, sym, subst, arith, ℤ, pos, negsuc}
use Rattle.std.specs.Prelude.{codes, nat_lt, slice_index}
use Rattle.std.specs.List.{list_all, AllByRecursion}
use mathlib.Core.Logic.{inl, inr}
use Rattle.std.specs.Char.{is_ascii_digit, is_ascii_alphabetic}
use Rattle.std.specs.Fmt.{decimal, signed_decimal}
use Rattle.std.specs.Int.RustNames.{unsigned_abs}
use Rattle.std.proofs.lemmas.Bool.{and_parts}
use Rattle.std.proofs.lemmas.Bool.Decides.{nat_tests}
use Rattle.std.proofs.lemmas.List.Folds.{list_all-append}
use Rattle.dbf_fields.specs.declared.day.Day.{Day}
use Rattle.dbf_fields.specs.declared.format.TheConstants.{POINT, SLASH}
use Rattle.dbf_fields.specs.declared.literal.Literal.{Literal}
use Rattle.dbf_fields.specs.declared.literal.Literal.TheVariants.{Text, Number, Truth, Date, BlankDate, BadDate}
use Rattle.dbf_fields.specs.Digits.{last_digits, numeral}
use Rattle.dbf_fields.specs.Name.{is_name_char}
use Rattle.dbf_fields.specs.NumberText.{sign, point, number_text}
use Rattle.dbf_fields.proofs.ReadBack.{last_digits_digits}
use Rattle.catalogue_core.specs.declared.command.Command.{Command}
use Rattle.catalogue_core.specs.declared.command.Command.TheVariants as command
use Rattle.station_lines.specs.declared.script.call.CallName.TheVariants as call_name
use Rattle.station_lines.specs.declared.script.format.TheConstants.{LF, QUOTE, APOSTROPHE, MAX_COUNT_DIGITS, MAX_LITERAL_DIGITS}
use Rattle.station_lines.specs.declared.script.line.Line.TheVariants.{Run}
use Rattle.station_lines.specs.Script.Words.{HasWords}
use Rattle.station_lines.specs.Script.Lines.{has_no_lf, AreLines}
use Rattle.station_lines.specs.Script.Meaning.{Part, keyword, name, count, list_call, text, literal, phrase, or_, IsPart, Are, Means}
use Rattle.station_lines.specs.Script.Parts.{is_name_word, name_in, AreCounts, IsText, between_commas}
use Rattle.station_lines.specs.Script.Literals.{IsLiteral}
use Rattle.station_lines.specs.CommandLines.{quoted, written_day, date_call, written_value, after_commas, with_commas, text_of_command, IsOfALine}
use Rattle.station_lines.proofs.ScriptLaws.PartLaws.{tested, all_both, weaker}
use Rattle.station_lines.proofs.ScriptLaws.MeaningLaws.{call_texts}
use Rattle.station_lines.proofs.CommandLaws.NumberLaws.{decimal_digits, numeral_digits, kept_all, count_small}
use Rattle.station_lines.proofs.CommandLaws.ValueLaws.{name_again}
use Rattle.station_lines.proofs.CommandLaws.LineLaws.{skip_small}

-- ---- words of a text without an LF

abbrev HaveNoLf : List (List ℕ) → Type 0
HaveNoLf [] = Unit {0}
HaveNoLf (word ∷ words) = (has_no_lf word ≡ true) × HaveNoLf words

both_parts : (xs ys : List ℕ) → has_no_lf (xs ++ ys) ≡ true → (has_no_lf xs ≡ true) × (has_no_lf ys ≡ true)
both_parts xs ys h = and_parts (has_no_lf xs) (has_no_lf ys) (sym (list_all-append (λ b. not (b == LF)) xs ys) ∙ h)

words_no_lf : (words : List (List ℕ)) (line : List ℕ) → HasWords words line → has_no_lf line ≡ true → HaveNoLf words
words_no_lf [] line w h = tt
words_no_lf (word ∷ words) line w h =
    let after = (both_parts w.0 (word ++ w.1) (subst (λ (xs : List ℕ). has_no_lf xs ≡ true) w.2 h)).1 in
    let parts = both_parts word w.1 after in
    (parts.0, words_no_lf words w.1 w.5 parts.1)

-- a word of each part of a command's form, without an LF
abbrev HasEachLine : List Part → Type 0
HasEachLine [] = Unit {0}
HasEachLine (p ∷ ps) = ((word : List ℕ) × IsPart p word × (has_no_lf word ≡ true)) × HasEachLine ps

each_line : (ps : List Part) (words : List (List ℕ)) → Are ps words → HaveNoLf words → HasEachLine ps
each_line [] [] h n = tt
each_line [] (w ∷ ws) h n = absurd h
each_line (p ∷ ps) [] h n = absurd h
each_line (p ∷ ps) (w ∷ ws) h n = ((w, h.0, n.0), each_line ps ws h.1 n.1)

-- ---- what is written for a part

digit_no_lf : (d : ℕ) → is_ascii_digit d ≡ true → not (d == LF) ≡ true
digit_no_lf d h = grind (arith, nat_tests)

name_char_no_lf : (d : ℕ) → is_name_char d ≡ true → not (d == LF) ≡ true
name_char_no_lf d h = grind (arith, nat_tests)

join : (xs ys : List ℕ) → has_no_lf xs ≡ true → has_no_lf ys ≡ true → has_no_lf (xs ++ ys) ≡ true
join = all_both (λ b. not (b == LF))

digits_line : (ds : List ℕ) → list_all is_ascii_digit ds ≡ true → has_no_lf ds ≡ true
digits_line = weaker is_ascii_digit (λ b. not (b == LF)) digit_no_lf

small_line : (n : ℕ) → n < 10 ^ MAX_COUNT_DIGITS → has_no_lf (decimal n) ≡ true
small_line n small = digits_line (decimal n) (decimal_digits n (omega arith)).digits

name_line : (word letters : List ℕ) → name_in word ≡ Some letters → has_no_lf letters ≡ true
name_line word letters e =
    let t = tested (is_name_word letters) _ letters (name_again word letters e) in
    weaker is_name_char (λ b. not (b == LF)) name_char_no_lf letters (and_parts (is_ascii_alphabetic (slice_index letters 0)) (list_all is_name_char letters) t.0).1

count_line : (word : List ℕ) (n : ℕ) → IsPart (count n) word → has_no_lf (decimal n) ≡ true
count_line word n e = small_line n (count_small word n e)

distance_line : (z : ℤ) → unsigned_abs z < 10 ^ MAX_COUNT_DIGITS → has_no_lf (signed_decimal z) ≡ true
distance_line (pos n) small = small_line n small
distance_line (negsuc n) small = small_line (suc n) small

between : (q : ℕ) (inside : List ℕ) → not (q == LF) ≡ true → has_no_lf inside ≡ true → has_no_lf (q ∷ (inside ++ (q ∷ []))) ≡ true
between q inside h n = rw h (join inside (q ∷ []) n (rw h refl))

by_quote : (inside : List ℕ) (q : Bool) → has_no_lf inside ≡ true → has_no_lf (cond q (QUOTE ∷ (inside ++ (QUOTE ∷ []))) (APOSTROPHE ∷ (inside ++ (APOSTROPHE ∷ [])))) ≡ true
by_quote inside true h = between QUOTE inside refl h
by_quote inside false h = between APOSTROPHE inside refl h

text_inside : (word inside : List ℕ) → IsText word inside → has_no_lf word ≡ true → has_no_lf inside ≡ true
text_inside word inside t h =
    let all = (both_parts (t.0 ∷ []) (inside ++ t.0 ∷ []) (subst (λ (xs : List ℕ). has_no_lf xs ≡ true) t.2 h)).1 in
    (both_parts inside (t.0 ∷ []) all).0

quoted_line : (word inside : List ℕ) → IsText word inside → has_no_lf word ≡ true → has_no_lf (quoted inside) ≡ true
quoted_line word inside t h = by_quote inside (list_all (λ b. not (b == QUOTE)) inside) (text_inside word inside t h)

sign_line : (z : ℤ) → has_no_lf (sign z) ≡ true
sign_line (pos n) = refl
sign_line (negsuc n) = refl

point_by : (q : Bool) → has_no_lf (cond q [] (POINT ∷ [])) ≡ true
point_by true = refl
point_by false = refl

point_line : (scale : ℕ) → has_no_lf (point scale) ≡ true
point_line scale = point_by (scale == 0)

last_line : (k n : ℕ) → has_no_lf (last_digits k n) ≡ true
last_line k n = digits_line (last_digits k n) (last_digits_digits k n)

number_line : (z : ℤ) (scale : ℕ) (q : Bool) → has_no_lf (cond q (number_text z scale scale) (sign z ++ (POINT ∷ last_digits scale (unsigned_abs z)))) ≡ true
unfolding number_text
number_line z scale true =
    let whole : List ℕ = numeral (unsigned_abs z / 10 ^ scale) in
    let kept = subst (λ (ds : List ℕ). has_no_lf ds ≡ true) (sym (kept_all scale (unsigned_abs z))) (last_line scale (unsigned_abs z)) in
    join (sign z) _ (sign_line z) (join whole _ (digits_line whole (numeral_digits (unsigned_abs z / 10 ^ scale)).digits) (join (point scale) _ (point_line scale) kept))
number_line z scale false = join (sign z) (POINT ∷ last_digits scale (unsigned_abs z)) (sign_line z) (last_line scale (unsigned_abs z))

day_line : (day : Day) → has_no_lf (written_day day) ≡ true
day_line day =
    join (last_digits 2 day.month) (SLASH ∷ (last_digits 2 day.day ++ (SLASH ∷ last_digits 2 day.year))) (last_line 2 day.month)
    (join (last_digits 2 day.day) (SLASH ∷ last_digits 2 day.year) (last_line 2 day.day) (last_line 2 day.year))

date_line : (inside : List ℕ) → has_no_lf inside ≡ true → has_no_lf (date_call inside) ≡ true
date_line inside h = join inside (QUOTE ∷ codes ")") h refl

value_line : (word : List ℕ) (value : Literal) → IsLiteral word value → has_no_lf word ≡ true → has_no_lf (written_value value) ≡ true
value_line word (Text inside) h n = quoted_line word inside h n
value_line word (Number digits scale) h n = number_line digits scale (nat_lt scale MAX_LITERAL_DIGITS)
value_line word (Truth true) h n = refl
value_line word (Truth false) h n = refl
value_line word (Date day) h n = date_line (written_day day) (day_line day)
value_line word BlankDate h n = refl
value_line word BadDate h n = refl

after_line : (parts : List (List ℕ)) (ns : List ℕ) → AreCounts parts ns → has_no_lf (after_commas ns) ≡ true
after_line [] [] h = refl
after_line [] (n ∷ ns) h = absurd h
after_line (part ∷ parts) [] h = absurd h
after_line (part ∷ parts) (n ∷ ns) h = join (decimal n) (after_commas ns) (count_line part n h.0) (after_line parts ns h.1)

list_line : (parts : List (List ℕ)) (ns : List ℕ) → AreCounts parts ns → has_no_lf (with_commas ns) ≡ true
list_line [] [] h = refl
list_line [] (n ∷ ns) h = absurd h
list_line (part ∷ parts) [] h = absurd h
list_line (part ∷ parts) (n ∷ ns) h = join (decimal n) (after_commas ns) (count_line part n h.0) (after_line parts ns h.1)

locks_line : (word ns : List ℕ) → IsPart (or_ (list_call (codes "RLOCK(") ns) (list_call (codes "LOCK(") ns)) word → has_no_lf (with_commas ns ++ codes ")") ≡ true
locks_line word ns (inl c) = join (with_commas ns) (codes ")") (list_line (between_commas c.1) ns c.4) refl
locks_line word ns (inr c) = join (with_commas ns) (codes ")") (list_line (between_commas c.1) ns c.4) refl

-- ---- the line of each command

one_line : (c : Command) (line : List ℕ) → has_no_lf line ≡ true → Means line (Run c) → has_no_lf (text_of_command c) ≡ true
one_line (command.Select n) line h m =
    let e = each_line (keyword (codes "SELECT") ∷ count n ∷ []) m.0 m.2 (words_no_lf m.0 line m.1 h) in
    count_line e.1.0.0 n e.1.0.1
one_line (command.UseTable n false) line h m =
    let e = each_line (keyword (codes "USE") ∷ name n ∷ []) m.0 m.2 (words_no_lf m.0 line m.1 h) in
    name_line e.1.0.0 n e.1.0.1
one_line (command.UseTable n true) line h m =
    let e = each_line (keyword (codes "USE") ∷ name n ∷ keyword (codes "EXCLUSIVE") ∷ []) m.0 m.2 (words_no_lf m.0 line m.1 h) in
    join n (codes " EXCLUSIVE") (name_line e.1.0.0 n e.1.0.1) refl
one_line command.CloseTable line h m = refl
one_line (command.Go n) line h m =
    let e = each_line (or_ (keyword (codes "GO")) (keyword (codes "GOTO")) ∷ count n ∷ []) m.0 m.2 (words_no_lf m.0 line m.1 h) in
    count_line e.1.0.0 n e.1.0.1
one_line command.Top line h m = refl
one_line command.Bottom line h m = refl
one_line (command.Skip n) line h m = distance_line n (skip_small m.0 n m.2)
one_line (command.Seek t) line h m =
    let e = each_line (keyword (codes "SEEK") ∷ text t ∷ []) m.0 m.2 (words_no_lf m.0 line m.1 h) in
    quoted_line e.1.0.0 t e.1.0.1 e.1.0.2
one_line (command.Order n) line h m =
    let e = each_line (keyword (codes "SET") ∷ keyword (codes "ORDER") ∷ keyword (codes "TO") ∷ count n ∷ []) m.0 m.2 (words_no_lf m.0 line m.1 h) in
    count_line e.1.1.1.0.0 n e.1.1.1.0.1
one_line command.AppendBlank line h m = refl
one_line (command.Replace f l) line h m =
    let e = each_line (keyword (codes "REPLACE") ∷ name f ∷ keyword (codes "WITH") ∷ literal l ∷ []) m.0 m.2 (words_no_lf m.0 line m.1 h) in
    join f (codes " WITH " ++ written_value l) (name_line e.1.0.0 f e.1.0.1) (value_line e.1.1.1.0.0 l e.1.1.1.0.1 e.1.1.1.0.2)
one_line (command.Memo f t) line h m =
    let e = each_line (keyword (codes "MEMO") ∷ name f ∷ keyword (codes "WITH") ∷ text t ∷ []) m.0 m.2 (words_no_lf m.0 line m.1 h) in
    join f (codes " WITH " ++ quoted t) (name_line e.1.0.0 f e.1.0.1) (quoted_line e.1.1.1.0.0 t e.1.1.1.0.1 e.1.1.1.0.2)
one_line command.Delete line h m = refl
one_line command.Recall line h m = refl
one_line command.Pack line h m = refl
one_line (command.IndexOn x n) line h m =
    let e = each_line (keyword (codes "INDEX") ∷ keyword (codes "ON") ∷ phrase x ∷ keyword (codes "TO") ∷ name n ∷ []) m.0 m.2 (words_no_lf m.0 line m.1 h) in
    join x (codes " TO " ++ n) (subst (λ (xs : List ℕ). has_no_lf xs ≡ true) e.1.1.0.1.0 e.1.1.0.2) (name_line e.1.1.1.1.0.0 n e.1.1.1.1.0.1)
one_line command.Unlock line h m = refl
one_line command.UnlockAll line h m = refl
one_line (command.Show f) line h m =
    let e = each_line (keyword (codes "?") ∷ name f ∷ []) m.0 m.2 (words_no_lf m.0 line m.1 h) in
    name_line e.1.0.0 f e.1.0.1
one_line command.RecordLock line h m = refl
one_line (command.RecordLocks ns) line h m =
    let e = each_line (keyword (codes "?") ∷ or_ (list_call (codes "RLOCK(") ns) (list_call (codes "LOCK(") ns) ∷ []) m.0 m.2 (words_no_lf m.0 line m.1 h) in
    locks_line e.1.0.0 ns e.1.0.1
one_line command.FileLock line h m = refl
one_line (command.Ask q) line h m = (call_texts (call_name.Ask q)).6
one_line command.Bad line h m = refl

-- the line of a command that a script's line means has no LF
pub text_one_line : (c : Command) (made : List ℕ) → made ≡ text_of_command c → IsOfALine c → has_no_lf made ≡ true
text_one_line c made e is = subst (λ (xs : List ℕ). has_no_lf xs ≡ true) (sym e) (one_line c is.0 is.1 is.2)

-- no line of a script has an LF
pub lines_one_line : (lines : List (List ℕ)) (script : List ℕ) → AreLines lines script → AllByRecursion (λ (line : List ℕ). has_no_lf line ≡ true) lines
lines_one_line [] script are = tt
lines_one_line (line ∷ lines) script are = (are.1.one_line, lines_one_line lines are.0 are.2)
