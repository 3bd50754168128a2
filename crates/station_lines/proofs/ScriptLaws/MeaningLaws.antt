-- Each line means one thing, which is what the reader makes of it.
use Rattle.std.proofs.Common.{◌≡◌, ℕ, List, [], ◌∷◌, ◌++◌, Bool, true, false, not, ◌&&◌, ◌||◌, ◌≤◌, length, take, drop, Option, Some, None, refl, ap, ◌∙◌, sym, subst, arith, ℤ}
use Rattle.std.specs.Prelude.{◌⊎◌, codes, pos, bytes_eq, find, slice_index}
use mathlib.Core.Logic.{inl, inr}
use Rattle.std.specs.List.{list_all}
use Rattle.std.proofs.lemmas.List.{append-nil}
use Rattle.std.proofs.lemmas.List.Folds.{list_all-append}
use Rattle.std.specs.Char.{to_ascii_lowercase, is_ascii_digit, is_ascii_alphabetic}
use Rattle.std.specs.Str.{str_eq_ignore_ascii_case}
use Rattle.std.proofs.lemmas.Bool.{false≢true, and_parts, and_from, and_right}
use Rattle.std.proofs.lemmas.Bool.Decides.{nat_tests}
use Rattle.dbf_fields.specs.Name.{is_name_char}
use Rattle.dbf_fields.specs.declared.literal.Literal.{Literal}
use Rattle.catalogue_core.specs.declared.command.Command.{Command}
use Rattle.catalogue_core.specs.declared.command.Command.TheVariants as command
use Rattle.catalogue_core.specs.declared.command.Question.TheVariants as question
use Rattle.station_lines.specs.declared.script.call.CallName.{CallName}
use Rattle.station_lines.specs.declared.script.call.CallName.TheVariants as call_name
use Rattle.station_lines.specs.declared.script.call.TheConstants.{CALLS}
use Rattle.station_lines.specs.declared.script.format.TheConstants.{KEYWORD_LETTERS}
use Rattle.station_lines.specs.declared.script.line.Line.{Line}
use Rattle.station_lines.specs.declared.script.line.Line.TheVariants.{Run, Status, Blank}
use Rattle.station_lines.specs.declared.script.verb.Verb.TheVariants as verb
use Rattle.station_lines.specs.Script.Words.{is_gap, are_gaps, HasWords, begins_with_asterisk, IsBlankLine}
use Rattle.station_lines.specs.Script.Lines.{has_no_lf}
use Rattle.station_lines.specs.Script.Parts.{is_keyword, is_call, call_text, is_name_word, name_in, count_in, between_commas, AreCounts, IsListCall}
use Rattle.station_lines.specs.Script.Meaning.{keyword, call, name, count, distance, list_call, text, literal, or_, IsPart, Are, Says, IsReadable, Means}
use Rattle.station_lines.specs.Script.Reading.{without_gaps, first_word, text_in, literal_in, bad, arguments_in, first_some, list_line, with_, go_line, locks_line, call_in, call_line, ask_of, ask_line, is_empty, read}
use Rattle.station_lines.proofs.ScriptLaws.WordLaws.{is_solid, IsCutWord, no_first, past_gaps}
use Rattle.station_lines.proofs.ScriptLaws.PartLaws.{lower, like, same_text, other_keyword, all_lower, all_front, digits_of, keyword_word, call_word, name_word, count_word}
use Rattle.station_lines.proofs.ScriptLaws.TextLaws.{text_found, chosen, passed}
use Rattle.station_lines.proofs.ScriptLaws.LiteralLaws.{literal_found, literal_word, distance_word}
use Rattle.station_lines.proofs.ScriptLaws.WordLaws.{text_whole}
use Rattle.station_lines.proofs.ScriptLaws.ListLaws.{counts_found, arguments_found, some_digit, list_word}
use Rattle.station_lines.proofs.ScriptLaws.SoundLaws.{found_is}
use Rattle.station_lines.proofs.ScriptLaws.FoundLaws.{line_one, line_two, line_three, line_four}
use Rattle.station_lines.proofs.ScriptLaws.IndexLaws.{line_index}
use Rattle.station_lines.proofs.ScriptLaws.ReadLaws.{IsRead, is_read}

-- ---- what is readable is what is made of the line

digit_lower : (c : ℕ) → is_ascii_digit (to_ascii_lowercase c) ≡ is_ascii_digit c
digit_lower c = grind (arith, nat_tests)

digits_no_keyword : (k word : List ℕ) → list_all is_ascii_digit (lower (take KEYWORD_LETTERS k)) ≡ false → list_all is_ascii_digit word ≡ true
    → (q : Bool) → is_keyword k word ≡ q → q ≡ false
digits_no_keyword k word letters digits true e =
    let p = and_parts (str_eq_ignore_ascii_case (take KEYWORD_LETTERS word) (take KEYWORD_LETTERS k)) _ e in
    let head : lower (take KEYWORD_LETTERS word) ≡ lower (take KEYWORD_LETTERS k) = same_text _ _ p.0 in
    absurd (false≢true (sym letters ∙ (ap (list_all is_ascii_digit) (sym head) ∙ (all_lower is_ascii_digit digit_lower (take KEYWORD_LETTERS word) ∙ all_front is_ascii_digit KEYWORD_LETTERS word digits))))
digits_no_keyword k word letters digits false e = refl

go_count : (word : List ℕ) (n : ℕ) → count_in word ≡ Some n → go_line word ≡ Run (command.Go n)
go_count word n e =
    let digits = digits_of word n e in
    passed (is_keyword (codes "TOP") word) _ _ (digits_no_keyword (codes "TOP") word refl digits (is_keyword (codes "TOP") word) refl)
    ∙ (passed (is_keyword (codes "BOTTOM") word) _ _ (digits_no_keyword (codes "BOTTOM") word refl digits (is_keyword (codes "BOTTOM") word) refl)
    ∙ ap (λ (o : Option ℕ). with_ o (λ n. Run (command.Go n))) e)

go_bottom : (word : List ℕ) → is_keyword (codes "BOTTOM") word ≡ true → go_line word ≡ Run command.Bottom
go_bottom word e =
    passed (is_keyword (codes "TOP") word) _ _ (other_keyword (codes "BOTTOM") (codes "TOP") word refl e)
    ∙ chosen (is_keyword (codes "BOTTOM") word) _ _ e

-- the call of a text in small letters
abbrev call_small : List ℕ → Option CallName
call_small small = find (λ c. bytes_eq small (lower (call_text c))) CALLS

-- the text of a call is in the table, is no other call's, and is none of a name or of a list
abbrev pub IsCallText : CallName → Type 0
IsCallText c =
    (call_small (lower (call_text c)) ≡ Some c) × (is_call (call_text c) (call_text c) ≡ true) × (1 ≤ length (call_text c)) × (list_all is_solid (call_text c) ≡ true)
    × (list_all is_name_char (lower (call_text c)) ≡ false) × (list_all (λ b. not (is_ascii_digit b)) (call_text c) ≡ true) × (has_no_lf (call_text c) ≡ true)

pub call_texts : (c : CallName) → IsCallText c
call_texts (call_name.Ask question.Eof) = (refl, refl, omega arith, refl, refl, refl, refl)
call_texts c = (refl, refl, omega arith, refl, refl, refl, refl)

name_lower : (c : ℕ) → is_name_char (to_ascii_lowercase c) ≡ is_name_char c
name_lower c = grind (arith, nat_tests)

ask_other : (word : List ℕ) → list_all is_name_char word ≡ false → ask_line word ≡ call_line (call_in word) word
ask_other word no_name =
    let none : name_in word ≡ None = passed (is_name_word word) _ None (and_right (is_ascii_alphabetic (slice_index word 0)) (list_all is_name_char word) no_name) in
    ap (λ (o : Option (List ℕ)). ask_of o word) none

ask_call : (c : CallName) (word : List ℕ) → is_call (call_text c) word ≡ true → ask_line word ≡ call_line (Some c) word
ask_call c word e =
    let same : lower word ≡ lower (call_text c) = same_text _ _ e in
    ask_other word (sym (all_lower is_name_char name_lower word) ∙ (ap (list_all is_name_char) same ∙ (call_texts c).4))
    ∙ ap (λ (o : Option CallName). call_line o word) (ap call_small same ∙ (call_texts c).0)

call_cut : (c : CallName) (word : List ℕ) → is_call (call_text c) word ≡ true → IsCutWord word
call_cut c word e = call_word (call_text c) word (call_texts c).2 (call_texts c).3 e

keyword_cut : (k : List ℕ) → 1 ≤ length (take KEYWORD_LETTERS k) → list_all is_solid (take KEYWORD_LETTERS k) ≡ true → list_all is_solid (drop KEYWORD_LETTERS k) ≡ true
    → (word : List ℕ) → is_keyword k word ≡ true → IsCutWord word
keyword_cut k some first others word e = keyword_word k word some first others e

lock_cut : (word : List ℕ) → IsPart (or_ (call (call_text call_name.Rlock)) (call (call_text call_name.Lock))) word → IsCutWord word
lock_cut word (inl e) = call_cut call_name.Rlock word e
lock_cut word (inr e) = call_cut call_name.Lock word e

ask_lock : (word : List ℕ) → IsPart (or_ (call (call_text call_name.Rlock)) (call (call_text call_name.Lock))) word → ask_line word ≡ Run command.RecordLock
ask_lock word (inl e) = ask_call call_name.Rlock word e
ask_lock word (inr e) = ask_call call_name.Lock word e

ask_read : (line : List ℕ) (words : List (List ℕ)) (c : CallName) → HasWords words line → Are (keyword (codes "?") ∷ call (call_text c) ∷ []) words
    → (word : List ℕ) × (read line ≡ call_line (Some c) word)
ask_read line words c w h = let r = line_two line words verb.Ask (call (call_text c)) (call_cut c) w h in (r.second, r.as_two ∙ ask_call c r.second r.is)

-- a list of records

all_back : (p : ℕ → Bool) (xs ys : List ℕ) → list_all p ys ≡ false → list_all p (xs ++ ys) ≡ false
all_back p [] ys h = h
all_back p (x ∷ xs) ys h = and_right (p x) (list_all p (xs ++ ys)) (all_back p xs ys h)

-- a call with a list is no call without one
no_call : (function word ns : List ℕ) → IsListCall function word ns → (o : Option CallName) → call_in word ≡ o → o ≡ None
no_call function word ns listed None e = refl
no_call function word ns listed (Some c) e =
    let no_digit : ℕ → Bool = λ b. not (is_ascii_digit b) in
    let none = like no_digit (λ b. ap not (digit_lower b)) word (call_text c) (found_is (λ d. is_call (call_text d) word) CALLS c e) (call_texts c).5 in
    let back = (and_parts _ _ (sym (list_all-append no_digit listed.0 (listed.1 ++ codes ")")) ∙ (sym (ap (list_all no_digit) listed.2) ∙ none))).1 in
    absurd (some_digit listed.1 ns listed.4 (and_parts _ _ (sym (list_all-append no_digit listed.1 (codes ")")) ∙ back)).0)

list_asked : (function word ns : List ℕ) → IsListCall function word ns → ask_line word ≡ locks_line word
list_asked function word ns listed =
    let no_name : list_all is_name_char word ≡ false =
    ap (list_all is_name_char) listed.2 ∙ all_back is_name_char listed.0 (listed.1 ++ codes ")") (all_back is_name_char listed.1 (codes ")") refl) in
    ask_other word no_name ∙ ap (λ (o : Option CallName). call_line o word) (no_call function word ns listed (call_in word) refl)

-- what begins as LOCK begins not as RLOCK
no_rlock : (front rest : List ℕ) → str_eq_ignore_ascii_case front (codes "LOCK(") ≡ true → (q : Bool) → str_eq_ignore_ascii_case (take 6 (front ++ rest)) (codes "RLOCK(") ≡ q → q ≡ false
no_rlock front rest e false f = refl
no_rlock [] rest e true f = absurd (false≢true e)
no_rlock (b ∷ bs) rest e true f =
    let one : lower (b ∷ bs) ≡ lower (codes "LOCK(") = same_text (lower (b ∷ bs)) (lower (codes "LOCK(")) e in
    let two : lower (take 6 (b ∷ (bs ++ rest))) ≡ lower (codes "RLOCK(") = same_text (lower (take 6 (b ∷ (bs ++ rest)))) (lower (codes "RLOCK(")) f in
    let first : to_ascii_lowercase b ≡ 108 = ap (λ (xs : List ℕ). slice_index xs 0) one in
    let second : to_ascii_lowercase b ≡ 114 = ap (λ (xs : List ℕ). slice_index xs 0) two in
    absurd (omega (arith, first, second))

list_line_is : (inside ns : List ℕ) → AreCounts (between_commas inside) ns → list_line (Some inside) ≡ Run (command.RecordLocks ns)
list_line_is inside ns h = ap (λ (o : Option (List ℕ)). with_ o (λ ns. Run (command.RecordLocks ns))) (counts_found (between_commas inside) ns h)

locks_cut : (ns word : List ℕ) → IsPart (or_ (list_call (codes "RLOCK(") ns) (list_call (codes "LOCK(") ns)) word → IsCutWord word
locks_cut ns word (inl listed) = list_word (codes "RLOCK(") word ns (omega arith) refl listed
locks_cut ns word (inr listed) = list_word (codes "LOCK(") word ns (omega arith) refl listed

ask_locks : (ns word : List ℕ) → IsPart (or_ (list_call (codes "RLOCK(") ns) (list_call (codes "LOCK(") ns)) word → ask_line word ≡ Run (command.RecordLocks ns)
ask_locks ns word (inl listed) =
    list_asked (codes "RLOCK(") word ns listed
    ∙ (ap (λ (o : Option (List ℕ)). list_line (first_some o (arguments_in (codes "LOCK(") word))) (arguments_found (codes "RLOCK(") listed.0 listed.1 word listed.2 listed.3)
    ∙ list_line_is listed.1 ns listed.4)
ask_locks ns word (inr listed) =
    let other : str_eq_ignore_ascii_case (take 6 word) (codes "RLOCK(") ≡ false =
    ap (λ (xs : List ℕ). str_eq_ignore_ascii_case (take 6 xs) (codes "RLOCK(")) listed.2 ∙ no_rlock listed.0 (listed.1 ++ codes ")") listed.3 _ refl in
    list_asked (codes "LOCK(") word ns listed
    ∙ (ap (λ (o : Option (List ℕ)). list_line (first_some o (arguments_in (codes "LOCK(") word))) (passed (str_eq_ignore_ascii_case (take 6 word) (codes "RLOCK(")) _ None other)
    ∙ (ap (λ (o : Option (List ℕ)). list_line (first_some None o)) (arguments_found (codes "LOCK(") listed.0 listed.1 word listed.2 listed.3)
    ∙ list_line_is listed.1 ns listed.4))

skip_read : (line : List ℕ) (words : List (List ℕ)) (n : ℤ) → HasWords words line
    → (Are (keyword (codes "SKIP") ∷ distance n ∷ []) words ⊎ (Are (keyword (codes "SKIP") ∷ []) words × (n ≡ pos 1))) → read line ≡ Run (command.Skip n)
skip_read line words n w (inl h) =
    let r = line_two line words verb.Skip (distance n) (λ x e. distance_word x n e) w h in
    r.as_two ∙ ap (λ (o : Option ℤ). with_ o (λ n. Run (command.Skip n))) r.is
skip_read line words n w (inr h) = line_one line words verb.Skip w h.0 ∙ ap (λ (m : ℤ). Run (command.Skip m)) (sym h.1)

with_cut : (word : List ℕ) → is_keyword (codes "WITH") word ≡ true → IsCutWord word
with_cut word e = keyword_word (codes "WITH") word (omega arith) refl refl e

run_read : (line : List ℕ) (words : List (List ℕ)) (c : Command) → HasWords words line → Says words (Run c) → read line ≡ Run c
run_read line words (command.Select n) w h =
    let r = line_two line words verb.Select (count n) (λ x e. count_word x n e) w h in
    r.as_two ∙ ap (λ (o : Option ℕ). with_ o (λ n. Run (command.Select n))) r.is
run_read line words (command.UseTable n false) w h =
    let r = line_two line words verb.Use (name n) (λ x e. name_word x n e) w h in
    r.as_two ∙ ap (λ (o : Option (List ℕ)). with_ o (λ n. Run (command.UseTable n false))) r.is
run_read line words (command.UseTable n true) w h =
    let r = line_three line words verb.Use (name n) (keyword (codes "EXCLUSIVE")) (λ x e. name_word x n e) (keyword_cut (codes "EXCLUSIVE") (omega arith) refl refl) w h in
    r.as_three ∙ (chosen (is_keyword (codes "EXCLUSIVE") r.third) _ bad r.is_third ∙ ap (λ (o : Option (List ℕ)). with_ o (λ n. Run (command.UseTable n true))) r.is_second)
run_read line words command.CloseTable w h = line_one line words verb.Use w h
run_read line words (command.Go n) w h =
    let r = line_two line words verb.Go (count n) (λ x e. count_word x n e) w h in
    r.as_two ∙ go_count r.second n r.is
run_read line words command.Top w h =
    let r = line_two line words verb.Go (keyword (codes "TOP")) (keyword_cut (codes "TOP") (omega arith) refl refl) w h in
    r.as_two ∙ chosen (is_keyword (codes "TOP") r.second) _ _ r.is
run_read line words command.Bottom w h =
    let r = line_two line words verb.Go (keyword (codes "BOTTOM")) (keyword_cut (codes "BOTTOM") (omega arith) refl refl) w h in
    r.as_two ∙ go_bottom r.second r.is
run_read line words (command.Skip n) w h = skip_read line words n w h
run_read line words (command.Seek t) w h =
    let r = line_two line words verb.Seek (text t) (λ x e. text_whole x t e) w h in
    r.as_two ∙ ap (λ (o : Option (List ℕ)). with_ o (λ t. Run (command.Seek t))) (text_found r.second t r.is)
run_read line words (command.Order n) w h =
    let r = line_four line words verb.Set (keyword (codes "ORDER")) (keyword (codes "TO")) (count n) (keyword_cut (codes "ORDER") (omega arith) refl refl)
    (keyword_cut (codes "TO") (omega arith) refl refl) (λ x e. count_word x n e) w h in
    r.as_four ∙ (chosen (is_keyword (codes "ORDER") r.second && is_keyword (codes "TO") r.third) _ bad (and_from _ _ r.is_second r.is_third)
    ∙ ap (λ (o : Option ℕ). with_ o (λ n. Run (command.Order n))) r.is_fourth)
run_read line words command.AppendBlank w h =
    let r = line_two line words verb.Append (keyword (codes "BLANK")) (keyword_cut (codes "BLANK") (omega arith) refl refl) w h in
    r.as_two ∙ chosen (is_keyword (codes "BLANK") r.second) _ bad r.is
run_read line words (command.Replace f l) w h =
    let r = line_four line words verb.Replace (name f) (keyword (codes "WITH")) (literal l) (λ x e. name_word x f e) with_cut (λ x e. literal_word x l e) w h in
    r.as_four ∙ (chosen (is_keyword (codes "WITH") r.third) _ bad r.is_third
    ∙ (ap (λ (o : Option (List ℕ)). with_ o (λ f. with_ (literal_in r.fourth) (λ l. Run (command.Replace f l)))) r.is_second
    ∙ ap (λ (o : Option Literal). with_ o (λ l. Run (command.Replace f l))) (literal_found r.fourth l r.is_fourth)))
run_read line words (command.Memo f t) w h =
    let r = line_four line words verb.Memo (name f) (keyword (codes "WITH")) (text t) (λ x e. name_word x f e) with_cut (λ x e. text_whole x t e) w h in
    r.as_four ∙ (chosen (is_keyword (codes "WITH") r.third) _ bad r.is_third
    ∙ (ap (λ (o : Option (List ℕ)). with_ o (λ f. with_ (text_in r.fourth) (λ t. Run (command.Memo f t)))) r.is_second
    ∙ ap (λ (o : Option (List ℕ)). with_ o (λ t. Run (command.Memo f t))) (text_found r.fourth t r.is_fourth)))
run_read line words command.Delete w h = line_one line words verb.Delete w h
run_read line words command.Recall w h = line_one line words verb.Recall w h
run_read line words command.Pack w h = line_one line words verb.Pack w h
run_read line words (command.IndexOn e n) w h = line_index line words e n w h
run_read line words command.Unlock w h = line_one line words verb.Unlock w h
run_read line words command.UnlockAll w h =
    let r = line_two line words verb.Unlock (keyword (codes "ALL")) (keyword_cut (codes "ALL") (omega arith) refl refl) w h in
    r.as_two ∙ chosen (is_keyword (codes "ALL") r.second) _ bad r.is
run_read line words (command.Show f) w h =
    let r = line_two line words verb.Ask (name f) (λ x e. name_word x f e) w h in
    r.as_two ∙ ap (λ (o : Option (List ℕ)). ask_of o r.second) r.is
run_read line words command.RecordLock w h =
    let r = line_two line words verb.Ask (or_ (call (call_text call_name.Rlock)) (call (call_text call_name.Lock))) lock_cut w h in
    r.as_two ∙ ask_lock r.second r.is
run_read line words (command.RecordLocks ns) w h =
    let r = line_two line words verb.Ask (or_ (list_call (codes "RLOCK(") ns) (list_call (codes "LOCK(") ns)) (locks_cut ns) w h in
    r.as_two ∙ ask_locks ns r.second r.is
run_read line words command.FileLock w h = (ask_read line words call_name.Flock w h).1
run_read line words (command.Ask q) w h = (ask_read line words (call_name.Ask q) w h).1
run_read line words command.Bad w h = absurd h

status_read : (line : List ℕ) (words : List (List ℕ)) → HasWords words line → Says words Status → read line ≡ Status
status_read line words w h =
    let r = line_two line words verb.Display (keyword (codes "STATUS")) (keyword_cut (codes "STATUS") (omega arith) refl refl) w h in
    r.as_two ∙ chosen (is_keyword (codes "STATUS") r.second) _ bad r.is

star_first : (line gap rest : List ℕ) → line ≡ gap ++ rest → are_gaps gap ≡ true → begins_with_asterisk rest ≡ true → begins_with_asterisk (first_word line) ≡ true
star_first line gap [] e g h = absurd (false≢true h)
star_first line gap (b ∷ bs) e g h =
    let solid : is_gap b ≡ false = grind (arith, nat_tests, h) in
    let left : without_gaps line ≡ b ∷ bs = ap without_gaps e ∙ (past_gaps gap (b ∷ bs) g ∙ passed (is_gap b) _ _ solid) in
    rw (left, solid) h

or_second : (p q : Bool) → q ≡ true → (p || q) ≡ true
or_second true q e = refl
or_second false q e = e

or_first : (p q : Bool) → p ≡ true → (p || q) ≡ true
or_first true q e = refl
or_first false q e = absurd (false≢true e)

blank_read : (line : List ℕ) → IsBlankLine line → read line ≡ Blank
blank_read line (gap, rest, e, g, inl none) =
    let all : are_gaps line ≡ true = ap are_gaps (e ∙ (ap (λ (xs : List ℕ). gap ++ xs) none ∙ append-nil gap)) ∙ g in
    chosen (is_empty (first_word line) || begins_with_asterisk (first_word line)) Blank _ (or_first _ _ (ap is_empty (no_first line all)))
blank_read line (gap, rest, e, g, inr star) =
    chosen (is_empty (first_word line) || begins_with_asterisk (first_word line)) Blank _ (or_second _ _ (star_first line gap rest e g star))

pub readable_read : (line : List ℕ) (l : Line) → IsReadable line l → read line ≡ l
readable_read line (Run c) r = run_read line r.0 c r.1 r.2
readable_read line Status r = status_read line r.0 r.1 r.2
readable_read line Blank r = blank_read line r

-- ---- one meaning

no_bad : (line : List ℕ) → IsReadable line bad → ⊥
no_bad line r = r.2

means_of : (line : List ℕ) (l : Line) → IsReadable line l → Means line l
means_of line (Run command.Bad) r = absurd (no_bad line r)
means_of line l r = r

readable_of : (line : List ℕ) (l : Line) → Means line l → (l ≡ bad) ⊎ IsReadable line l
readable_of line (Run command.Bad) m = inl refl
readable_of line l m = inr m

bad_means : (line : List ℕ) → read line ≡ bad → Means line bad
bad_means line e l r = no_bad line (subst (λ (x : Line). IsReadable line x) (sym (readable_read line l r) ∙ e) r)

means_read : (line : List ℕ) (l : Line) → read line ≡ l → IsRead line l → Means line l
means_read line l e (inl b) = subst (λ (x : Line). Means line x) (sym b) (bad_means line (e ∙ b))
means_read line l e (inr r) = means_of line l r

-- each line means what is made of it
pub read_means : (line : List ℕ) → Means line (read line)
read_means line = means_read line (read line) refl (is_read line)

bad_read : (line : List ℕ) (l : Line) → read line ≡ l → IsRead line l → Means line bad → l ≡ bad
bad_read line l e (inl b) m = b
bad_read line l e (inr r) m = absurd (m l r)

means_one : (line : List ℕ) (l : Line) → Means line l → (l ≡ bad) ⊎ IsReadable line l → read line ≡ l
means_one line l m (inl b) = bad_read line (read line) refl (is_read line) (subst (λ (x : Line). Means line x) b m) ∙ sym b
means_one line l m (inr r) = readable_read line l r

-- a line means nothing else
pub means_alone : (line : List ℕ) (l : Line) → Means line l → read line ≡ l
means_alone line l m = means_one line l m (readable_of line l m)

pub one_meaning : (line : List ℕ) (a b : Line) → Means line a → Means line b → a ≡ b
one_meaning line a b m n = sym (means_alone line a m) ∙ means_alone line b n

pub other_means : (line : List ℕ) (l : Line) → Means line l → l ≡ read line
other_means line l m = sym (means_alone line l m)
