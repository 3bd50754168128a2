-- What the reader makes of a line, word by word. What a line means is defined apart from this, in Meaning.
use Rattle.std.specs.Prelude.{◌≡◌, ℕ, ◌+◌, ◌-◌, suc, Bool, true, false, not, ◌&&◌, ◌||◌, ◌==◌, List, [], ◌∷◌, length, reverse, take, drop, slice_index, bytes_eq, codes, ℤ, pos, position, find, Option, Some, None, if◌then◌else◌}
use Rattle.std.specs.Str.{str_eq_ignore_ascii_case}
use Rattle.dbf_fields.specs.Date.{is_date, year_in, month_in, day_in}
use Rattle.dbf_fields.specs.declared.literal.Literal.{Literal}
use Rattle.dbf_fields.specs.declared.literal.Literal.TheVariants as value
use Rattle.catalogue_core.specs.declared.command.Command.TheVariants as command
use Rattle.station_lines.specs.declared.script.call.CallName.{CallName}
use Rattle.station_lines.specs.declared.script.call.CallName.TheVariants as call_name
use Rattle.station_lines.specs.declared.script.call.TheConstants.{CALLS}
use Rattle.station_lines.specs.declared.script.line.Line.{Line}
use Rattle.station_lines.specs.declared.script.line.Line.TheVariants.{Run, Status, Blank}
use Rattle.station_lines.specs.declared.script.verb.Verb.{Verb}
use Rattle.station_lines.specs.declared.script.verb.Verb.TheVariants as verb
use Rattle.station_lines.specs.Script.Words.{is_gap, begins_with_asterisk}
use Rattle.station_lines.specs.Script.Parts.{is_keyword, is_call, call_text, is_quote, name_in, count_in, distance_in, between_commas}
use Rattle.station_lines.specs.Script.Literals.{number_in, truth_in, cell_of_shown}
use Rattle.station_lines.specs.Script.Days.{day_is}
use Rattle.std.specs.Prelude.{refl}

-- what is left after the blanks and tabs at the front
abbrev pub without_gaps : List ℕ → List ℕ
without_gaps [] = []
without_gaps (b ∷ bs) = if is_gap b then without_gaps bs else b ∷ bs

-- the quote of the text in which the next byte stands, and 0 outside of texts
abbrev pub quote_after : ℕ → ℕ → ℕ
quote_after quote b =
    if quote == 0 then (if is_quote b then b else 0) else (if b == quote then 0 else quote)

-- how many bytes belong to a word, in whose texts blanks and tabs may stand
abbrev pub word_length : ℕ → List ℕ → ℕ
word_length quote [] = 0
word_length quote (b ∷ bs) =
    if quote == 0 && is_gap b then 0 else suc (word_length (quote_after quote b) bs)

-- the first word of a line, and nothing where it has none
abbrev pub first_word : List ℕ → List ℕ
first_word line = take (word_length 0 (without_gaps line)) (without_gaps line)

abbrev pub after_word : List ℕ → List ℕ
after_word line = drop (word_length 0 (without_gaps line)) (without_gaps line)

-- what is left before the blanks and tabs at the end
abbrev pub without_end_gaps : List ℕ → List ℕ
without_end_gaps text = reverse (without_gaps (reverse text))

-- what is left after the bytes at the front that are no blanks and no tabs
abbrev pub from_gap : List ℕ → List ℕ
from_gap [] = []
from_gap (b ∷ bs) = if is_gap b then b ∷ bs else from_gap bs

-- what is left before the last word, of which no byte is a blank or a tab; a quote is a byte like any other
abbrev pub before_last : List ℕ → List ℕ
before_last line = reverse (from_gap (reverse (without_end_gaps line)))

-- the last word of a line, and nothing where it has none
abbrev pub last_word : List ℕ → List ℕ
last_word line = drop (length (before_last line)) (without_end_gaps line)

-- what stands before the last byte, where that has this offset
abbrev pub text_before : Option ℕ → List ℕ → Option (List ℕ)
text_before None rest = None
text_before (Some end) rest = if end + 1 == length rest then Some (take end rest) else None

-- the text that a word is: the next quote like the first byte is the last byte
abbrev pub text_in : List ℕ → Option (List ℕ)
text_in word =
    if is_quote (slice_index word 0) then text_before (position (λ b. b == slice_index word 0) (drop 1 word)) (drop 1 word) else None

-- what stands before a closing parenthesis at the end
abbrev pub before_close : List ℕ → Option (List ℕ)
before_close text =
    if slice_index text (length text - 1) == 41 then Some (take (length text - 1) text) else None

abbrev pub text_in_part : Option (List ℕ) → Option (List ℕ)
text_in_part None = None
text_in_part (Some part) = text_in part

-- the text of a CTOD
abbrev pub date_text_in : List ℕ → Option (List ℕ)
date_text_in word =
    if str_eq_ignore_ascii_case (take 5 word) (codes "CTOD(") then text_in_part (before_close (drop 5 word)) else None

-- a number before others
abbrev pub with_count : Option ℕ → Option (List ℕ) → Option (List ℕ)
with_count (Some n) (Some ns) = Some (n ∷ ns)
with_count count counts = None

-- the numbers that parts are
abbrev pub counts_in : List (List ℕ) → Option (List ℕ)
counts_in [] = Some []
counts_in (part ∷ parts) = with_count (count_in part) (counts_in parts)

-- a number, and 0 where there is none
abbrev pub number_or_zero : Option ℕ → ℕ
number_or_zero None = 0
number_or_zero (Some n) = n

-- what stands in the parentheses of a function's call
abbrev pub arguments_in : List ℕ → List ℕ → Option (List ℕ)
arguments_in function word =
    if str_eq_ignore_ascii_case (take (length function) word) function then before_close (drop (length function) word) else None

-- the first of two, where there is one, else the second
abbrev pub first_some : Option (List ℕ) → Option (List ℕ) → Option (List ℕ)
first_some None second = second
first_some (Some x) second = Some x

-- the date of a cell
abbrev pub day_when : (cell : List ℕ) → (b : Bool) → is_date cell ≡ b → Literal
day_when cell true is = value.Date (record { year = year_in cell; month = month_in cell; day = day_in cell; real = day_is cell is })
day_when cell false is = value.BadDate

abbrev pub date_of : List ℕ → Literal
date_of cell = day_when cell (is_date cell) refl

abbrev pub date_literal : List ℕ → Literal
date_literal text = if bytes_eq text (codes "  /  /  ") then value.BlankDate else date_of (cell_of_shown text)

-- the value that a word is
abbrev pub date_in : Option (List ℕ) → Option Literal
date_in None = None
date_in (Some text) = Some (date_literal text)

abbrev pub truth_or_date_in : Option Bool → List ℕ → Option Literal
truth_or_date_in (Some truth) word = Some (value.Truth truth)
truth_or_date_in None word = date_in (date_text_in word)

abbrev pub number_or_other_in : Option (ℤ × ℕ) → List ℕ → Option Literal
number_or_other_in (Some number) word = Some (value.Number number.0 number.1)
number_or_other_in None word = truth_or_date_in (truth_in word) word

abbrev pub text_or_other_in : Option (List ℕ) → List ℕ → Option Literal
text_or_other_in (Some text) word = Some (value.Text text)
text_or_other_in None word = number_or_other_in (number_in word) word

abbrev pub literal_in : List ℕ → Option Literal
literal_in word = text_or_other_in (text_in word) word

-- the first word of a command, but for INDEX
abbrev pub verb_in : List ℕ → Option Verb
verb_in word =
    if is_keyword (codes "SELECT") word then Some verb.Select
    else (if is_keyword (codes "USE") word then Some verb.Use
    else (if is_keyword (codes "GO") word then Some verb.Go
    else (if is_keyword (codes "GOTO") word then Some verb.Go
    else (if is_keyword (codes "SKIP") word then Some verb.Skip
    else (if is_keyword (codes "SEEK") word then Some verb.Seek
    else (if is_keyword (codes "SET") word then Some verb.Set
    else (if is_keyword (codes "APPEND") word then Some verb.Append
    else (if is_keyword (codes "REPLACE") word then Some verb.Replace
    else (if is_keyword (codes "MEMO") word then Some verb.Memo
    else (if is_keyword (codes "DELETE") word then Some verb.Delete
    else (if is_keyword (codes "RECALL") word then Some verb.Recall
    else (if is_keyword (codes "PACK") word then Some verb.Pack
    else (if is_keyword (codes "UNLOCK") word then Some verb.Unlock
    else (if is_keyword (codes "?") word then Some verb.Ask
    else (if is_keyword (codes "DISPLAY") word then Some verb.Display
    else None)))))))))))))))

abbrev pub bad : Line
bad = Run command.Bad

-- a verb alone
abbrev pub one : Verb → Line
one verb.Use = Run command.CloseTable
one verb.Skip = Run (command.Skip (pos 1))
one verb.Delete = Run command.Delete
one verb.Recall = Run command.Recall
one verb.Pack = Run command.Pack
one verb.Unlock = Run command.Unlock
one other = bad

-- what is made of a value, where there is one
abbrev pub with_ : {X : Type 0} → Option X → (X → Line) → Line
with_ None make = bad
with_ (Some x) make = make x

abbrev pub go_line : List ℕ → Line
go_line word =
    if is_keyword (codes "TOP") word then Run command.Top
    else (if is_keyword (codes "BOTTOM") word then Run command.Bottom
    else with_ (count_in word) (λ n. Run (command.Go n)))

-- a command that locks a list of records
abbrev pub list_line : Option (List ℕ) → Line
list_line None = bad
list_line (Some list) = with_ (counts_in (between_commas list)) (λ ns. Run (command.RecordLocks ns))

-- RLOCK or LOCK, with record numbers in its parentheses
abbrev pub locks_line : List ℕ → Line
locks_line word = list_line (first_some (arguments_in (codes "RLOCK(") word) (arguments_in (codes "LOCK(") word))

-- the first call of the table that a word is
abbrev pub call_in : List ℕ → Option CallName
call_in word = find (λ call. is_call (call_text call) word) CALLS

-- a call, or else one with record numbers in its parentheses
abbrev pub call_line : Option CallName → List ℕ → Line
call_line (Some call_name.Rlock) word = Run command.RecordLock
call_line (Some call_name.Lock) word = Run command.RecordLock
call_line (Some call_name.Flock) word = Run command.FileLock
call_line (Some (call_name.Ask q)) word = Run (command.Ask q)
call_line None word = locks_line word

abbrev pub ask_of : Option (List ℕ) → List ℕ → Line
ask_of (Some name) word = Run (command.Show name)
ask_of None word = call_line (call_in word) word

abbrev pub ask_line : List ℕ → Line
ask_line word = ask_of (name_in word) word

-- a verb and a word
abbrev pub two : Verb → List ℕ → Line
two verb.Select word = with_ (count_in word) (λ n. Run (command.Select n))
two verb.Use word = with_ (name_in word) (λ n. Run (command.UseTable n false))
two verb.Go word = go_line word
two verb.Skip word = with_ (distance_in word) (λ n. Run (command.Skip n))
two verb.Seek word = with_ (text_in word) (λ t. Run (command.Seek t))
two verb.Append word = if is_keyword (codes "BLANK") word then Run command.AppendBlank else bad
two verb.Unlock word = if is_keyword (codes "ALL") word then Run command.UnlockAll else bad
two verb.Ask word = ask_line word
two verb.Display word = if is_keyword (codes "STATUS") word then Status else bad
two other word = bad

-- a verb and two words
abbrev pub three : Verb → List ℕ → List ℕ → Line
three verb.Use a b =
    if is_keyword (codes "EXCLUSIVE") b then with_ (name_in a) (λ n. Run (command.UseTable n true)) else bad
three other a b = bad

abbrev pub set_order_line : List ℕ → List ℕ → List ℕ → Line
set_order_line a b c =
    if is_keyword (codes "ORDER") a && is_keyword (codes "TO") b then with_ (count_in c) (λ n. Run (command.Order n)) else bad

abbrev pub replace_line : List ℕ → List ℕ → Line
replace_line a c = with_ (name_in a) (λ f. with_ (literal_in c) (λ l. Run (command.Replace f l)))

abbrev pub memo_line : List ℕ → List ℕ → Line
memo_line a c = with_ (name_in a) (λ f. with_ (text_in c) (λ t. Run (command.Memo f t)))

-- a verb and three words
abbrev pub four : Verb → List ℕ → List ℕ → List ℕ → Line
four verb.Set a b c = set_order_line a b c
four verb.Replace a b c = if is_keyword (codes "WITH") b then replace_line a c else bad
four verb.Memo a b c = if is_keyword (codes "WITH") b then memo_line a c else bad
four other a b c = bad

abbrev pub is_empty : List ℕ → Bool
is_empty word = length word == 0

-- a verb and the words after it
abbrev pub after_three : Verb → List ℕ → List ℕ → List ℕ → List ℕ → Line
after_three v a b c rest = if is_empty (first_word rest) then four v a b c else bad

abbrev pub after_two : Verb → List ℕ → List ℕ → List ℕ → Line
after_two v a b rest = if is_empty (first_word rest) then three v a b else after_three v a b (first_word rest) (after_word rest)

abbrev pub after_one : Verb → List ℕ → List ℕ → Line
after_one v a rest = if is_empty (first_word rest) then two v a else after_two v a (first_word rest) (after_word rest)

abbrev pub after_verb : Verb → List ℕ → Line
after_verb v rest = if is_empty (first_word rest) then one v else after_one v (first_word rest) (after_word rest)

-- what is made of an expression, a word that is to be TO, and one that is to be a name
abbrev pub index_line : List ℕ → List ℕ → List ℕ → Line
index_line expr to word =
    if is_empty expr || not (is_keyword (codes "TO") to) then bad else with_ (name_in word) (λ n. Run (command.IndexOn expr n))

-- the last two words, and what stands before them
abbrev pub after_on : List ℕ → Line
after_on rest =
    index_line (without_gaps (without_end_gaps (before_last (before_last rest)))) (last_word (before_last rest)) (last_word rest)

-- ON and what stands after it
abbrev pub after_index : List ℕ → Line
after_index rest = if is_keyword (codes "ON") (first_word rest) then after_on (after_word rest) else bad

-- what the reader makes of a line, word by word
abbrev pub read : List ℕ → Line
read line =
    if is_empty (first_word line) || begins_with_asterisk (first_word line) then Blank
    else (if is_keyword (codes "INDEX") (first_word line) then after_index (after_word line)
    else with_ (verb_in (first_word line)) (λ v. after_verb v (after_word line)))
