-- Why a line of a script is bad.
use Rattle.std.specs.Prelude.{ℕ, Bool, true, false, not, ◌&&◌, ◌||◌, ◌==◌, ◌-◌, List, [], ◌∷◌, length, slice_index, fold, codes, Option, Some, None, if◌then◌else◌}
use Rattle.catalogue_core.specs.declared.command.Command.TheVariants.{Bad}
use Rattle.station_lines.specs.declared.script.bad_line.BadLine.{BadLine}
use Rattle.station_lines.specs.declared.script.bad_line.BadLine.TheVariants as told
use Rattle.station_lines.specs.declared.script.format.TheConstants.{AMPERSAND, END_MARK, MARK_FIRST, MARK_SECOND, MARK_THIRD, QUESTION_MARK}
use Rattle.station_lines.specs.declared.script.line.Line.{Line}
use Rattle.station_lines.specs.declared.script.line.Line.TheVariants.{Run}
use Rattle.station_lines.specs.declared.script.verb.Verb.{Verb}
use Rattle.station_lines.specs.declared.script.verb.Verb.TheVariants as verb
use Rattle.station_lines.specs.Script.Parts.{is_keyword}
use Rattle.station_lines.specs.Script.Reading.{quote_after, first_word, after_word, is_empty, verb_in}

-- what is made of a line is the command `Bad`
abbrev pub is_bad : Line → Bool
is_bad (Run Bad) = true
is_bad line = false

-- Why a line is bad: a byte order mark, a 1A at the end, `&&` outside of texts, a missing blank after `?`, an unknown first word,
-- another word in a keyword's place, a text that is open at the end, a word too many, another form.
pub data Reason : Type 0 where
  byte_order_mark : Reason
  end_mark : Reason
  remark : Reason
  no_blank : Reason
  unknown_word : List ℕ → Reason
  other_word : List ℕ → List ℕ → Reason
  open_text : Reason
  word_too_many : List ℕ → Reason
  other_form : Reason

-- the reason that is told
abbrev pub reason_told : BadLine → Reason
reason_told told.ByteOrderMark = byte_order_mark
reason_told told.EndMark = end_mark
reason_told told.Remark = remark
reason_told told.NoBlank = no_blank
reason_told (told.UnknownWord word) = unknown_word word.now
reason_told (told.OtherWord word wanted) = other_word word.now wanted.now
reason_told told.OpenText = open_text
reason_told (told.WordTooMany word) = word_too_many word.now
reason_told told.OtherForm = other_form

-- ---- what a line has

-- the byte order mark of UTF-8 is first
abbrev pub begins_with_mark : List ℕ → Bool
begins_with_mark (a ∷ b ∷ c ∷ rest) = a == MARK_FIRST && (b == MARK_SECOND && c == MARK_THIRD)
begins_with_mark line = false

-- the mark of a file's end is last
abbrev pub ends_with_end_mark : List ℕ → Bool
ends_with_end_mark line = slice_index line (length line - 1) == END_MARK

abbrev pub begins_with_remark : List ℕ → Bool
begins_with_remark (a ∷ b ∷ rest) = a == AMPERSAND && b == AMPERSAND
begins_with_remark text = false

-- `&&` stands outside of texts; the first byte stands in the text of this quote, and outside of texts where this is 0
abbrev pub has_remark : ℕ → List ℕ → Bool
has_remark quote [] = false
has_remark quote (b ∷ bs) = (quote == 0 && begins_with_remark (b ∷ bs)) || has_remark (quote_after quote b) bs

-- a text is open at the end
abbrev pub ends_in_text : List ℕ → Bool
ends_in_text line = not (fold quote_after 0 line == 0)

-- `?` with other bytes after it in its word
abbrev pub lacks_blank : List ℕ → Bool
lacks_blank (a ∷ b ∷ rest) = a == QUESTION_MARK
lacks_blank word = false

-- ---- the words after a verb

abbrev pub second_word : List ℕ → List ℕ
second_word rest = first_word (after_word rest)

abbrev pub third_word : List ℕ → List ℕ
third_word rest = second_word (after_word rest)

abbrev pub fourth_word : List ℕ → List ℕ
fourth_word rest = third_word (after_word rest)

-- the keyword that must stand next to the verb, where there is one
abbrev pub wanted_first : Verb → List ℕ
wanted_first verb.Set = codes "ORDER"
wanted_first verb.Append = codes "BLANK"
wanted_first verb.Unlock = codes "ALL"
wanted_first verb.Display = codes "STATUS"
wanted_first other = []

-- the keyword that must stand as the second word after the verb, where there is one
abbrev pub wanted_second : Verb → List ℕ
wanted_second verb.Use = codes "EXCLUSIVE"
wanted_second verb.Set = codes "TO"
wanted_second verb.Replace = codes "WITH"
wanted_second verb.Memo = codes "WITH"
wanted_second other = []

-- a word stands where another, which is wanted, must stand
abbrev pub is_other : List ℕ → List ℕ → Bool
is_other word wanted = not (is_empty word) && (not (is_empty wanted) && not (is_keyword wanted word))

-- the first word after the most words that a command of the verb has
abbrev pub word_past : Verb → List ℕ → List ℕ
word_past verb.Delete rest = first_word rest
word_past verb.Recall rest = first_word rest
word_past verb.Pack rest = first_word rest
word_past verb.Use rest = third_word rest
word_past verb.Set rest = fourth_word rest
word_past verb.Replace rest = fourth_word rest
word_past verb.Memo rest = fourth_word rest
word_past other rest = second_word rest

-- ---- why a line is bad: the first of these that is so

-- a text that is open, a word too many, or another form than a command of the verb has
abbrev pub form_reason : Verb → List ℕ → List ℕ → Reason
form_reason v rest line =
    if ends_in_text line then open_text
    else (if is_empty (word_past v rest) then other_form else word_too_many (word_past v rest))

-- a word in a keyword's place, or what is wrong with the form
abbrev pub verb_reason : Verb → List ℕ → List ℕ → Reason
verb_reason v rest line =
    if is_other (first_word rest) (wanted_first v) then other_word (first_word rest) (wanted_first v)
    else (if is_other (second_word rest) (wanted_second v) then other_word (second_word rest) (wanted_second v)
    else form_reason v rest line)

-- the same after INDEX, whose expression may have any words and open texts
abbrev pub index_reason : List ℕ → Reason
index_reason rest = if is_other (first_word rest) (codes "ON") then other_word (first_word rest) (codes "ON") else other_form

abbrev pub known_reason : Option Verb → List ℕ → List ℕ → List ℕ → Reason
known_reason None first rest line = unknown_word first
known_reason (Some v) first rest line = verb_reason v rest line

-- by the first word
abbrev pub word_reason : List ℕ → List ℕ → List ℕ → Reason
word_reason first rest line =
    if lacks_blank first then no_blank
    else (if is_keyword (codes "INDEX") first then index_reason rest else known_reason (verb_in first) first rest line)

-- why a line is bad: the first of these that is so of it
abbrev pub reason_of : List ℕ → Reason
reason_of line =
    if begins_with_mark line then byte_order_mark
    else (if ends_with_end_mark line then end_mark
    else (if has_remark 0 line then remark
    else word_reason (first_word line) (after_word line) line))
