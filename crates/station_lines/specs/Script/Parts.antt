-- What a word of a command is: a keyword, a name, a number, a text.
use Rattle.std.specs.Prelude.{◌≡◌, ℕ, ◌-◌, codes, Bool, true, not, ◌&&◌, ◌||◌, ◌==◌, List, [], ◌∷◌, ◌++◌, length, map, reverse, take, drop, slice_index, Option, Some, None, option_map, ℤ, pos, neg_ℤ, if◌then◌else◌}
use Rattle.std.specs.List.{list_all, slice_split}
use Rattle.std.specs.Int.{is_in_range}
use Rattle.std.specs.Char.{is_ascii_digit, is_ascii_alphabetic, to_ascii_uppercase}
use Rattle.std.specs.Str.{str_eq_ignore_ascii_case}
use Rattle.dbf_fields.specs.declared.format.TheConstants.{MINUS}
use Rattle.dbf_fields.specs.Digits.{digits_after}
use Rattle.dbf_fields.specs.Name.{is_name_char}
use Rattle.catalogue_core.specs.declared.command.Question.TheVariants.{Eof, Bof, Found, Deleted, Recno, Reccount}
use Rattle.station_lines.specs.declared.script.call.CallName.{CallName}
use Rattle.station_lines.specs.declared.script.call.CallName.TheVariants.{Rlock, Lock, Flock, Ask}
use Rattle.station_lines.specs.declared.script.format.TheConstants.{KEYWORD_LETTERS, MAX_COUNT_DIGITS, QUOTE, APOSTROPHE, COMMA}
use Rattle.station_lines.specs.Script.Words.{begins_word}

-- A keyword in any case: its first four letters, or all of one that has fewer, and as many of the others as one
-- likes.
abbrev pub is_keyword : List ℕ → List ℕ → Bool
is_keyword keyword word =
    str_eq_ignore_ascii_case (take KEYWORD_LETTERS word) (take KEYWORD_LETTERS keyword)
    && str_eq_ignore_ascii_case (drop KEYWORD_LETTERS word) (take (length word - KEYWORD_LETTERS) (drop KEYWORD_LETTERS keyword))

-- a function's name with its parentheses, in any case
abbrev pub is_call : List ℕ → List ℕ → Bool
is_call function word = str_eq_ignore_ascii_case word function

-- a call after `?` with nothing in its parentheses: its name with these
abbrev pub call_text : CallName → List ℕ
call_text Rlock = codes "RLOCK()"
call_text Lock = codes "LOCK()"
call_text Flock = codes "FLOCK()"
call_text (Ask Eof) = codes "EOF()"
call_text (Ask Bof) = codes "BOF()"
call_text (Ask Found) = codes "FOUND()"
call_text (Ask Deleted) = codes "DELETED()"
call_text (Ask Recno) = codes "RECNO()"
call_text (Ask Reccount) = codes "RECCOUNT()"

-- in capitals
abbrev pub capitals : List ℕ → List ℕ
capitals word = map to_ascii_uppercase word

-- a letter, then letters, digits or `_`, of any length
abbrev pub is_name_word : List ℕ → Bool
is_name_word word = is_ascii_alphabetic (slice_index word 0) && list_all is_name_char word

-- the name that a word is, folded to capitals
abbrev pub name_in : List ℕ → Option (List ℕ)
name_in word = if is_name_word word then Some (capitals word) else None

-- Some bytes, among which blanks and tabs may stand, but not first and not last. A quote is a byte like any other.
abbrev pub is_phrase : List ℕ → Bool
is_phrase text = begins_word text && begins_word (reverse text)

-- 1 to 10 digits
abbrev pub is_count : List ℕ → Bool
is_count word = is_in_range 1 MAX_COUNT_DIGITS (length word) && list_all is_ascii_digit word

-- the number that a word is
abbrev pub count_in : List ℕ → Option ℕ
count_in word = if is_count word then Some (digits_after 0 word) else None

-- the parts between commas
abbrev pub between_commas : List ℕ → List (List ℕ)
between_commas text = slice_split (λ b. b == COMMA) text

-- each part is a number of 1 to 10 digits
abbrev pub AreCounts : List (List ℕ) → List ℕ → Type 0
AreCounts [] [] = Unit {0}
AreCounts (part ∷ parts) (n ∷ ns) = (count_in part ≡ Some n) × AreCounts parts ns
AreCounts parts ns = ⊥

-- a function's name with its opening parenthesis, in any case, numbers apart by commas, and `)`
abbrev pub IsListCall : List ℕ → List ℕ → List ℕ → Type 0
IsListCall function word numbers =
    (name : List ℕ) × (inside : List ℕ) × (word ≡ name ++ (inside ++ codes ")"))
    × (str_eq_ignore_ascii_case name function ≡ true) × AreCounts (between_commas inside) numbers

-- the number that a word is, below zero after a `-`
abbrev pub distance_in : List ℕ → Option ℤ
distance_in [] = None
distance_in (b ∷ bs) =
    if b == MINUS then option_map (λ n. neg_ℤ (pos n)) (count_in bs) else option_map pos (count_in (b ∷ bs))

abbrev pub is_quote : ℕ → Bool
is_quote b = b == QUOTE || b == APOSTROPHE

-- a text between two quotes of one kind, with any bytes but this quote
abbrev pub IsText : List ℕ → List ℕ → Type 0
IsText word text =
    (quote : ℕ) × (is_quote quote ≡ true) × (word ≡ quote ∷ (text ++ quote ∷ [])) × (list_all (λ b. not (b == quote)) text ≡ true)
