-- The journal as a file: a line an entry, which shows its station, the line of its command and that of its answer.
use Rattle.std.specs.Prelude.{◌≡◌, ◌≢◌, ℕ, ◌^◌, ◌<◌, Bool, not, ◌&&◌, ◌||◌, ◌==◌, List, [], ◌∷◌, ◌++◌, length, map, slice_index}
use Rattle.std.specs.List.{list_all}
use Rattle.std.specs.Char.{is_ascii_digit}
use Rattle.std.specs.Fmt.{decimal}
use Rattle.dbf_fields.specs.declared.format.TheConstants.{BLANK, ZERO_DIGIT}
use Rattle.catalogue_core.specs.declared.entry.Entry.{Entry}
use Rattle.station_lines.specs.declared.script.format.TheConstants.{LF}
use Rattle.station_lines.specs.AnswerLines.{line_of}
use Rattle.station_lines.specs.CommandLines.{text_of_command}

-- The line of a journal's entry, and what stands after it: the station's number, how many bytes the command's line and the answer's
-- line have, these two lines, apart by one blank, and LF. Since the bytes are counted, any byte may stand in the answer's line, an
-- LF of a memo too. The line of a command that a script's line means has no LF (IsOfALine).
abbrev pub entry_and : ℕ × List ℕ × List ℕ → List ℕ → List ℕ
entry_and entry rest =
    decimal entry.0 ++ (BLANK ∷ (decimal (length entry.1) ++ (BLANK ∷ (decimal (length entry.2) ++ (BLANK ∷
    (entry.1 ++ (BLANK ∷ (entry.2 ++ (LF ∷ rest)))))))))

-- the lines of entries, one after another, and what stands after them
abbrev pub lines_and : List (ℕ × List ℕ × List ℕ) → List ℕ → List ℕ
lines_and [] rest = rest
lines_and (entry ∷ entries) rest = entry_and entry (lines_and entries rest)

-- what the line of an entry shows
abbrev pub line_parts : Entry → ℕ × List ℕ × List ℕ
line_parts e = (e.station, text_of_command e.command, line_of e.answer)

-- the text of a journal: the lines of its entries
abbrev pub journal_text : List Entry → List ℕ
journal_text entries = lines_and (map line_parts entries) []

-- the station's number and how many bytes both lines have are numbers of 64 bits
abbrev pub HasSmallNumbers : ℕ × List ℕ × List ℕ → Type 0
HasSmallNumbers entry = (entry.0 < 2 ^ 64) × (length entry.1 < 2 ^ 64) × (length entry.2 < 2 ^ 64)

-- the numbers of each entry's line are small so
abbrev pub HaveSmallNumbers : List (ℕ × List ℕ × List ℕ) → Type 0
HaveSmallNumbers [] = Unit {0}
HaveSmallNumbers (entry ∷ entries) = HasSmallNumbers entry × HaveSmallNumbers entries

-- no entry's line is first
abbrev pub BeginsWithNoEntry : List ℕ → Type 0
BeginsWithNoEntry text =
    (entry : ℕ × List ℕ × List ℕ) (rest : List ℕ) → HasSmallNumbers entry → text ≢ entry_and entry rest

-- ---- the parts of a line

-- digits, and no zero before others
abbrev pub is_plain_number : List ℕ → Bool
is_plain_number text =
    not (length text == 0) && (length text == 1 || not (slice_index text 0 == ZERO_DIGIT)) && list_all is_ascii_digit text

-- the text is no number as it is written
abbrev pub IsNoNumber : List ℕ → Type 0
IsNoNumber text = (n : ℕ) → n < 2 ^ 64 → text ≢ decimal n

-- a number and a blank are first
pub record BeginsWithNumber (text : List ℕ) (n : ℕ) (rest : List ℕ) : Type 0 where
  pub is : text ≡ decimal n ++ (BLANK ∷ rest)
  pub small : n < 2 ^ 64

-- no number and blank are first
abbrev pub BeginsWithNoNumber : List ℕ → Type 0
BeginsWithNoNumber text = (n : ℕ) (rest : List ℕ) → n < 2 ^ 64 → text ≢ decimal n ++ (BLANK ∷ rest)

-- a part of as many bytes is first, with this byte after it
pub record BeginsWithPart (text : List ℕ) (count end : ℕ) (part rest : List ℕ) : Type 0 where
  pub is : text ≡ part ++ (end ∷ rest)
  pub long : length part ≡ count

-- no part of as many bytes is first, with this byte after it
abbrev pub BeginsWithNoPart : List ℕ → ℕ → ℕ → Type 0
BeginsWithNoPart text count end = (part rest : List ℕ) → length part ≡ count → text ≢ part ++ (end ∷ rest)

-- an entry's line is first in the text
pub record BeginsWithEntry (text : List ℕ) (entry : ℕ × List ℕ × List ℕ) (rest : List ℕ) : Type 0 where
  pub is : text ≡ entry_and entry rest
  pub small : HasSmallNumbers entry
