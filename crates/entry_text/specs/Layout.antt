-- The entries of a journal as text. An entry is what its line shows: the station's number, the line of the command and that of the answer.
use Rattle.std.specs.Prelude.{◌≡◌, ℕ, ◌-◌, Bool, true, not, ◌&&◌, ◌||◌, ◌==◌, List, [], ◌∷◌, ◌++◌, length, replicate, codes, Option, Some, None, if◌then◌else◌}
use Rattle.std.specs.List.{flat_map, count_by}
use Rattle.std.specs.Fmt.{decimal}
use Rattle.dbf_fields.specs.declared.format.TheConstants.{BLANK}
use Rattle.station_lines.specs.declared.script.format.TheConstants.{LF}
use Rattle.station_lines.specs.JournalLines.{lines_and, HaveSmallNumbers}
use Rattle.entry_text.specs.declared.counts.EntryCounts.{EntryCounts}
use Rattle.entry_text.specs.declared.entries.EntriesAsked.{EntriesAsked}
use Rattle.entry_text.specs.declared.text.TheConstants.{COMMAND_WIDTH, MARGIN, STATION_WIDTH}
use Rattle.entry_text.specs.Refusals.{is_refusal_line}

-- ---- an entry

-- a text before as many blanks as fill a column
abbrev pub in_column : ℕ → List ℕ → List ℕ
in_column width text = text ++ replicate (width - length text) BLANK

-- a byte of an answer; after an LF the blanks that stand before the next line
abbrev pub answer_byte : ℕ → List ℕ
answer_byte byte = if byte == LF then LF ∷ replicate MARGIN BLANK else byte ∷ []

-- an answer, each of its lines below the one before
abbrev pub answer_text : List ℕ → List ℕ
answer_text answer = flat_map answer_byte answer ++ LF ∷ []

-- the station, the command, and the answer beside it
abbrev pub entry_text : ℕ × List ℕ × List ℕ → List ℕ
entry_text entry =
    in_column STATION_WIDTH (decimal entry.0 ++ codes ":") ++ (in_column COMMAND_WIDTH entry.1 ++ (BLANK ∷ answer_text entry.2))

-- ---- which are shown

-- the entries of a station are asked for
abbrev pub is_of : Option ℕ → ℕ → Bool
is_of None of = true
is_of (Some station) of = of == station

-- an entry is asked for: it is of the station that is given
abbrev pub is_asked : EntriesAsked → ℕ × List ℕ × List ℕ → Bool
is_asked asked entry = is_of asked.station entry.0

-- it is asked for, and its answer is a refusal
abbrev pub is_refused : EntriesAsked → ℕ × List ℕ × List ℕ → Bool
is_refused asked entry = is_asked asked entry && is_refusal_line entry.2

-- it is shown: it is asked for, and is refused where the refused ones alone are shown
abbrev pub is_shown : EntriesAsked → ℕ × List ℕ × List ℕ → Bool
is_shown asked entry = is_asked asked entry && (not asked.refused_only || is_refusal_line entry.2)

-- what is shown of it
abbrev pub shown_text : EntriesAsked → ℕ × List ℕ × List ℕ → List ℕ
shown_text asked entry = if is_shown asked entry then entry_text entry else []

-- ---- all of them

-- how many are asked for
abbrev pub asked_count : EntriesAsked → List (ℕ × List ℕ × List ℕ) → ℕ
asked_count asked entries = count_by (is_asked asked) entries

-- how many of them were refused
abbrev pub refused_count : EntriesAsked → List (ℕ × List ℕ × List ℕ) → ℕ
refused_count asked entries = count_by (is_refused asked) entries

abbrev pub counts_of : EntriesAsked → List (ℕ × List ℕ × List ℕ) → EntryCounts
counts_of asked entries = record { all = asked_count asked entries; refused = refused_count asked entries }

-- how many of how many were refused
abbrev pub count_text : ℕ → ℕ → List ℕ
count_text refused all = decimal refused ++ (codes " of " ++ (decimal all ++ codes " refused\n"))

-- what is shown of each, in their order, and where the refused ones alone are shown how many of how many they are
abbrev pub entries_text : EntriesAsked → List (ℕ × List ℕ × List ℕ) → List ℕ
entries_text asked entries =
    flat_map (shown_text asked) entries ++ (if asked.refused_only then count_text (refused_count asked entries) (asked_count asked entries) else [])

-- the lines are those of these entries, which are so many
pub record AreLinesOf (entries : List (ℕ × List ℕ × List ℕ)) (count : ℕ) (lines : List ℕ) : Type 0 where
  pub small : HaveSmallNumbers entries
  pub counted : length entries ≡ count
  pub is : lines ≡ lines_and entries []
