-- A command as a line of a script: in whole words and capitals, apart by one blank.
use Rattle.std.specs.Prelude.{◌≡◌, ℕ, true, false, not, ◌==◌, nat_lt, List, [], ◌∷◌, ◌++◌, codes, ℤ, if◌then◌else◌}
use Rattle.std.specs.List.{list_all}
use Rattle.std.specs.Fmt.{decimal, signed_decimal}
use Rattle.std.specs.Int.RustNames.{unsigned_abs}
use Rattle.dbf_fields.specs.declared.day.Day.{Day}
use Rattle.dbf_fields.specs.declared.format.TheConstants.{POINT, SLASH}
use Rattle.dbf_fields.specs.declared.literal.Literal.{Literal}
use Rattle.dbf_fields.specs.declared.literal.Literal.TheVariants.{Text, Number, Truth, Date, BlankDate, BadDate}
use Rattle.dbf_fields.specs.Digits.{last_digits}
use Rattle.dbf_fields.specs.NumberText.{sign, number_text}
use Rattle.catalogue_core.specs.declared.command.Command.{Command}
use Rattle.catalogue_core.specs.declared.command.Command.TheVariants.{Select, UseTable, CloseTable, Go, Top, Bottom, Skip, Seek, Order, AppendBlank, Replace, Memo, Delete, Recall, Pack, IndexOn, Unlock, UnlockAll, Show, RecordLock, RecordLocks, FileLock, Ask, Bad}
use Rattle.station_lines.specs.declared.script.call.CallName.TheVariants as call_name
use Rattle.station_lines.specs.declared.script.format.TheConstants.{QUOTE, APOSTROPHE, COMMA, MAX_LITERAL_DIGITS}
use Rattle.station_lines.specs.declared.script.line.Line.TheVariants.{Run}
use Rattle.station_lines.specs.Script.Lines.{has_no_lf}
use Rattle.station_lines.specs.Script.Parts.{call_text}
use Rattle.station_lines.specs.Script.Meaning.{Means}

-- a text between two `"`, or between two `'` where it holds a `"`
abbrev pub quoted : List ℕ → List ℕ
quoted text =
    if list_all (λ b. not (b == QUOTE)) text then QUOTE ∷ (text ++ QUOTE ∷ [])
    else APOSTROPHE ∷ (text ++ APOSTROPHE ∷ [])

-- A number with all its decimals. Where these are as many as a number may have digits, none stands before the point.
abbrev pub written_number : ℤ → ℕ → List ℕ
written_number digits scale =
    if nat_lt scale MAX_LITERAL_DIGITS then number_text digits scale scale
    else sign digits ++ (POINT ∷ last_digits scale (unsigned_abs digits))

-- MM/DD/YY
abbrev pub written_day : Day → List ℕ
written_day day = last_digits 2 day.month ++ (SLASH ∷ (last_digits 2 day.day ++ (SLASH ∷ last_digits 2 day.year)))

-- a text as a date
abbrev pub date_call : List ℕ → List ℕ
date_call text = codes "CTOD(" ++ (QUOTE ∷ (text ++ (QUOTE ∷ codes ")")))

-- a value
abbrev pub written_value : Literal → List ℕ
written_value (Text text) = quoted text
written_value (Number digits scale) = written_number digits scale
written_value (Truth true) = codes ".T."
written_value (Truth false) = codes ".F."
written_value (Date day) = date_call (written_day day)
written_value BlankDate = date_call (codes "  /  /  ")
written_value BadDate = date_call (codes "99/99/99")

-- numbers, each after a comma
abbrev pub after_commas : List ℕ → List ℕ
after_commas [] = []
after_commas (n ∷ ns) = COMMA ∷ (decimal n ++ after_commas ns)

-- numbers, apart by commas
abbrev pub with_commas : List ℕ → List ℕ
with_commas [] = []
with_commas (n ∷ ns) = decimal n ++ after_commas ns

-- The line of a command, without an ending: whole words in capitals, apart by one blank; a text between `"`, or between `'` if it
-- has a `"`; a number with all its decimals; a date as `CTOD("MM/DD/YY")`; `BAD` for `Bad`, which can't be read either.
abbrev pub text_of_command : Command → List ℕ
text_of_command (Select n) = codes "SELECT " ++ decimal n
text_of_command (UseTable name false) = codes "USE " ++ name
text_of_command (UseTable name true) = codes "USE " ++ (name ++ codes " EXCLUSIVE")
text_of_command CloseTable = codes "USE"
text_of_command (Go n) = codes "GO " ++ decimal n
text_of_command Top = codes "GO TOP"
text_of_command Bottom = codes "GO BOTTOM"
text_of_command (Skip n) = codes "SKIP " ++ signed_decimal n
text_of_command (Seek text) = codes "SEEK " ++ quoted text
text_of_command (Order n) = codes "SET ORDER TO " ++ decimal n
text_of_command AppendBlank = codes "APPEND BLANK"
text_of_command (Replace field value) = codes "REPLACE " ++ (field ++ (codes " WITH " ++ written_value value))
text_of_command (Memo field text) = codes "MEMO " ++ (field ++ (codes " WITH " ++ quoted text))
text_of_command Delete = codes "DELETE"
text_of_command Recall = codes "RECALL"
text_of_command Pack = codes "PACK"
text_of_command (IndexOn expr name) = codes "INDEX ON " ++ (expr ++ (codes " TO " ++ name))
text_of_command Unlock = codes "UNLOCK"
text_of_command UnlockAll = codes "UNLOCK ALL"
text_of_command (Show field) = codes "? " ++ field
text_of_command RecordLock = codes "? " ++ call_text call_name.Rlock
text_of_command (RecordLocks ns) = codes "? RLOCK(" ++ (with_commas ns ++ codes ")")
text_of_command FileLock = codes "? " ++ call_text call_name.Flock
text_of_command (Ask q) = codes "? " ++ call_text (call_name.Ask q)
text_of_command Bad = codes "BAD"

-- a text means this command
abbrev pub IsMeant : Command → Type 0
IsMeant command = (text : List ℕ) × Means text (Run command)

-- a line of a script means this command: a text without an LF
abbrev pub IsOfALine : Command → Type 0
IsOfALine command = (line : List ℕ) × (has_no_lf line ≡ true) × Means line (Run command)
