-- What is told of the lines of scripts, and of a bad line of a setup.
use Rattle.std.specs.Prelude.{◌≡◌, ◌⊎◌, ℕ, ◌+◌, ◌-◌, ◌==◌, Bool, List, [], ◌∷◌, ◌++◌, length, take, codes, Option, Some, None, if◌then◌else◌}
use Rattle.std.specs.List.{flat_map}
use Rattle.std.specs.Fmt.{decimal}
use Rattle.folders.specs.declared.named.NamedFile.{NamedFile}
use Rattle.folders.specs.Files.{IsFileOf}
use Rattle.station_lines.specs.declared.script.format.TheConstants.{LF}
use Rattle.station_lines.specs.declared.setup.entry.SetupEntry.{SetupEntry}
use Rattle.station_lines.specs.declared.setup.entry.SetupEntry.TheVariants.{Station}
use Rattle.station_lines.specs.Script.Lines.{AreLines}
use Rattle.station_lines.specs.Script.Reading.{read}
use Rattle.station_lines.specs.Script.BadLines.{is_bad, Reason, reason_of}
use Rattle.station_lines.specs.Script.BadLines as script
use Rattle.station_lines.specs.BadSetupLines.{SetupReason, setup_reason}
use Rattle.station_lines.specs.BadSetupLines as setup
use Rattle.table_text.specs.Shown.{shown_byte}
use Rattle.setup_check.specs.declared.scripts.ScriptCounts.{ScriptCounts}
use Rattle.setup_check.specs.declared.scripts.NumberedLine.{NumberedLine}
use Rattle.setup_check.specs.declared.scripts.BadLinesTold.{BadLinesTold}
use Rattle.setup_check.specs.declared.scripts.BadLinesTold.TheVariants.{First, Each}
use Rattle.setup_check.specs.declared.shown_line.TheConstants.{MAX_SHOWN_BYTES}
use Rattle.setup_files.specs.declared.fault.LoadRefusal.{LoadRefusal}
use Rattle.setup_files.specs.EntryFiles.{IsLoadRefusal}

-- ---- lines

-- the first bytes of a line, each as it is shown
abbrev pub shown_line : List ℕ → List ℕ
shown_line line = flat_map shown_byte (take MAX_SHOWN_BYTES line)

-- the line is none of a script: the reader makes the command `Bad` of it
abbrev pub is_bad_line : List ℕ → Bool
is_bad_line line = is_bad (read line)

-- how many lines are bad
abbrev pub bad_count : List (List ℕ) → ℕ
bad_count [] = 0
bad_count (line ∷ lines) = (if is_bad_line line then 1 else 0) + bad_count lines

-- the first bad line and its number, where the first line has this number
abbrev pub first_bad : ℕ → List (List ℕ) → Option (ℕ × List ℕ)
first_bad number [] = None
first_bad number (line ∷ lines) = if is_bad_line line then Some (number, line) else first_bad (number + 1) lines

-- the line of a number, from 1, and nothing where there is none
abbrev pub line_of_number : ℕ → List (List ℕ) → List ℕ
line_of_number number [] = []
line_of_number number (line ∷ lines) = if number == 1 then line else line_of_number (number - 1) lines

-- a line and its number
abbrev pub pair_of : NumberedLine → ℕ × List ℕ
pair_of numbered = (numbered.number, numbered.line.now)

-- how many lines there are, and how many of them are bad
pub record AreCounts (lines : List (List ℕ)) (counts : ScriptCounts) : Type 0 where
  pub all : counts.lines ≡ length lines
  pub bad_ones : counts.bad ≡ bad_count lines

-- ---- why lines are bad, in words

-- why a line of a script is bad, in words
abbrev pub reason_words : Reason → List ℕ
reason_words script.byte_order_mark = codes "it begins with a byte order mark"
reason_words script.end_mark = codes "it ends with 1A, the mark of a file's end"
reason_words script.remark = codes "&& begins no remark"
reason_words script.no_blank = codes "a blank is missing after ?"
reason_words (script.unknown_word word) = codes "unknown word " ++ shown_line word
reason_words (script.other_word word wanted) = shown_line word ++ (codes " stands where " ++ (wanted ++ codes " must"))
reason_words script.open_text = codes "a text has no end"
reason_words (script.word_too_many word) = codes "a word too many: " ++ shown_line word
reason_words script.other_form = codes "not the form of its command"

-- why a line of a setup is bad, in words
abbrev pub setup_reason_words : SetupReason → List ℕ
setup_reason_words setup.byte_order_mark = codes "it begins with a byte order mark"
setup_reason_words setup.not_ascii = codes "it has a byte over 127"
setup_reason_words (setup.small_letters word) = shown_line word ++ codes " must be in capitals"
setup_reason_words (setup.unknown_word word) = shown_line word ++ codes " is none of TABLE, INDEX, STATION"
setup_reason_words setup.word_missing = codes "a word is missing"
setup_reason_words (setup.word_too_many word) = codes "a word too many: " ++ shown_line word
setup_reason_words (setup.no_name word) = shown_line word ++ codes " is no name of 1 to 8 letters, digits or _, a letter first"
setup_reason_words (setup.no_table word) = codes "no TABLE of the name " ++ (shown_line word ++ codes " before it")

-- ---- what is told of a script

-- `: line 3: SET TALK OFF` with the path before it
abbrev pub numbered_line : ℕ → List ℕ → List ℕ
numbered_line number line = codes "line " ++ (decimal number ++ (codes ": " ++ shown_line line))

-- the words that all lines are good, or how many are bad, and the first of these
abbrev pub verdict_words : ℕ → Option (ℕ × List ℕ) → List ℕ
verdict_words bad None = codes ": good"
verdict_words bad (Some first) = codes ", " ++ (decimal bad ++ (codes " are no command: the first is " ++ numbered_line first.0 first.1))

-- a line for a script, by how many lines it has, how many of them are bad, and the first of these
abbrev pub counted_line : List ℕ → ℕ → ℕ → Option (ℕ × List ℕ) → List ℕ
counted_line path count bad first = path ++ (codes ": " ++ (decimal count ++ (codes " lines" ++ (verdict_words bad first ++ LF ∷ []))))

abbrev pub script_line : List ℕ → List (List ℕ) → List ℕ
script_line path lines = counted_line path (length lines) (bad_count lines) (first_bad 1 lines)

-- why a line is none of a script, and nothing where it is one
abbrev pub bad_words : List ℕ → Option (List ℕ)
bad_words line = if is_bad_line line then Some (reason_words (reason_of line)) else None

-- a line for a bad line, and why it is bad
abbrev pub bad_line_text : List ℕ → ℕ → List ℕ → List ℕ
bad_line_text path number line = path ++ (codes ": " ++ (numbered_line number line ++ (codes ": " ++ (reason_words (reason_of line) ++ LF ∷ []))))

-- a line for each bad line, where the first line has this number
abbrev pub bad_lines_text : List ℕ → ℕ → List (List ℕ) → List ℕ
bad_lines_text path number [] = []
bad_lines_text path number (line ∷ lines) =
    (if is_bad_line line then bad_line_text path number line else []) ++ bad_lines_text path (number + 1) lines

-- the bad lines one by one, where they are asked for
abbrev pub details_text : BadLinesTold → List ℕ → List (List ℕ) → List ℕ
details_text First path lines = []
details_text Each path lines = bad_lines_text path 1 lines

-- What is said of a script: how many lines it has, blank ones and remarks too, how many of them are no command and the first of
-- these; if it is asked for, each of them and why.
abbrev pub script_text : BadLinesTold → List ℕ → List (List ℕ) → List ℕ
script_text told path lines = script_line path lines ++ details_text told path lines

-- what is told of the bytes of a script
abbrev pub IsScriptText : BadLinesTold → List ℕ → List ℕ → List ℕ → Type 0
IsScriptText told path bytes text = (lines : List (List ℕ)) × AreLines lines bytes × (text ≡ script_text told path lines)

-- what is told of an entry's script: of one that can't be read, nothing
abbrev pub IsEntryText : Option (List NamedFile) → BadLinesTold → SetupEntry → List ℕ → Type 0
IsEntryText files told (Station script) text =
    ((bytes : List ℕ) × IsFileOf files script bytes × IsScriptText told script bytes text)
    ⊎ ((why : LoadRefusal) × IsLoadRefusal files script why × (text ≡ []))
IsEntryText files told entry text = text ≡ []

-- what is said of the scripts of entries, one after another, and nothing of one that can't be read
abbrev pub AreScriptTexts : Option (List NamedFile) → BadLinesTold → List SetupEntry → List ℕ → Type 0
AreScriptTexts files told [] text = text ≡ []
AreScriptTexts files told (entry ∷ entries) text =
    (own : List ℕ) × (others : List ℕ) × (text ≡ own ++ others) × IsEntryText files told entry own × AreScriptTexts files told entries others

-- ---- what is told of a bad line of a setup

-- the text on a setup's bad line: its number, and why it is bad
abbrev pub IsBadSetupText : List ℕ → ℕ → List ℕ → Type 0
IsBadSetupText setup number text =
    (lines : List (List ℕ)) × AreLines lines setup
    × (text ≡ codes "setup line " ++ (decimal number ++ (codes " is bad: " ++ setup_reason_words (setup_reason (line_of_number number lines)))))
