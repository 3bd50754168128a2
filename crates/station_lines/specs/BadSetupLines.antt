-- Why a line of a setup is bad.
use Rattle.std.specs.Prelude.{ℕ, Bool, not, ◌||◌, List, take, drop, bytes_eq, codes, is_some, if◌then◌else◌}
use Rattle.std.specs.List.{list_all, position_or_len}
use Rattle.std.specs.Char.{is_ascii}
use Rattle.station_lines.specs.declared.setup.bad_setup_line.BadSetupLine.{BadSetupLine}
use Rattle.station_lines.specs.declared.setup.bad_setup_line.BadSetupLine.TheVariants as told
use Rattle.station_lines.specs.Script.Words.{is_gap}
use Rattle.station_lines.specs.Script.Parts.{capitals}
use Rattle.station_lines.specs.Script.Reading.{without_gaps, is_empty}
use Rattle.station_lines.specs.Script.BadLines.{begins_with_mark}
use Rattle.station_lines.specs.Setup.{short_name}

-- Why a line of a setup is bad: a byte order mark, a byte over 127, a keyword in small letters, another first word, a word too few,
-- a word too many, a word that is no name, no earlier table of the name.
pub data SetupReason : Type 0 where
  byte_order_mark : SetupReason
  not_ascii : SetupReason
  small_letters : List ℕ → SetupReason
  unknown_word : List ℕ → SetupReason
  word_missing : SetupReason
  word_too_many : List ℕ → SetupReason
  no_name : List ℕ → SetupReason
  no_table : List ℕ → SetupReason

-- the reason that is told
abbrev pub setup_reason_told : BadSetupLine → SetupReason
setup_reason_told told.ByteOrderMark = byte_order_mark
setup_reason_told told.NotAscii = not_ascii
setup_reason_told (told.SmallLetters word) = small_letters word.now
setup_reason_told (told.UnknownWord word) = unknown_word word.now
setup_reason_told told.WordMissing = word_missing
setup_reason_told (told.WordTooMany word) = word_too_many word.now
setup_reason_told (told.NoName word) = no_name word.now
setup_reason_told (told.NoTable word) = no_table word.now

-- ---- the words of a line, in which a quote is a byte like any other

-- how many bytes stand before the first blank or tab, or all
abbrev pub plain_length : List ℕ → ℕ
plain_length text = position_or_len (λ b. is_gap b) text

-- the first word, and nothing where there is none
abbrev pub plain_word : List ℕ → List ℕ
plain_word line = take (plain_length (without_gaps line)) (without_gaps line)

abbrev pub after_plain_word : List ℕ → List ℕ
after_plain_word line = drop (plain_length (without_gaps line)) (without_gaps line)

abbrev pub second_plain_word : List ℕ → List ℕ
second_plain_word line = plain_word (after_plain_word line)

abbrev pub third_plain_word : List ℕ → List ℕ
third_plain_word line = second_plain_word (after_plain_word line)

abbrev pub fourth_plain_word : List ℕ → List ℕ
fourth_plain_word line = third_plain_word (after_plain_word line)

-- ---- why a line is bad: the first of these that is so

-- by the words after TABLE
abbrev pub table_reason : List ℕ → SetupReason
table_reason rest =
    if is_empty (second_plain_word rest) then word_missing
    else (if is_empty (fourth_plain_word rest) then no_name (plain_word rest) else word_too_many (fourth_plain_word rest))

-- by the names of an index's line
abbrev pub name_reason : List ℕ → List ℕ → SetupReason
name_reason table name =
    if not (is_some (short_name table)) then no_name table
    else (if not (is_some (short_name name)) then no_name name else no_table table)

-- by the words after INDEX
abbrev pub index_line_reason : List ℕ → SetupReason
index_line_reason rest =
    if is_empty (third_plain_word rest) then word_missing
    else (if is_empty (fourth_plain_word rest) then name_reason (plain_word rest) (second_plain_word rest) else word_too_many (fourth_plain_word rest))

-- by the words after STATION
abbrev pub station_reason : List ℕ → SetupReason
station_reason rest = if is_empty (plain_word rest) then word_missing else word_too_many (second_plain_word rest)

-- TABLE, INDEX or STATION in any case
abbrev pub is_setup_word : List ℕ → Bool
is_setup_word word = bytes_eq (codes "TABLE") (capitals word) || (bytes_eq (codes "INDEX") (capitals word) || bytes_eq (codes "STATION") (capitals word))

-- by the first word, and what stands after it
abbrev pub key_reason : List ℕ → List ℕ → SetupReason
key_reason key rest =
    if bytes_eq key (codes "TABLE") then table_reason rest
    else (if bytes_eq key (codes "INDEX") then index_line_reason rest
    else (if bytes_eq key (codes "STATION") then station_reason rest
    else (if is_setup_word key then small_letters key else unknown_word key)))

-- why a bad line of a setup is bad: the first of these that is so of it
abbrev pub setup_reason : List ℕ → SetupReason
setup_reason line =
    if begins_with_mark line then byte_order_mark
    else (if not (list_all is_ascii line) then not_ascii else key_reason (plain_word line) (after_plain_word line))
