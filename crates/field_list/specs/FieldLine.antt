-- What a line of a list of fields says.
use Rattle.std.specs.Prelude.{ℕ, Bool, false, not, ◌&&◌, ◌||◌, ◌==◌, nat_le, List, [], ◌∷◌, bytes_eq, codes, is_some, unwrap_or, Option, Some, None, if◌then◌else◌}
use Rattle.std.specs.Str.{str_eq_ignore_ascii_case}
use Rattle.dbf_fields.specs.declared.field.Field.{Field}
use Rattle.dbf_fields.specs.declared.format.TheConstants.{CHARACTER, DATE, LOGICAL, MEMO, NUMBER}
use Rattle.dbf_fields.specs.Faults.{first_fault}
use Rattle.station_lines.specs.Script.Parts.{count_in}
use Rattle.station_lines.specs.Script.Reading.{is_empty}
use Rattle.station_lines.specs.BadSetupLines.{plain_word, after_plain_word, second_plain_word, third_plain_word}
use Rattle.field_list.specs.declared.fault.FieldLineFault.{FieldLineFault}
use Rattle.field_list.specs.declared.fault.FieldLineFault.TheVariants.{NoKind, NoWidth, NoDecimals, WordTooMany}

-- ---- lines that say nothing

-- these are the first two words of the line
abbrev pub two_words : List ℕ → List ℕ → List ℕ → Bool
two_words first second line = bytes_eq (plain_word line) first && bytes_eq (second_plain_word line) second

-- one of the lines that are printed before those of the fields: the number of records, the date and the headings
abbrev pub is_heading : List ℕ → Bool
is_heading line =
    bytes_eq (plain_word line) (codes "Records:")
    || (two_words (codes "Last") (codes "change:") line || two_words (codes "Field") (codes "Name") line)

-- a line says nothing where it has no words, or is one of those
abbrev pub says_nothing : List ℕ → Bool
says_nothing line = is_empty (plain_word line) || is_heading line

-- ---- the words of the others: a number, which may be missing, a name, a kind, a width and, of a number, decimals

-- the letter of the kind that a word names, in any case
abbrev pub kind_named : List ℕ → Option ℕ
kind_named word =
    if str_eq_ignore_ascii_case word (codes "Character") then Some CHARACTER else
    (if str_eq_ignore_ascii_case word (codes "Number") then Some NUMBER else
    (if str_eq_ignore_ascii_case word (codes "Logical") then Some LOGICAL else
    (if str_eq_ignore_ascii_case word (codes "Date") then Some DATE else
    (if str_eq_ignore_ascii_case word (codes "Memo") then Some MEMO else None))))

-- a number, where it is at most 255
abbrev pub small_one : Option ℕ → Option ℕ
small_one None = None
small_one (Some n) = if nat_le n 255 then Some n else None

-- the number up to 255 that a word is
abbrev pub byte_in : List ℕ → Option ℕ
byte_in word = small_one (count_in word)

-- the kind is that of numbers
abbrev pub has_decimals : Option ℕ → Bool
has_decimals None = false
has_decimals (Some kind) = kind == NUMBER

-- the decimals that a word tells: 0 of other kinds than numbers, and where there is no word
abbrev pub decimals_in : Option ℕ → List ℕ → Option ℕ
decimals_in kind word = if has_decimals kind && not (is_empty word) then byte_in word else Some 0

-- the word that is too many after a width, and nothing where there is none
abbrev pub extra_word : Option ℕ → List ℕ → List ℕ
extra_word kind rest = if has_decimals kind then second_plain_word rest else plain_word rest

-- what stands after the number
abbrev pub after_number : List ℕ → List ℕ
after_number line = if is_some (count_in (plain_word line)) then after_plain_word line else line

-- what stands after the width
abbrev pub after_width : List ℕ → List ℕ
after_width line = after_plain_word (after_plain_word (after_plain_word (after_number line)))

-- the name of the field, in a field's line
abbrev pub line_name : List ℕ → List ℕ
line_name line = plain_word (after_number line)

-- the kind of the field, in a field's line
abbrev pub line_kind : List ℕ → Option ℕ
line_kind line = kind_named (second_plain_word (after_number line))

-- the width of the field, in a field's line
abbrev pub line_width : List ℕ → Option ℕ
line_width line = byte_in (third_plain_word (after_number line))

-- the decimals of the field, in a field's line
abbrev pub line_decimals : List ℕ → Option ℕ
line_decimals line = decimals_in (line_kind line) (plain_word (after_width line))

-- the word that is too many, in a field's line
abbrev pub line_extra : List ℕ → List ℕ
line_extra line = extra_word (line_kind line) (after_width line)

-- ---- the field, or why there is none

-- the first fault of the parts of a line, from left to right
abbrev pub parts_fault : Option ℕ → Option ℕ → Option ℕ → List ℕ → Option FieldLineFault
parts_fault kind width decimals extra = first_fault (
    (is_some kind, NoKind)
    ∷ (is_some width, NoWidth)
    ∷ (is_some decimals, NoDecimals)
    ∷ (is_empty extra, WordTooMany)
    ∷ [])

-- the first fault of a line's parts, from left to right
abbrev pub line_fault : List ℕ → Option FieldLineFault
line_fault line = parts_fault (line_kind line) (line_width line) (line_decimals line) (line_extra line)

-- the field of a line without a fault
abbrev pub line_field : List ℕ → Field
line_field line = record {
  name = line_name line;
  kind = unwrap_or (line_kind line) 0;
  width = unwrap_or (line_width line) 0;
  decimals = unwrap_or (line_decimals line) 0;
}
