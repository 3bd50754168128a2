-- The fields of a table as text.
use Rattle.std.specs.Prelude.{◌≡◌, ◌≤◌, ℕ, ◌+◌, ◌==◌, codes, Option, Some, None, if◌then◌else◌}
use Rattle.std.specs.Prelude.{List, [], ◌∷◌, ◌++◌, length, slice_index}
use Rattle.std.specs.Fmt.{decimal}
use Rattle.dbf_fields.specs.declared.day.Day.{Day}
use Rattle.dbf_fields.specs.declared.field.Field.{Field}
use Rattle.dbf_fields.specs.declared.format.TheConstants.{BLANK, CHARACTER, DATE, LOGICAL, NUMBER, SLASH}
use Rattle.dbf_fields.specs.Day.{IsDay}
use Rattle.dbf_fields.specs.Digits.{last_digits}
use Rattle.dbf_image.specs.Table.{Table}
use Rattle.table_text.specs.declared.format.TheConstants.{LF}
use Rattle.table_text.specs.declared.structure.TheConstants.{DECIMALS_COLUMN, FIRST_HEADER_YEAR, KIND_COLUMN, NAME_COLUMN, NUMBER_COLUMN, WIDTH_COLUMN}
use Rattle.table_text.specs.Columns.{aligned}

-- the second to the fourth byte tell a day of the calendar
abbrev pub TellsDay : List ℕ → Type 0
TellsDay bytes = IsDay (FIRST_HEADER_YEAR + slice_index bytes 1) (slice_index bytes 2) (slice_index bytes 3)

-- the date that a file's header tells in three bytes: the year less 1900, the month and the day of the month
pub record IsHeaderDate (bytes : List ℕ) (day : Day) : Type 0 where
  pub long : 4 ≤ length bytes
  pub year : FIRST_HEADER_YEAR + slice_index bytes 1 ≡ day.year
  pub month : slice_index bytes 2 ≡ day.month
  pub day_of_month : slice_index bytes 3 ≡ day.day

-- a date as MM/DD/YY, or that there is none
abbrev pub date_words : Option Day → List ℕ
date_words None = codes "no date"
date_words (Some day) = last_digits 2 day.month ++ (SLASH ∷ (last_digits 2 day.day ++ (SLASH ∷ last_digits 2 day.year)))

-- the word for a kind
abbrev pub kind_word : ℕ → List ℕ
kind_word kind =
    if kind == CHARACTER then codes "Character" else
    (if kind == NUMBER then codes "Number" else
    (if kind == LOGICAL then codes "Logical" else
    (if kind == DATE then codes "Date" else
    codes "Memo")))

-- only a number has decimals
abbrev pub decimals_part : Field → List ℕ
decimals_part f = if f.kind == NUMBER then BLANK ∷ aligned NUMBER DECIMALS_COLUMN (decimal f.decimals) else []

-- a field's number and its name, and the word for its kind, its width and its decimals
abbrev pub numbered_name : ℕ → Field → List ℕ
numbered_name number f = aligned NUMBER NUMBER_COLUMN (decimal number) ++ (BLANK ∷ aligned CHARACTER NAME_COLUMN f.name)

abbrev pub kind_and_width : Field → List ℕ
kind_and_width f =
    BLANK ∷ (aligned CHARACTER KIND_COLUMN (kind_word f.kind)
    ++ (BLANK ∷ (aligned NUMBER WIDTH_COLUMN (decimal f.width) ++ decimals_part f)))

-- a field's line
abbrev pub field_line : ℕ → Field → List ℕ
field_line number f = numbered_name number f ++ (kind_and_width f ++ LF ∷ [])

-- the lines of the fields, the first of which has this number
abbrev pub field_lines : ℕ → List Field → List ℕ
field_lines number [] = []
field_lines number (f ∷ fs) = field_line number f ++ field_lines (number + 1) fs

abbrev pub structure_heading : List ℕ
structure_heading = codes "Field Name       Kind      Width Decimals"

-- the line of the number of records
abbrev pub count_line : ℕ → List ℕ
count_line record_count = codes "Records: " ++ (decimal record_count ++ LF ∷ [])

-- the line of the date of the last change
abbrev pub date_line : Option Day → List ℕ
date_line date = codes "Last change: " ++ (date_words date ++ LF ∷ [])

-- what a table's fields are: the number of records, the date of the last change, headings, and the fields
abbrev pub fields_text : Table → Option Day → List ℕ
fields_text table date = count_line (length table.rows) ++ (date_line date ++ (structure_heading ++ (LF ∷ field_lines 1 table.schema)))
