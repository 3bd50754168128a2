-- The date that a cell stands for.
use Rattle.std.specs.Prelude.{◌≡◌, ◌≢◌, ℕ, Bool, false, true, ◌&&◌, ◌==◌, pos, List, ◌++◌, length, take, drop, replicate, bytes_eq, codes, if◌then◌else◌, ◌∷◌}
use Rattle.std.specs.List.{list_all}
use Rattle.std.specs.Char.{is_ascii_digit}
use Rattle.std.specs.Int.{is_in_range}
use Rattle.jiff.specs.Words.{days_in_month}
use Rattle.dbf_fields.specs.declared.day.Day.{Day}
use Rattle.dbf_fields.specs.declared.date.DateCell.{DateCell}
use Rattle.dbf_fields.specs.declared.date.DateCell.TheVariants.{Blank, Odd, Is}
use Rattle.dbf_fields.specs.Digits.{digits_after, last_digits}
use Rattle.dbf_fields.specs.declared.format.TheConstants.{BLANK, DATE_WIDTH, SLASH}

-- the numbers in the first four digits, the next two and the two after them
abbrev pub year_in : List ℕ → ℕ
year_in cell = digits_after 0 (take 4 cell)

abbrev pub month_in : List ℕ → ℕ
month_in cell = digits_after 0 (take 2 (drop 4 cell))

abbrev pub day_in : List ℕ → ℕ
day_in cell = digits_after 0 (take 2 (drop 6 cell))

-- a date of the calendar in the years 1 to 9999
unfoldable pub is_day : ℕ → ℕ → ℕ → Bool
is_day year month day = is_in_range 1 9999 year && (is_in_range 1 12 month && is_in_range 1 (days_in_month (pos year) month) day)

-- eight digits that are a date of the calendar
unfoldable pub is_date : List ℕ → Bool
is_date cell = (length cell == DATE_WIDTH) && (list_all is_ascii_digit cell && is_day (year_in cell) (month_in cell) (day_in cell))

-- eight blanks
abbrev pub blank_date : List ℕ
blank_date = replicate DATE_WIDTH BLANK

-- the eight digits that are written of a date: four of the year, two of the month and two of the day
unfoldable pub date_text : ℕ → ℕ → ℕ → List ℕ
date_text year month day = last_digits 4 year ++ (last_digits 2 month ++ last_digits 2 day)

-- the eight digits of the cell are the day
pub record SaysDay (cell : List ℕ) (day : Day) : Type 0 where
  pub real : is_date cell ≡ true
  pub year : year_in cell ≡ day.year
  pub month : month_in cell ≡ day.month
  pub day_of_month : day_in cell ≡ day.day

-- what a cell of a date says: eight blanks no day, eight digits that are a date that day, and every other cell neither
abbrev pub IsDateCell : List ℕ → DateCell → Type 0
IsDateCell cell Blank = cell ≡ blank_date
IsDateCell cell Odd = (cell ≢ blank_date) × (is_date cell ≡ false)
IsDateCell cell (Is day) = SaysDay cell day

-- a date's cell as it is shown: MM/DD/YY, or blanks or asterisks in place of the digits
abbrev pub date_shown : List ℕ → List ℕ
date_shown cell =
    if is_date cell then take 2 (drop 4 cell) ++ (SLASH ∷ (drop 6 cell ++ (SLASH ∷ take 2 (drop 2 cell))))
    else (if bytes_eq cell blank_date then codes "  /  /  " else codes "**/**/**")
