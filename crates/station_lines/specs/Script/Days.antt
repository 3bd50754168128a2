-- The day of a date's cell.
use Rattle.std.specs.Prelude.{◌≡◌, ℕ, true, List, ◌==◌, length}
use Rattle.std.specs.List.{list_all}
use Rattle.std.specs.Char.{is_ascii_digit}
use Rattle.std.proofs.lemmas.Bool.{and_parts}
use Rattle.dbf_fields.specs.declared.format.TheConstants.{DATE_WIDTH}
use Rattle.dbf_fields.specs.Day.{IsDay}
use Rattle.dbf_fields.specs.Date.{is_date, year_in, month_in, day_in}
use Rattle.dbf_fields.proofs.DateLaws.{day_tests}

pub day_is : (cell : List ℕ) → is_date cell ≡ true → IsDay (year_in cell) (month_in cell) (day_in cell)
unfolding is_date
day_is cell is =
    let inside = (and_parts (length cell == DATE_WIDTH) _ is).1 in
    (day_tests (year_in cell) (month_in cell) (day_in cell)).0 (and_parts (list_all is_ascii_digit cell) _ inside).1
