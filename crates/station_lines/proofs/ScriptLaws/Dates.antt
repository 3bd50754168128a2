-- Days and the cells that say them.
use Rattle.std.proofs.Common.{◌≡◌, ℕ, Bool, true, false, List, [], ap, refl, sym, ◌∙◌}
use Rattle.std.proofs.lemmas.Bool.{false≢true}
use Rattle.std.specs.Coded.{le_prop}
use mathlib.Core.HLevel.{is_prop→PathP}
use Rattle.dbf_fields.specs.declared.day.Day.{Day}
use Rattle.dbf_fields.specs.declared.literal.Literal.TheVariants.{Date, BadDate}
use Rattle.dbf_fields.specs.Day.{IsDay}
use Rattle.dbf_fields.specs.Date.{is_date, blank_date, SaysDay}
use Rattle.station_lines.specs.Script.Reading.{day_when, date_of, date_literal}
use Rattle.station_lines.specs.Script.Literals.{has_slashes, year_first}
use Rattle.std.specs.Prelude.{bytes_eq, codes}

-- days of the same year, month and day of the month are the same
pub same_day : (a b : Day) → a.year ≡ b.year → a.month ≡ b.month → a.day ≡ b.day → a ≡ b
same_day a b e f g = λ i. record {
  year = e i;
  month = f i;
  day = g i;
  real = is_prop→PathP (λ j. IsDay (e j) (f j) (g j)) (λ j. hlevel le_prop) a.real b.real i;
}

says : (cell : List ℕ) (day : Day) (b : Bool) (is : is_date cell ≡ b) → SaysDay cell day → day_when cell b is ≡ Date day
says cell day true is s = ap Date (same_day _ day s.year s.month s.day_of_month)
says cell day false is s = absurd (false≢true (sym is ∙ s.real))

-- the date of a cell that says a day is this day
pub date_said : (cell : List ℕ) (day : Day) → SaysDay cell day → date_of cell ≡ Date day
date_said cell day s = says cell day (is_date cell) refl s

no_day : (cell : List ℕ) (b : Bool) (is : is_date cell ≡ b) → is_date cell ≡ false → day_when cell b is ≡ BadDate
no_day cell true is e = absurd (false≢true (sym e ∙ is))
no_day cell false is e = refl

-- no bytes and blanks are no date
pub no_cell : BadDate ≡ date_of []
unfolding is_date
no_cell = refl

pub blank_cell : (cell : List ℕ) → cell ≡ blank_date → BadDate ≡ date_of cell
unfolding is_date
blank_cell cell e = rw e refl

pub bad_date : (cell : List ℕ) → is_date cell ≡ false → date_of cell ≡ BadDate
bad_date cell e = no_day cell (is_date cell) refl e

-- the date of a text that has the slashes
pub shown_cell : (text : List ℕ) → bytes_eq text (codes "  /  /  ") ≡ false → has_slashes text ≡ true → date_of (year_first text) ≡ date_literal text
shown_cell text differs slashes = rw (differs, slashes) refl
