-- Dates and their tests.
use Rattle.std.proofs.Common.{◌≡◌, ◌≢◌, ℕ, ◌+◌, ◌/◌, ◌^◌, ◌<◌, ◌≤◌, true, false, List, [], ◌∷◌, ◌++◌, ℤ, pos, length, drop, get_or, refl, ap, ◌∙◌, arith}
use Rattle.std.specs.Prelude.{bytes_eq}
use Rattle.std.specs.List.{list_all}
use Rattle.std.specs.Char.{is_ascii_digit}
use Rattle.std.proofs.lemmas.Bool.Decides.{nat_tests}
use Rattle.std.proofs.lemmas.Bool.{false≢true, eqb-true}
use Rattle.std.proofs.Math.Nat.{div-eq_of_lt}
use Rattle.std.proofs.lemmas.List.{drop_more, drop_all}
use Rattle.std.proofs.lemmas.List.Folds.{list_all-append}
use Rattle.jiff.specs.Words.{days_in_month}
use Rattle.dbf_fields.specs.Day.{IsDay}
use Rattle.dbf_fields.specs.declared.day.Day.{Day}
use Rattle.dbf_fields.specs.declared.field.Field.{Field}
use Rattle.dbf_fields.specs.Field.{has_width}
use Rattle.dbf_fields.specs.Padding.{padded}
use Rattle.dbf_fields.specs.Digits.{digits_after, last_digits}
use Rattle.dbf_fields.specs.Date.{is_day, is_date, year_in, month_in, day_in, blank_date, date_text, date_shown, SaysDay}
use Rattle.dbf_fields.proofs.ReadBack.{last_digits_digits, number_of_last}

-- the test and the fact
pub day_tests : (y m d : ℕ) → (is_day y m d ≡ true → IsDay y m d) × (IsDay y m d → is_day y m d ≡ true)
unfolding is_day
day_tests y m d = (
  λ test. record { year_in = (grind (arith, nat_tests), grind (arith, nat_tests)); month_in = (grind (arith, nat_tests), grind (arith, nat_tests)); day_in = (grind (arith, nat_tests), grind (arith, nat_tests)) },
  λ day. grind (arith, nat_tests, day.year_in, day.month_in, day.day_in),
)

pub date_tests : (cell : List ℕ) → length cell ≡ 8 → list_all is_ascii_digit cell ≡ true → is_date cell ≡ is_day (year_in cell) (month_in cell) (day_in cell)
unfolding is_date
date_tests cell eight digits = rw (eight, digits) refl

pub not_blank : (cell other : List ℕ) → other ≡ blank_date → false ≡ bytes_eq cell other → cell ≢ blank_date
not_blank cell other is differs = λ (same : cell ≡ blank_date). false≢true (rw (is, same) at differs)

-- ---- a date that was written is read again

number_of_few : (k n : ℕ) → n < 10 ^ k → digits_after 0 (last_digits k n) ≡ n
number_of_few k n bounded =
    let none : n / 10 ^ k ≡ 0 = div-eq_of_lt bounded in
    rw none at (number_of_last k n)

text_digits : (y m d : ℕ) → list_all is_ascii_digit (date_text y m d) ≡ true
unfolding date_text
text_digits y m d =
    rw (list_all-append is_ascii_digit (last_digits 4 y) (last_digits 2 m ++ last_digits 2 d), list_all-append is_ascii_digit (last_digits 2 m) (last_digits 2 d), last_digits_digits 4 y, last_digits_digits 2 m, last_digits_digits 2 d) refl

month_days : (y : ℤ) (m : ℕ) → days_in_month y m ≤ 31
month_days y m = grind (arith, nat_tests)

pub same_day_again : (date : Day) → IsDay date.year date.month date.day → SaysDay (date_text date.year date.month date.day) date
unfolding date_text
same_day_again date real =
    let y = date.year in
    let m = date.month in
    let d = date.day in
    let count_bounded = month_days (pos y) m in
    let year : year_in (date_text y m d) ≡ y = number_of_few 4 y (omega (arith, real.year_in)) in
    let month : month_in (date_text y m d) ≡ m = number_of_few 2 m (omega (arith, real.month_in)) in
    let day : day_in (date_text y m d) ≡ d = number_of_few 2 d (omega (arith, real.day_in, count_bounded)) in
    record {
      real = rw (date_tests (date_text y m d) refl (text_digits y m d), year, month, day) ((day_tests y m d).1 real);
      year = year;
      month = month;
      day_of_month = day;
    }

-- a field of dates is as wide as they are
pub text_fills : (f : Field) (y m d : ℕ) → f.kind ≡ 68 → has_width f ≡ true → padded f.width (date_text y m d) ≡ date_text y m d
unfolding date_text
text_fills f y m d kind h = rw (eqb-true f.width 8 (rw kind at h)) refl

-- ---- a date's cell, part by part

length-date : (cell : List ℕ) → is_date cell ≡ true → length cell ≡ 8
unfolding is_date
length-date cell date = grind (arith, nat_tests)

two_at : (xs : List ℕ) (i : ℕ) → i + 2 ≤ length xs → drop i xs ≡ get_or xs i 0 ∷ get_or xs (i + 1) 0 ∷ drop (i + 1 + 1) xs
two_at xs i le = drop_more xs i 0 (omega arith) ∙ ap (λ (l : List ℕ). get_or xs i 0 ∷ l) (drop_more xs (i + 1) 0 (omega arith))

-- the month, the day and the last two digits of the year
pub shown_pieces : (cell : List ℕ) → is_date cell ≡ true
    → get_or cell 4 0 ∷ get_or cell 5 0 ∷ 47 ∷ get_or cell 6 0 ∷ get_or cell 7 0 ∷ 47 ∷ get_or cell 2 0 ∷ get_or cell 3 0 ∷ [] ≡ date_shown cell
shown_pieces cell date =
    let eight = length-date cell date in
    let none : drop 8 cell ≡ [] = drop_all 8 cell (omega arith) in
    let day : drop 6 cell ≡ get_or cell 6 0 ∷ get_or cell 7 0 ∷ [] = two_at cell 6 (omega arith) ∙ ap (λ (l : List ℕ). get_or cell 6 0 ∷ get_or cell 7 0 ∷ l) none in
    rw (date, two_at cell 4 (omega arith), two_at cell 2 (omega arith), day) refl
