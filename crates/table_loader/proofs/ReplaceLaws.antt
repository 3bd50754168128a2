-- A cell that a text says is the one that REPLACE keeps of the value that the text is.
use Rattle.std.proofs.Common.{◌≡◌, ◌≢◌, ◌+◌, ◌-◌, ◌*◌, ◌<◌, ◌/◌, ◌%◌, ◌∷◌, ◌++◌, ◌∙◌, [], ℕ, List, Bool, true, not, Option, Some, None, refl, sym, ap, arith, inl, inr, zero, suc, length, take, drop, replicate, get_or, ℤ}
use Rattle.std.specs.Prelude.{Ok, Result, nat_lt, ◌&&◌}
use Rattle.std.specs.List.{list_all}
use Rattle.std.specs.Char.{is_ascii_digit}
use Rattle.std.proofs.lemmas.Bool.{and_parts, cases_Bool, eqb-true, ne_eqb}
use Rattle.std.proofs.lemmas.List.{drop-drop, length-drop, length-replicate, length-take-le, take-append-drop, take_all, take_more}
use Rattle.dbf_fields.specs.declared.day.Day.{Day}
use Rattle.dbf_fields.specs.declared.field.Field.{Field}
use Rattle.dbf_fields.specs.declared.format.TheConstants.{BLANK, CHARACTER, DATE, LOGICAL, MAX_NUMBER_WIDTH, NUMBER}
use Rattle.dbf_fields.specs.declared.literal.Literal.TheVariants.{Text, Number, Truth, Date}
use Rattle.dbf_fields.specs.Cell.{stored}
use Rattle.dbf_fields.specs.Date.{date_text, day_in, is_date, month_in, year_in, SaysDay}
use Rattle.dbf_fields.specs.Day.{IsDay}
use Rattle.dbf_fields.specs.Digits.{digits_after, last_digits}
use Rattle.dbf_fields.specs.Field.{has_width}
use Rattle.dbf_fields.specs.Logical.{truth_text}
use Rattle.dbf_fields.specs.Number.{number, trimmed}
use Rattle.dbf_fields.specs.NumberText.{number_cell}
use Rattle.dbf_fields.specs.Padding.{padded}
use Rattle.dbf_fields.proofs.DateLaws.{day_tests, text_fills}
use Rattle.dbf_fields.proofs.Digits.{digit_at, digit_more, digits_take}
use Rattle.table_loader.specs.declared.form.CsvForm.{CsvForm}
use Rattle.table_loader.specs.declared.fault.ValueFault.{ValueFault}
use Rattle.table_loader.specs.Values.{cell_or_fault, date_cell, date_value, kept_number, number_value, said_of, text_value, truth_cell, truth_said, truth_value, value_of}
use Rattle.table_loader.specs.Dates.{date_digits}
use Rattle.table_text.specs.Shown.{trimmed_end}
use Rattle.table_loader.proofs.ValuesBack.{blank_or, number_again}

-- ---- what is said of a text that is there

text_there : (width : ℕ) (text : List ℕ) (said : Result (List ℕ) ValueFault) → text ≢ [] → blank_or width text said ≡ said
text_there width [] said there = absurd (there refl)
text_there width (b ∷ bs) said there = rw (ne_eqb (length (b ∷ bs)) 0 (λ e. omega (arith, e))) refl

value_text : (form : CsvForm) (f : Field) (text : List ℕ) → f.kind ≡ CHARACTER → value_of form f text ≡ blank_or f.width text (text_value form.cut f.width text)
unfolding value_of
value_text form f text kind = rw kind refl

value_number : (form : CsvForm) (f : Field) (text : List ℕ) → f.kind ≡ NUMBER → value_of form f text ≡ blank_or f.width (said_of f text) (number_value f (said_of f text))
unfolding value_of number_value
value_number form f text kind = rw kind refl

value_truth : (form : CsvForm) (f : Field) (text : List ℕ) → f.kind ≡ LOGICAL → value_of form f text ≡ blank_or f.width (said_of f text) (truth_value f.width (said_of f text))
unfolding value_of
value_truth form f text kind = rw kind refl

value_date : (form : CsvForm) (f : Field) (text : List ℕ) → f.kind ≡ DATE → value_of form f text ≡ blank_or f.width (said_of f text) (date_value form.dates (said_of f text))
unfolding value_of
value_date form f text kind = rw kind refl

-- ---- texts

text_said : (cut : Bool) (width : ℕ) (text cell : List ℕ) → text_value cut width text ≡ Ok cell → padded width text ≡ cell
text_said cut width text cell said = elim (cases_Bool (not cut && nat_lt width (length (trimmed_end text)))) [
  | inl wide ↦ absurd (cc (rw wide at said))
  | inr fits ↦ cc (rw fits at said)
]

blank_said : (width : ℕ) (cell : List ℕ) (said : Result (List ℕ) ValueFault) → blank_or width [] said ≡ Ok cell → padded width [] ≡ cell
blank_said width cell said is =
    let blank : replicate width BLANK ≡ cell = cc in
    take_all width (replicate width BLANK) (omega (arith, length-replicate {A = ℕ} width BLANK)) ∙ blank

text_or_blank : (cut : Bool) (width : ℕ) (text cell : List ℕ) → blank_or width text (text_value cut width text) ≡ Ok cell → padded width text ≡ cell
text_or_blank cut width [] cell said = blank_said width cell (text_value cut width []) said
text_or_blank cut width (b ∷ bs) cell said =
    text_said cut width (b ∷ bs) cell (sym (text_there width (b ∷ bs) (text_value cut width (b ∷ bs)) (λ e. cc)) ∙ said)

pub text_kept : (form : CsvForm) (f : Field) (text cell : List ℕ) → f.kind ≡ CHARACTER → value_of form f text ≡ Ok cell → stored f (Text text) ≡ Ok cell
text_kept form f text cell kind said =
    let same = text_or_blank form.cut f.width text cell (sym (value_text form f text kind) ∙ said) in
    rw kind (ap Ok same)

-- ---- numbers

cell_there : (kept : Option (List ℕ)) (any : Option ℤ) (cell : List ℕ) → cell_or_fault kept any ≡ Ok cell → kept ≡ Some cell
cell_there (Some x) any cell said = cc
cell_there None (Some n) cell said = absurd cc
cell_there None None cell said = absurd cc

number_there : (f : Field) (read any : Option ℤ) (cell : List ℕ) → kept_number f read ≡ Some cell
    → (n : ℤ) × (read ≡ Some n) × (number_cell f.width f.decimals n f.decimals ≡ Some cell)
number_there f None any cell kept = absurd cc
number_there f (Some n) any cell kept = (n, refl, kept)

number_said : (f : Field) (text cell : List ℕ) → number_value f text ≡ Ok cell
    → (n : ℤ) × (number text f.decimals ≡ Some n) × (number_cell f.width f.decimals n f.decimals ≡ Some cell)
unfolding number_value
number_said f text cell said = elim (cases_Bool (nat_lt MAX_NUMBER_WIDTH (length text))) [
  | inl wide ↦ absurd (cc (rw wide at said))
  | inr fits ↦
      let any = number text (MAX_NUMBER_WIDTH - 1) in
      number_there f (number text f.decimals) any cell (cell_there (kept_number f (number text f.decimals)) any cell (rw fits at said))
]

stored_number : (f : Field) (n : ℤ) (cell : List ℕ) → f.kind ≡ NUMBER → number_cell f.width f.decimals n f.decimals ≡ Some cell → stored f (Number n f.decimals) ≡ Ok cell
stored_number f n cell kind kept = rw (kind, kept) refl

said_number : (f : Field) (text : List ℕ) → f.kind ≡ NUMBER → said_of f text ≡ trimmed text
said_number f text kind = rw kind refl

pub number_kept : (form : CsvForm) (f : Field) (text cell : List ℕ) → f.kind ≡ NUMBER → said_of f text ≢ [] → value_of form f text ≡ Ok cell
    → (n : ℤ) × (number text f.decimals ≡ Some n) × (stored f (Number n f.decimals) ≡ Ok cell)
number_kept form f text cell kind there said =
    let trimmed_so = said_of f text in
    let (n, is, kept) = number_said f trimmed_so cell (sym (text_there f.width trimmed_so (number_value f trimmed_so) there) ∙ (sym (value_number form f text kind) ∙ said)) in
    let same : number text f.decimals ≡ number trimmed_so f.decimals =
    sym (number_again text f.decimals) ∙ ap (λ (t : List ℕ). number t f.decimals) (sym (said_number f text kind)) in
    (n, same ∙ is, stored_number f n cell kind kept)

-- ---- logical values

truth_there : (width : ℕ) (read : Option Bool) (cell : List ℕ) → truth_cell width read ≡ Ok cell → (truth : Bool) × (read ≡ Some truth) × (padded width (truth_text truth) ≡ cell)
truth_there width None cell said = absurd cc
truth_there width (Some truth) cell said = (truth, refl, cc)

stored_truth : (f : Field) (truth : Bool) (cell : List ℕ) → f.kind ≡ LOGICAL → padded f.width (truth_text truth) ≡ cell → stored f (Truth truth) ≡ Ok cell
stored_truth f truth cell kind same = rw kind (ap Ok same)

pub truth_kept : (form : CsvForm) (f : Field) (text cell : List ℕ) → f.kind ≡ LOGICAL → said_of f text ≢ [] → value_of form f text ≡ Ok cell
    → (truth : Bool) × (truth_said (said_of f text) ≡ Some truth) × (stored f (Truth truth) ≡ Ok cell)
truth_kept form f text cell kind there said =
    let word = said_of f text in
    let (truth, is, same) = truth_there f.width (truth_said word) cell (sym (text_there f.width word (truth_value f.width word) there) ∙ (sym (value_truth form f text kind) ∙ said)) in
    (truth, is, stored_truth f truth cell kind same)

-- ---- dates

-- digits are the last digits of the number that they are
digits_again : (k : ℕ) (ds : List ℕ) → length ds ≡ k → list_all is_ascii_digit ds ≡ true → last_digits k (digits_after 0 ds) ≡ ds
digits_again zero [] long digits = refl
digits_again zero (d ∷ ds) long digits = absurd (omega (arith, long))
digits_again (suc k) ds long digits =
    let inside : k < length ds = omega (arith, long) in
    let front = take k ds in
    let d = get_or ds k 0 in
    let one : k + 1 ≡ length ds = omega (arith, long) in
    let whole : take (k + 1) ds ≡ ds = take_all (k + 1) ds (omega (arith, one)) in
    let split : front ++ d ∷ [] ≡ ds = sym (take_more ds k 0 inside) ∙ whole in
    let value : digits_after 0 ds ≡ digits_after 0 front * 10 + (d - 48) = ap (digits_after 0) (sym whole) ∙ digit_more 0 ds k inside in
    let bounds = digit_at ds digits k inside in
    let rest : digits_after 0 ds / 10 ≡ digits_after 0 front = omega (arith, value, bounds.0, bounds.1) in
    let last : 48 + digits_after 0 ds % 10 ≡ d = omega (arith, value, bounds.0, bounds.1) in
    let again = digits_again k front (length-take-le k ds (omega (arith, long))) (digits_take k ds digits) in
    rw (rest, last, again) split

digits_drop : (k : ℕ) (ds : List ℕ) → list_all is_ascii_digit ds ≡ true → list_all is_ascii_digit (drop k ds) ≡ true
digits_drop zero ds digits = digits
digits_drop (suc k) [] digits = refl
digits_drop (suc k) (d ∷ ds) digits = digits_drop k ds (and_parts (is_ascii_digit d) (list_all is_ascii_digit ds) digits).1

date_again : (text : List ℕ) → is_date text ≡ true → date_text (year_in text) (month_in text) (day_in text) ≡ text
unfolding is_date date_text
date_again text real =
    let parts = and_parts _ _ real in
    let long : length text ≡ 8 = eqb-true _ _ parts.0 in
    let digits = (and_parts _ _ parts.1).0 in
    let later : list_all is_ascii_digit (drop 4 text) ≡ true = digits_drop 4 text digits in
    let year = digits_again 4 (take 4 text) (length-take-le 4 text (omega (arith, long))) (digits_take 4 text digits) in
    let month = digits_again 2 (take 2 (drop 4 text)) (length-take-le 2 (drop 4 text) (omega (arith, length-drop 4 text, long))) (digits_take 2 (drop 4 text) later) in
    let day = digits_again 2 (take 2 (drop 6 text)) (length-take-le 2 (drop 6 text) (omega (arith, length-drop 6 text, long))) (digits_take 2 (drop 6 text) (digits_drop 6 text digits)) in
    let end : take 2 (drop 6 text) ≡ drop 2 (drop 4 text) = take_all 2 (drop 6 text) (omega (arith, length-drop 6 text, long)) ∙ sym (drop-drop 2 4 text) in
    ap (λ (x : List ℕ). x ++ (last_digits 2 (month_in text) ++ last_digits 2 (day_in text))) year
    ∙ ap (λ (x : List ℕ). take 4 text ++ (x ++ last_digits 2 (day_in text))) month
    ∙ ap (λ (x : List ℕ). take 4 text ++ (take 2 (drop 4 text) ++ x)) (day ∙ end)
    ∙ ap (λ (x : List ℕ). take 4 text ++ x) (take-append-drop 2 (drop 4 text))
    ∙ take-append-drop 4 text

real_day : (text : List ℕ) → is_date text ≡ true → IsDay (year_in text) (month_in text) (day_in text)
unfolding is_date
real_day text real = (day_tests (year_in text) (month_in text) (day_in text)).0 (and_parts _ _ (and_parts _ _ real).1).1

abbrev day_of_text : (text : List ℕ) → is_date text ≡ true → Day
day_of_text text real = record {
  year = year_in text;
  month = month_in text;
  day = day_in text;
  real = real_day text real;
}

date_there : (read : Option (List ℕ)) (cell : List ℕ) → date_cell read ≡ Ok cell → (read ≡ Some cell) × (is_date cell ≡ true)
date_there None cell said = absurd cc
date_there (Some digits) cell said = elim (cases_Bool (is_date digits)) [
  | inl real ↦ let same : digits ≡ cell = cc (rw real at said) in (ap Some same, ap is_date (sym same) ∙ real)
  | inr none ↦ absurd (cc (rw none at said))
]

pub date_kept : (form : CsvForm) (f : Field) (text cell : List ℕ) → f.kind ≡ DATE → has_width f ≡ true → said_of f text ≢ [] → value_of form f text ≡ Ok cell
    → (day : Day) × (digits : List ℕ) × (date_digits form.dates (said_of f text) ≡ Some digits) × SaysDay digits day × (stored f (Date day) ≡ Ok cell)
date_kept form f text cell kind wide there said =
    let date = said_of f text in
    let here : date_value form.dates date ≡ Ok cell = sym (text_there f.width date (date_value form.dates date) there) ∙ (sym (value_date form f text kind) ∙ said) in
    let (is, real) = date_there (date_digits form.dates date) cell here in
    let day = day_of_text cell real in
    let fills = text_fills f (year_in cell) (month_in cell) (day_in cell) kind wide ∙ date_again cell real in
    (day, cell, is, record { real = real; year = refl; month = refl; day_of_month = refl }, rw kind (ap Ok fills))
