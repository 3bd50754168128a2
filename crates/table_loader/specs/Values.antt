-- The cell of a field that a text of CSV says, or why it says none.
use Rattle.std.specs.Prelude.{◌≡◌, ℕ, ◌-◌, Bool, true, false, not, ◌&&◌, ◌||◌, ◌==◌, nat_lt, bytes_eq, codes, List, [], length, replicate, Option, Some, None, Result, Ok, Err, ℤ, if◌then◌else◌}
use Rattle.std.specs.Str.{str_eq_ignore_ascii_case}
use Rattle.dbf_fields.specs.declared.field.Field.{Field}
use Rattle.dbf_fields.specs.declared.format.TheConstants.{BLANK, CHARACTER, DATE, LOGICAL, MAX_NUMBER_WIDTH, MEMO, NUMBER}
use Rattle.dbf_fields.specs.Date.{is_date}
use Rattle.dbf_fields.specs.Logical.{truth_text}
use Rattle.dbf_fields.specs.Number.{number, trimmed}
use Rattle.dbf_fields.specs.NumberText.{number_cell}
use Rattle.dbf_fields.specs.Padding.{padded}
use Rattle.dbf_image.specs.Table.{is_memo_text}
use Rattle.table_text.specs.Shown.{trimmed_end}
use Rattle.table_loader.specs.declared.fault.ValueFault.{ValueFault}
use Rattle.table_loader.specs.declared.fault.ValueFault.TheVariants.{BadDate, BadText, NumberTooWide, TextTooWide, TypeMismatch}
use Rattle.table_loader.specs.declared.form.CsvForm.{CsvForm}
use Rattle.table_loader.specs.declared.form.DateForm.{DateForm}
use Rattle.table_loader.specs.declared.value.PutFault.{PutFault}
use Rattle.table_loader.specs.declared.value.PutFault.TheVariants as putting
use Rattle.table_loader.specs.Dates.{date_digits}

-- a memo is the whole text
abbrev pub memo_value : List ℕ → Result (List ℕ) ValueFault
memo_value text = if is_memo_text text then Ok text else Err BadText

-- a text before blanks, of which those at its own end don't count; one that is too wide is cut only where that is allowed
abbrev pub text_value : Bool → ℕ → List ℕ → Result (List ℕ) ValueFault
text_value cut width text = if not cut && nat_lt width (length (trimmed_end text)) then Err TextTooWide else Ok (padded width text)

-- the cell of a number, where there is one that keeps it, of a number that a text is, where it is one
abbrev pub kept_number : Field → Option ℤ → Option (List ℕ)
kept_number f None = None
kept_number f (Some n) = number_cell f.width f.decimals n f.decimals

-- the cell of a number, or why there is none: the text is a number all the same, or it is none
abbrev pub cell_or_fault : Option (List ℕ) → Option ℤ → Result (List ℕ) ValueFault
cell_or_fault (Some cell) any_number = Ok cell
cell_or_fault None (Some n) = Err NumberTooWide
cell_or_fault None None = Err TypeMismatch

-- a number with the field's decimals at the right; no cell of a number has more bytes than `MAX_NUMBER_WIDTH`
unfoldable pub number_value : Field → List ℕ → Result (List ℕ) ValueFault
number_value f text =
    if nat_lt MAX_NUMBER_WIDTH (length text) then Err NumberTooWide
    else cell_or_fault (kept_number f (number text f.decimals)) (number text (MAX_NUMBER_WIDTH - 1))

-- the words for true, and those for false, in any letters
abbrev pub is_true_word : List ℕ → Bool
is_true_word text =
    ((str_eq_ignore_ascii_case text (codes "T") || str_eq_ignore_ascii_case text (codes "Y")) || str_eq_ignore_ascii_case text (codes "TRUE"))
    || str_eq_ignore_ascii_case text (codes "YES")

abbrev pub is_false_word : List ℕ → Bool
is_false_word text =
    ((str_eq_ignore_ascii_case text (codes "F") || str_eq_ignore_ascii_case text (codes "N")) || str_eq_ignore_ascii_case text (codes "FALSE"))
    || str_eq_ignore_ascii_case text (codes "NO")

-- the logical value that a text is
abbrev pub truth_said : List ℕ → Option Bool
truth_said text = if is_true_word text then Some true else (if is_false_word text then Some false else None)

-- the cell of a logical value
abbrev pub truth_cell : ℕ → Option Bool → Result (List ℕ) ValueFault
truth_cell width None = Err TypeMismatch
truth_cell width (Some truth) = Ok (padded width (truth_text truth))

-- the cell of a logical value that a text says
abbrev pub truth_value : ℕ → List ℕ → Result (List ℕ) ValueFault
truth_value width text = truth_cell width (truth_said text)

-- eight digits that are a date of the calendar
abbrev pub date_cell : Option (List ℕ) → Result (List ℕ) ValueFault
date_cell None = Err BadDate
date_cell (Some digits) = if is_date digits then Ok digits else Err BadDate

-- a date that is written in the form
abbrev pub date_value : DateForm → List ℕ → Result (List ℕ) ValueFault
date_value form text = date_cell (date_digits form text)

-- What of a text says a value: blanks around a number, a logical value or a date say nothing, and neither does `?` of a logical value.
abbrev pub said_of : Field → List ℕ → List ℕ
said_of f text =
    if f.kind == CHARACTER then text else
    (if (f.kind == LOGICAL) && bytes_eq (trimmed text) (codes "?") then [] else trimmed text)

-- the cell of what is said; nothing is a blank cell
abbrev pub cell_value : CsvForm → Field → List ℕ → Result (List ℕ) ValueFault
cell_value form f said =
    if length said == 0 then Ok (replicate f.width BLANK) else
    (if f.kind == CHARACTER then text_value form.cut f.width said else
    (if f.kind == NUMBER then number_value f said else
    (if f.kind == LOGICAL then truth_value f.width said else
    (if f.kind == DATE then date_value form.dates said else
    Err TypeMismatch))))

-- the memo or the cell of a field that a text says
unfoldable pub value_of : CsvForm → Field → List ℕ → Result (List ℕ) ValueFault
value_of form f text = if f.kind == MEMO then memo_value text else cell_value form f (said_of f text)

-- a text says no value
abbrev pub is_refusal : Result (List ℕ) ValueFault → Bool
is_refusal (Ok cell) = false
is_refusal (Err why) = true

-- a fault is that of the value, and want of memory comes only where the value has none
abbrev pub IsPutFault : PutFault → Result (List ℕ) ValueFault → Type 0
IsPutFault (putting.Value why) said = said ≡ Err why
IsPutFault putting.NoMemory (Ok cell) = Unit {0}
IsPutFault putting.NoMemory (Err why) = ⊥
