-- Which tables come back whole from their CSV: those whose cells mean something.
use Rattle.std.specs.Prelude.{◌≡◌, ◌⊎◌, ℕ, ◌-◌, ◌^◌, Bool, true, List, [], ◌∷◌, Some, None}
use Rattle.std.specs.List.{AllByRecursion}
use Rattle.dbf_fields.specs.declared.field.Field.{Field}
use Rattle.dbf_fields.specs.declared.format.TheConstants.{DATE, LOGICAL, NUMBER}
use Rattle.dbf_fields.specs.Date.{is_date}
use Rattle.dbf_fields.specs.Logical.{truth_text}
use Rattle.dbf_fields.specs.Number.{number, trimmed}
use Rattle.dbf_image.specs.Table.{Table}
use Rattle.table_text.specs.declared.selection.Selection.{Selection}
use Rattle.table_text.specs.Csv.{csv_text}
use Rattle.table_text.specs.Shown.{trimmed_end}
use Rattle.table_loader.specs.declared.form.CsvForm.{CsvForm}
use Rattle.table_loader.specs.declared.form.DateForm.TheVariants.{Digits}
use Rattle.table_loader.specs.declared.form.Separator.TheVariants.{Comma}
use Rattle.table_loader.specs.Values.{kept_number}

-- the cell is blank, or it is the one in which REPLACE keeps the number that it has
abbrev pub IsNumberCell : Field → List ℕ → Type 0
IsNumberCell f cell = (trimmed cell ≡ []) ⊎ (kept_number f (number cell f.decimals) ≡ Some cell)

-- the cell is blank, or `T` or `F`
abbrev pub IsTruthCell : List ℕ → Type 0
IsTruthCell cell = (trimmed_end cell ≡ []) ⊎ ((truth : Bool) × (cell ≡ truth_text truth))

-- the cell is blank, or a date of the calendar
abbrev pub IsDayCell : List ℕ → Type 0
IsDayCell cell = (trimmed_end cell ≡ []) ⊎ (is_date cell ≡ true)

-- a cell of a number, a logical value or a date means one; any text and any memo do
pub record HasMeaning (f : Field) (cell : List ℕ) : Type 0 where
  pub as_number : f.kind ≡ NUMBER → IsNumberCell f cell
  pub as_truth : f.kind ≡ LOGICAL → IsTruthCell cell
  pub as_date : f.kind ≡ DATE → IsDayCell cell

-- the same of all cells of a record
abbrev pub HaveMeaning : List Field → List (List ℕ) → Type 0
HaveMeaning [] cells = Unit {0}
HaveMeaning (f ∷ fs) [] = Unit {0}
HaveMeaning (f ∷ fs) (c ∷ cs) = HasMeaning f c × HaveMeaning fs cs

-- and of a table
abbrev pub ComesBack : Table → Type 0
ComesBack table = AllByRecursion (λ row. HaveMeaning table.schema row.cells) table.rows

-- a text is read in the form in which a table is printed
pub record IsPrintedForm (form : CsvForm) : Type 0 where
  pub separator : form.separator ≡ Comma
  pub dates : form.dates ≡ Digits

-- all records, marked ones too
abbrev pub all_records : Selection
all_records = record { first = 1; last = 2 ^ 32 - 1; with_deleted = true }

-- what is printed of a table as CSV, with all its records and their marks
abbrev pub whole_csv : Table → List ℕ
whole_csv table = csv_text table None all_records true
