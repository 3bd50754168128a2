-- What a field's cell keeps of a value, and that reading the cell gives the value again.
use Rattle.std.specs.Prelude.{◌≡◌, ◌⊎◌, ℕ, ℤ, ◌==◌, List, [], Option, Some, None, Result, Ok, Err, if◌then◌else◌}
use Rattle.dbf_fields.specs.declared.field.Field.{Field}
use Rattle.dbf_fields.specs.declared.format.TheConstants.{CHARACTER, NUMBER, LOGICAL, DATE}
use Rattle.dbf_fields.specs.declared.literal.Literal.{Literal}
use Rattle.dbf_fields.specs.declared.literal.Literal.TheVariants.{Text, Number, Truth, Date, BlankDate, BadDate as NoDate}
use Rattle.dbf_fields.specs.declared.cell.CellFault.{CellFault}
use Rattle.dbf_fields.specs.declared.cell.CellFault.TheVariants.{TypeMismatch, BadDate, NumberTooWide, NoMemory}
use Rattle.dbf_fields.specs.Padding.{padded}
use Rattle.dbf_fields.specs.Number.{number}
use Rattle.dbf_fields.specs.NumberText.{number_cell, IsSameNumber}
use Rattle.dbf_fields.specs.Logical.{truth, truth_text}
use Rattle.dbf_fields.specs.Date.{blank_date, date_text, SaysDay}

-- a cell, or the fault that a number has none
abbrev pub number_or_fault : Option (List ℕ) → Result (List ℕ) CellFault
number_or_fault (Some cell) = Ok cell
number_or_fault None = Err NumberTooWide

-- a number isn't stored for want of memory, or since no cell of that width and number of decimals keeps it
abbrev pub IsNumberRefusal : CellFault → ℕ → ℕ → ℤ → ℕ → Type 0
IsNumberRefusal fault width decimals digits scale = (fault ≡ NoMemory) ⊎ ((fault ≡ NumberTooWide) × (number_cell width decimals digits scale ≡ None))

-- The cell that keeps a value, or why there is none, by the field's kind. A field of a memo keeps none.
abbrev pub stored : Field → Literal → Result (List ℕ) CellFault
stored field (Text text) = if field.kind == CHARACTER then Ok (padded field.width text) else Err TypeMismatch
stored field (Number digits scale) = if field.kind == NUMBER then number_or_fault (number_cell field.width field.decimals digits scale) else Err TypeMismatch
stored field (Truth truth) = if field.kind == LOGICAL then Ok (padded field.width (truth_text truth)) else Err TypeMismatch
stored field (Date day) = if field.kind == DATE then Ok (padded field.width (date_text day.year day.month day.day)) else Err TypeMismatch
stored field BlankDate = if field.kind == DATE then Ok (padded field.width []) else Err TypeMismatch
stored field NoDate = if field.kind == DATE then Err BadDate else Err TypeMismatch

-- a number's cell has that number
abbrev pub IsNumberAgain : Field → Literal → List ℕ → Type 0
IsNumberAgain field (Number digits scale) cell = IsSameNumber (number cell field.decimals) field.decimals digits scale
IsNumberAgain field other cell = Unit {0}

-- a logical value's cell has that value
abbrev pub IsTruthAgain : Literal → List ℕ → Type 0
IsTruthAgain (Truth value) cell = truth cell ≡ value
IsTruthAgain other cell = Unit {0}

-- a date's cell has that date, and that of the blank date is blank
abbrev pub IsDateAgain : Literal → List ℕ → Type 0
IsDateAgain (Date day) cell = SaysDay cell day
IsDateAgain BlankDate cell = cell ≡ blank_date
IsDateAgain other cell = Unit {0}
