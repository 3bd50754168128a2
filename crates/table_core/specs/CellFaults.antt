-- What becomes of a value that a field's cell can't keep.
use Rattle.std.specs.Prelude.{ℕ, Bool, true, false, List, Option, Some, None, Result, Ok, Err}
use Rattle.dbf_fields.specs.declared.cell.CellFault.{CellFault}
use Rattle.dbf_fields.specs.declared.cell.CellFault.TheVariants as cell
use Rattle.table_core.specs.declared.refusal.Refusal.{Refusal}
use Rattle.table_core.specs.declared.refusal.Refusal.TheVariants.{TypeMismatch, BadDate, NumberTooWide}
use Rattle.table_core.specs.declared.fault.TableFault.{TableFault}
use Rattle.table_core.specs.declared.fault.TableFault.TheVariants.{Refused, NoMemory}
use Rattle.table_core.specs.Outcomes.{found, granted}

-- the fault of an edit by that of its cell: want of memory is no refusal
abbrev pub fault_of : CellFault → TableFault
fault_of cell.TypeMismatch = Refused TypeMismatch
fault_of cell.BadDate = Refused BadDate
fault_of cell.NumberTooWide = Refused NumberTooWide
fault_of cell.NoMemory = NoMemory

-- a value is of the field's type, as far as its cell or the want of one tells
abbrev pub is_of_type : Result (List ℕ) CellFault → Bool
is_of_type (Err cell.TypeMismatch) = false
is_of_type _ = true

-- a value is not the text that was to be a date and is none
abbrev pub is_no_bad_date : Result (List ℕ) CellFault → Bool
is_no_bad_date (Err cell.BadDate) = false
is_no_bad_date _ = true

-- the cell, where there is one
abbrev pub cell_of : Result (List ℕ) CellFault → Option (List ℕ)
cell_of (Ok bytes) = Some bytes
cell_of (Err _) = None

-- the cell of a value, or the refusal of a value that no cell of the field keeps
abbrev pub kept : {Y : Type 0} → Result (List ℕ) CellFault → (List ℕ → Result Y Refusal) → Result Y Refusal
kept cell act =
    granted (is_of_type cell) TypeMismatch (
    granted (is_no_bad_date cell) BadDate (
    found (cell_of cell) NumberTooWide act))
