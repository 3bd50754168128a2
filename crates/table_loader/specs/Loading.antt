-- What a text of CSV makes of a table: a record more for each line after the heading, or the first fault.
use Rattle.std.specs.Prelude.{◌≡◌, ◌⊎◌, ℕ, ◌+◌, Bool, true, false, nat_lt, ◌==◌, bytes_eq, codes, List, [], ◌∷◌, length, map, Option, Some, None, Result, Ok, Err, if◌then◌else◌}
use Rattle.dbf_fields.specs.declared.field.Field.{Field}
use Rattle.dbf_fields.specs.Faults.{first_fault}
use Rattle.dbf_image.specs.declared.format.TheConstants.{MAX_RECORDS}
use Rattle.dbf_image.specs.Table.{Row, Table, blank_row, row_marked, row_with_cell, with_cell, with_row}
use Rattle.table_loader.specs.declared.fault.CsvFault.{CsvFault}
use Rattle.table_loader.specs.declared.fault.CsvFault.TheVariants.{BadMark, CellCount, NoHeading, NoMemory, TableFull, Value}
use Rattle.table_loader.specs.declared.fault.ValueFault.{ValueFault}
use Rattle.table_loader.specs.declared.form.CsvForm.{CsvForm}
use Rattle.table_loader.specs.declared.record.Plan.{Plan}
use Rattle.table_loader.specs.declared.value.PutFault.{PutFault}
use Rattle.table_loader.specs.declared.value.PutFault.TheVariants as putting
use Rattle.table_loader.specs.CsvText.{csv_lines, separator_byte}
use Rattle.table_loader.specs.Headings.{Columns, column_name, columns_by, names_tests, text_for, text_in_column}
use Rattle.table_loader.specs.Values.{value_of}

-- what comes of a value, or the fault that stands for it
abbrev pub unless_fault : {X Y : Type 0} → Result X CsvFault → (X → Result Y CsvFault) → Result Y CsvFault
unless_fault (Ok x) more = more x
unless_fault (Err fault) more = Err fault

-- an outcome, or a fault where a test fails
abbrev pub tested : {Y : Type 0} → Bool → CsvFault → Result Y CsvFault → Result Y CsvFault
tested passes fault outcome = if passes then outcome else Err fault

-- a record with one cell replaced by a value, or the fault with its line and its field
abbrev pub row_with_value : ℕ → ℕ → Row → Result (List ℕ) ValueFault → Result Row CsvFault
row_with_value line field row (Ok cell) = Ok (row_with_cell row field cell)
row_with_value line field row (Err why) = Err (Value line field why)

-- a record in which the fields from the one of this index on have what the line says
abbrev pub filled : CsvForm → Columns → ℕ → List (List ℕ) → ℕ → List Field → Row → Result Row CsvFault
filled form columns line cells index [] row = Ok row
filled form columns line cells index (f ∷ fs) row =
    unless_fault (row_with_value line index row (value_of form f (text_for columns cells index)))
    (λ row. filled form columns line cells (index + 1) fs row)

-- whether a line's record is marked: `true`, or `false` or nothing
abbrev pub mark_said : ℕ → List ℕ → Result Bool CsvFault
mark_said line text =
    if bytes_eq text (codes "true") then Ok true else
    (if bytes_eq text (codes "false") then Ok false else
    (if length text == 0 then Ok false else
    Err (BadMark line)))

-- the record of a line: one of blanks, in which each field has what the line says, and then its mark
abbrev pub row_of_line : CsvForm → Columns → ℕ → List (List ℕ) → List Field → Result Row CsvFault
row_of_line form columns line cells fields =
    unless_fault (filled form columns line cells 0 fields (blank_row fields)) (λ row.
    unless_fault (mark_said line (text_in_column cells columns.of_marks)) (λ deleted.
    Ok (row_marked row deleted)))

-- the table with the record of a line after the others, or the first fault; the line has as many cells as the heading
abbrev pub with_line : CsvForm → Columns → ℕ → Table → List (List ℕ) → Result Table CsvFault
with_line form columns line table cells =
    tested (length cells == columns.count) (CellCount line) (
    tested (nat_lt (length table.rows) MAX_RECORDS) (TableFull line) (
    unless_fault (row_of_line form columns line cells table.schema) (λ row. Ok (with_row table row))))

-- the table with the records of lines, the first of which has this number, or the first fault
abbrev pub with_lines : CsvForm → Columns → ℕ → Table → List (List (List ℕ)) → Result Table CsvFault
with_lines form columns line table [] = Ok table
with_lines form columns line table (cells ∷ more) =
    unless_fault (with_line form columns line table cells) (λ table. with_lines form columns (line + 1) table more)

-- an outcome, or the fault where there is one
abbrev pub unless_some : {Y : Type 0} → Option CsvFault → Result Y CsvFault → Result Y CsvFault
unless_some None outcome = outcome
unless_some (Some fault) outcome = Err fault

-- the table after all lines, of which the first is the heading and the second has the number 2, or the first fault
abbrev pub loaded : CsvForm → Table → List (List (List ℕ)) → Result Table CsvFault
loaded form table [] = Err NoHeading
loaded form table (heading ∷ lines) =
    let names = map column_name heading in
    unless_some (first_fault (names_tests table.schema [] names)) (with_lines form (columns_by table.schema names) 2 table lines)

-- what a text of CSV makes of a table, or the first fault
abbrev pub csv_loaded : CsvForm → Table → List ℕ → Result Table CsvFault
csv_loaded form table text = loaded form table (csv_lines (separator_byte form.separator) text)

-- the fault is the outcome, but for want of memory
abbrev pub IsCsvFault : {Y : Type 0} → CsvFault → Result Y CsvFault → Type 0
IsCsvFault fault outcome = (fault ≡ NoMemory) ⊎ (outcome ≡ Err fault)

-- what is told of a value that was not put into a record
abbrev pub fault_told : ℕ → ℕ → PutFault → CsvFault
fault_told line field (putting.Value why) = Value line field why
fault_told line field putting.NoMemory = NoMemory

-- the same of the names of a heading
abbrev pub IsHeadingFault : CsvFault → List Field → List (List ℕ) → Type 0
IsHeadingFault fault fields names = (fault ≡ NoMemory) ⊎ (first_fault (names_tests fields [] names) ≡ Some fault)

-- a value was put into a cell of a table
abbrev pub HasValuePut : Result (List ℕ) ValueFault → Table → ℕ → ℕ → Table → Type 0
HasValuePut said old number field new = (cell : List ℕ) × (said ≡ Ok cell) × (new ≡ with_cell old number field cell)

-- the record of a line without its mark, by a plan
abbrev pub filled_by : Plan → ℕ → List (List ℕ) → Result Row CsvFault
filled_by plan line cells = filled plan.form plan.heading line cells 0 plan.schema (blank_row plan.schema)

-- a record was added to a table
abbrev pub IsFilled : Result Row CsvFault → Table → Table → Type 0
IsFilled said old new = (row : Row) × (said ≡ Ok row) × (new ≡ with_row old row)
