-- What a change of the last record makes of a table.
use Rattle.std.specs.Prelude.{Result, Ok, Err}
use Rattle.std.proofs.lemmas.Bool.{eq-eqb, lt-ltb}
use Rattle.std.proofs.lemmas.List.{drop_more}
use Rattle.table_loader.specs.declared.form.CsvForm.{CsvForm}
use Rattle.table_loader.specs.declared.fault.CsvFault.{CsvFault}
use Rattle.table_loader.specs.declared.fault.CsvFault.TheVariants.{Value}
use Rattle.table_loader.specs.declared.fault.ValueFault.{ValueFault}
use Rattle.table_loader.specs.declared.value.PutFault.{PutFault}
use Rattle.table_loader.specs.declared.value.PutFault.TheVariants as putting
use Rattle.table_loader.specs.Headings.{Columns, text_for, text_in_column}
use Rattle.table_loader.specs.Loading.{fault_told, filled, mark_said, with_line, with_lines, IsCsvFault}
use Rattle.table_loader.specs.Values.{value_of, IsPutFault}
use Rattle.std.proofs.Common.{drop, inl, inr}
use Rattle.std.proofs.Common.{◌≡◌, ◌+◌, ◌-◌, ◌<◌, ◌∷◌, ◌++◌, ◌∙◌, [], ℕ, List, Bool, true, refl, sym, ap, arith, length, length-append, get_or, zero, suc}
use Rattle.std.proofs.Math.Seq.{set-append_seam}
use Rattle.std.specs.List.{AllByRecursion}
use Rattle.dbf_fields.specs.declared.field.Field.{Field}
use Rattle.dbf_fields.specs.Field.{has_width}
use Rattle.dbf_fields.specs.Schema.{IsSchema}
use Rattle.dbf_fields.proofs.SchemaLaws.{schema_wide}
use Rattle.dbf_image.specs.declared.format.TheConstants.{MAX_RECORDS}
use Rattle.dbf_image.specs.Table.{Row, Table, blank_row, row_marked, row_with_cell, with_cell, with_mark, with_row}

-- the last record is the one that was added
last_row : (rows : List Row) (row other : Row) → get_or (rows ++ row ∷ []) (length rows) other ≡ row
last_row [] row other = refl
last_row (r ∷ rs) row other = last_row rs row other

number_of_last : (table : Table) → length table.rows + 1 - 1 ≡ length table.rows
number_of_last table = omega arith

-- a cell of it is replaced
pub cell_of_last : (table : Table) (row : Row) (number field : ℕ) (cell : List ℕ) → number ≡ length table.rows + 1
    → with_cell (with_row table row) number field cell ≡ with_row table (row_with_cell row field cell)
cell_of_last table row number field cell is =
    rw (is, number_of_last table, last_row table.rows row, set-append_seam table.rows row []) refl

-- its mark is set or taken away
pub mark_of_last : (table : Table) (row : Row) (number : ℕ) (deleted : Bool) → number ≡ length table.rows + 1
    → with_mark (with_row table row) number deleted ≡ with_row table (row_marked row deleted)
mark_of_last table row number deleted is =
    rw (is, number_of_last table, last_row table.rows row, set-append_seam table.rows row []) refl

pub rows_of_last : (table : Table) (row : Row) → length (with_row table row).rows ≡ length table.rows + 1
rows_of_last table row = length-append table.rows (row ∷ [])

at_index : (P : Field → Type 0) (fields : List Field) (index : ℕ) (f : Field) → AllByRecursion P fields → index < length fields → P (get_or fields index f)
at_index P [] index f all inside = absurd (omega arith)
at_index P (x ∷ xs) zero f all inside = all.0
at_index P (x ∷ xs) (suc index) f all inside = at_index P xs index f all.1 (omega arith)

-- each field of a schema has a width that its kind may have
pub wide_field : (fields : List Field) (index : ℕ) (f : Field) → IsSchema fields → index < length fields → has_width (get_or fields index f) ≡ true
wide_field fields index f schema inside = at_index (λ f. has_width f ≡ true) fields index f (schema_wide fields schema) inside

-- ---- the fields of a line, one after the other

-- a value that is put into the record leaves the later fields
pub field_filled : (form : CsvForm) (columns : Columns) (line index : ℕ) (cells : List (List ℕ)) (fields : List Field) (f : Field) (row : Row) (cell : List ℕ)
    → index < length fields → get_or fields index f ≡ f → value_of form f (text_for columns cells index) ≡ Ok cell
    → filled form columns line cells (index + 1) (drop (index + 1) fields) (row_with_cell row index cell) ≡ filled form columns line cells index (drop index fields) row
field_filled form columns line index cells fields f row cell lt is said = rw (drop_more fields index f lt, is, said) refl

-- and one that is not put is the fault
field_fails : (form : CsvForm) (columns : Columns) (line index : ℕ) (cells : List (List ℕ)) (fields : List Field) (f : Field) (row : Row) (why : ValueFault)
    → index < length fields → get_or fields index f ≡ f → value_of form f (text_for columns cells index) ≡ Err why
    → filled form columns line cells index (drop index fields) row ≡ Err (Value line index why)
field_fails form columns line index cells fields f row why lt is said = rw (drop_more fields index f lt, is, said) refl

pub not_filled : (form : CsvForm) (columns : Columns) (line index : ℕ) (cells : List (List ℕ)) (fields : List Field) (f : Field) (row : Row) (whole : Result Row CsvFault)
    (fault : PutFault) → index < length fields → get_or fields index f ≡ f → filled form columns line cells index (drop index fields) row ≡ whole
    → IsPutFault fault (value_of form f (text_for columns cells index)) → IsCsvFault (fault_told line index fault) whole
not_filled form columns line index cells fields f row whole (putting.Value why) lt is rest said =
    inr (sym rest ∙ field_fails form columns line index cells fields f row why lt is said)
not_filled form columns line index cells fields f row whole putting.NoMemory lt is rest said = inl refl

-- ---- the record of a line

pub line_added : (form : CsvForm) (columns : Columns) (line : ℕ) (table new : Table) (cells : List (List ℕ)) (row : Row) (deleted : Bool)
    → length cells ≡ columns.count → length table.rows < MAX_RECORDS → filled form columns line cells 0 table.schema (blank_row table.schema) ≡ Ok row
    → mark_said line (text_in_column cells columns.of_marks) ≡ Ok deleted → new ≡ with_row table (row_marked row deleted)
    → with_line form columns line table cells ≡ Ok new
line_added form columns line table new cells row deleted many room said mark is =
    rw (eq-eqb (length cells) columns.count many, lt-ltb (length table.rows) MAX_RECORDS room, said, mark, is) refl

pub line_not_filled : (form : CsvForm) (columns : Columns) (line : ℕ) (table : Table) (cells : List (List ℕ)) (fault : CsvFault)
    → length cells ≡ columns.count → length table.rows < MAX_RECORDS → IsCsvFault fault (filled form columns line cells 0 table.schema (blank_row table.schema))
    → IsCsvFault fault (with_line form columns line table cells)
line_not_filled form columns line table cells fault many room (inl none) = inl none
line_not_filled form columns line table cells fault many room (inr said) =
    inr (rw (eq-eqb (length cells) columns.count many, lt-ltb (length table.rows) MAX_RECORDS room, said) refl)

pub line_not_marked : (form : CsvForm) (columns : Columns) (line : ℕ) (table : Table) (cells : List (List ℕ)) (row : Row) (fault : CsvFault)
    → length cells ≡ columns.count → length table.rows < MAX_RECORDS → filled form columns line cells 0 table.schema (blank_row table.schema) ≡ Ok row
    → mark_said line (text_in_column cells columns.of_marks) ≡ Err fault → with_line form columns line table cells ≡ Err fault
line_not_marked form columns line table cells row fault many room said mark =
    rw (eq-eqb (length cells) columns.count many, lt-ltb (length table.rows) MAX_RECORDS room, said, mark) refl

-- a line that is taken leaves the later ones
pub more_lines : (form : CsvForm) (columns : Columns) (line here next : ℕ) (table new : Table) (cells : List (List ℕ)) (lines more : List (List (List ℕ)))
    → with_line form columns line table cells ≡ Ok new → lines ≡ cells ∷ more → line ≡ here → next ≡ here + 1
    → with_lines form columns next new more ≡ with_lines form columns here table lines
more_lines form columns line here next table new cells lines more said is same one =
    let step : with_line form columns here table cells ≡ Ok new = ap (λ (n : ℕ). with_line form columns n table cells) (sym same) ∙ said in
    rw (is, one, step) refl
