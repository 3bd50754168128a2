-- Why a text of CSV is not loaded, in words.
use Rattle.std.specs.Prelude.{ℕ, List, [], ◌++◌, ◌==◌, codes, length, map, slice_index_or, if◌then◌else◌}
use Rattle.std.specs.Fmt.{decimal}
use Rattle.dbf_fields.specs.declared.field.Field.{Field}
use Rattle.table_loader.specs.declared.fault.CsvFault.{CsvFault}
use Rattle.table_loader.specs.declared.fault.CsvFault.TheVariants as csv
use Rattle.table_loader.specs.declared.fault.ValueFault.{ValueFault}
use Rattle.table_loader.specs.declared.named.NamedFault.{NamedFault}
use Rattle.table_loader.specs.declared.fault.ValueFault.TheVariants as value

-- the names of fields
abbrev pub field_names : List Field → List (List ℕ)
field_names fields = map (λ f. f.name) fields

-- of these names, that of the field whose value a text is not; none, where the fault is another
abbrev pub name_at_fault : List (List ℕ) → CsvFault → List ℕ
name_at_fault names (csv.Value line field why) = slice_index_or names field []
name_at_fault names fault = []

-- the name of the field whose value a text is not; none if the fault is another
abbrev pub field_at_fault : List Field → CsvFault → List ℕ
field_at_fault fields fault = name_at_fault (field_names fields) fault

-- why a text is no value of a field, by its name
abbrev pub value_name : ValueFault → List ℕ
value_name value.TypeMismatch = codes "TypeMismatch"
value_name value.NumberTooWide = codes "NumberTooWide"
value_name value.BadDate = codes "BadDate"
value_name value.TextTooWide = codes "TextTooWide"
value_name value.BadText = codes "BadText"

-- what is said of a line
abbrev pub line_words : ℕ → List ℕ → List ℕ
line_words line words = codes "line " ++ (decimal line ++ words)

-- what is said of a column
abbrev pub column_words : ℕ → List ℕ → List ℕ
column_words column words = codes "column " ++ (decimal column ++ words)

-- why a text of CSV is not loaded, in words; the field at fault has this name
abbrev pub csv_words : List ℕ → CsvFault → List ℕ
csv_words name csv.NoHeading = codes "there is no heading"
csv_words name (csv.UnknownName column) = column_words column (codes ": no field has the name")
csv_words name (csv.DoubledName column) = column_words column (codes ": an earlier column has the name")
csv_words name (csv.CellCount line) = line_words line (codes ": not as many cells as the heading")
csv_words name (csv.TableFull line) = line_words line (codes ": TableFull")
csv_words name (csv.Value line field why) = line_words line (codes ", " ++ (name ++ (codes ": " ++ value_name why)))
csv_words name (csv.BadMark line) = line_words line (codes ": the mark is not true or false")
csv_words name csv.NoMemory = codes "out of memory"

-- what is told of a fault, or the fault alone, where nothing is told of it
abbrev pub fault_words : NamedFault → List ℕ
fault_words fault = if length fault.told == 0 then csv_words fault.field fault.why else fault.told
