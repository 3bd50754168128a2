-- What a text says as a list of fields: the fields of its lines in their order, or why it is none.
use Rattle.std.specs.Prelude.{◌≡◌, ◌⊎◌, ℕ, ◌+◌, ◌-◌, List, [], ◌∷◌, map, slice_index, Option, Some, None, Result, Ok, Err, if◌then◌else◌}
use Rattle.dbf_fields.specs.declared.bad_field.BadField.{BadField as FirstBad}
use Rattle.dbf_fields.specs.declared.field.Field.{Field}
use Rattle.dbf_fields.specs.declared.schema.SchemaFault.{SchemaFault}
use Rattle.dbf_fields.specs.BadField.{first_bad_field}
use Rattle.dbf_fields.specs.Field.{folded}
use Rattle.dbf_fields.specs.Schema.{schema_refusal}
use Rattle.station_lines.specs.Script.Lines.{AreLines}
use Rattle.field_list.specs.declared.fault.FieldLineFault.{FieldLineFault}
use Rattle.field_list.specs.declared.fault.FieldListFault.{FieldListFault}
use Rattle.field_list.specs.declared.fault.FieldListFault.TheVariants.{BadLine, BadField, NoFields, NoMemory}
use Rattle.field_list.specs.FieldLine.{says_nothing, line_fault, line_field}

-- why a line says no field, unless it says nothing
abbrev pub line_refusal : List ℕ → Option FieldLineFault
line_refusal line = if says_nothing line then None else line_fault line

-- the line of this number, where it is bad, and else the later one
abbrev pub this_or_later : ℕ → Option FieldLineFault → Option (ℕ × FieldLineFault) → Option (ℕ × FieldLineFault)
this_or_later number None later = later
this_or_later number (Some why) later = Some (number, why)

-- the first bad line of those from this number on, and why it is bad
abbrev pub first_bad_line : ℕ → List (List ℕ) → Option (ℕ × FieldLineFault)
first_bad_line number [] = None
first_bad_line number (line ∷ lines) = this_or_later number (line_refusal line) (first_bad_line (number + 1) lines)

-- the fields of the lines that say one
abbrev pub listed_fields : List (List ℕ) → List Field
listed_fields [] = []
listed_fields (line ∷ lines) = if says_nothing line then listed_fields lines else line_field line ∷ listed_fields lines

-- the numbers of these lines, where the first line has this number
abbrev pub field_line_numbers : ℕ → List (List ℕ) → List ℕ
field_line_numbers number [] = []
field_line_numbers number (line ∷ lines) =
    if says_nothing line then field_line_numbers (number + 1) lines else number ∷ field_line_numbers (number + 1) lines

-- why fields, which stand on the lines of these numbers, are no schema
abbrev pub schema_fault : List ℕ → Option FirstBad → FieldListFault
schema_fault numbers None = NoFields
schema_fault numbers (Some bad) = BadField (slice_index numbers (bad.field_number - 1)) bad.why

-- the fields as a schema keeps them, or why they are none
abbrev pub schema_or_fault : List Field → List ℕ → Option SchemaFault → Result (List Field) FieldListFault
schema_or_fault fields numbers None = Ok (map folded fields)
schema_or_fault fields numbers (Some why) = Err (schema_fault numbers (first_bad_field fields))

-- a bad line is told first, then fields that are no schema
abbrev pub told_first : Option (ℕ × FieldLineFault) → Result (List Field) FieldListFault → Result (List Field) FieldListFault
told_first None said = said
told_first (Some bad) said = Err (BadLine bad.0 bad.1)

-- what lines say together
abbrev pub said_by_lines : List (List ℕ) → Result (List Field) FieldListFault
said_by_lines lines =
    let fields = listed_fields lines in
    told_first (first_bad_line 1 lines) (schema_or_fault fields (field_line_numbers 1 lines) (schema_refusal fields))

-- what a text says as a list of fields: a schema, or why it is none
abbrev pub IsFieldList : List ℕ → Result (List Field) FieldListFault → Type 0
IsFieldList text said = (lines : List (List ℕ)) × AreLines lines text × (said ≡ said_by_lines lines)

-- the first line of the text that says no field though it should, and why
abbrev pub HasBadFieldLine : List ℕ → ℕ → FieldLineFault → Type 0
HasBadFieldLine text number why = (lines : List (List ℕ)) × AreLines lines text × (first_bad_line 1 lines ≡ Some (number, why))

-- the same where there may be none
abbrev pub IsFirstBadLine : List ℕ → Option (ℕ × FieldLineFault) → Type 0
IsFirstBadLine text bad = (lines : List (List ℕ)) × AreLines lines text × (bad ≡ first_bad_line 1 lines)

-- the fields of the text's lines, and the numbers of these lines
abbrev pub AreListed : List ℕ → List Field → List ℕ → Type 0
AreListed text fields numbers =
    (lines : List (List ℕ)) × AreLines lines text × (fields ≡ listed_fields lines) × (numbers ≡ field_line_numbers 1 lines)

-- a fault that is answered is why the text is none, but for want of memory
abbrev pub IsFieldListFault : List ℕ → FieldListFault → Type 0
IsFieldListFault text fault = (fault ≡ NoMemory) ⊎ IsFieldList text (Err fault)
