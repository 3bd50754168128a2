-- Why the bytes of a table's files are none, and where: the reader's tests, each beside its fault and the part that it is of.
use Rattle.std.specs.Prelude.{◌≡◌, ℕ, ◌+◌, Bool, false, not, ◌||◌, ◌⊎◌, List, [], ◌∷◌, ◌++◌, take, drop, Option, Some, None, is_some, is_none, unwrap_or}
use Rattle.dbf_fields.specs.declared.bad_field.BadField.{BadField}
use Rattle.dbf_fields.specs.declared.field.Field.{Field}
use Rattle.dbf_fields.specs.BadField.{first_bad_field}
use Rattle.dbf_fields.specs.Faults.{first_fault, tests_as}
use Rattle.dbf_fields.specs.Schema as schemas
use Rattle.dbf_image.specs.declared.bad_table.BadTable.{BadTable}
use Rattle.dbf_image.specs.declared.bad_table.TablePart.{TablePart}
use Rattle.dbf_image.specs.declared.bad_table.TablePart.TheVariants as parts
use Rattle.dbf_image.specs.declared.fault.ImageFault.{ImageFault}
use Rattle.dbf_image.specs.declared.fault.ImageFault.TheVariants.{BadHeaderLength, BadSchema, MemoFileMissing, NoMemory}
use Rattle.dbf_image.specs.Table.{has_memos}
use Rattle.dbf_image.specs.Memo.{memo_number}
use Rattle.dbf_image.specs.Reading.{field_count, fields_of, schema_of, records_of, header_tests, record_tests, cell_tests}

-- a fault in a part of the files
abbrev pub bad_in : TablePart → ImageFault → BadTable
bad_in at why = record { why = why; part = at }

-- a fault without its part
abbrev pub why_of : BadTable → ImageFault
why_of bad = bad.why

-- tests that are all of one part
abbrev pub tests_of : TablePart → List (Bool × ImageFault) → List (Bool × BadTable)
tests_of at = tests_as (bad_in at)

-- the field that is bad; the header, where there is no field
abbrev pub part_of_field : Option BadField → TablePart
part_of_field None = parts.Header
part_of_field (Some bad) = parts.Field bad

-- the memo of a cell, by the numbers of its record and its field
abbrev pub part_of_memo : ℕ → ℕ → List ℕ → TablePart
part_of_memo number n cell = parts.Memo (record { record_number = number; field_number = n; block = memo_number cell })

-- the tests of the fields,
unfoldable pub fields_tests : List ℕ → List (Bool × BadTable)
fields_tests bytes =
    (is_some (field_count bytes), bad_in parts.Header BadHeaderLength)
    ∷ (is_none (schemas.schema_refusal (fields_of bytes)), bad_in (part_of_field (first_bad_field (fields_of bytes))) BadSchema)
    ∷ []

-- of the memos of the record of this number, of which the first field has the number n,
abbrev pub record_memos_tests : List ℕ → ℕ → ℕ → List Field → List ℕ → List (Bool × BadTable)
record_memos_tests dbt number n [] bytes = []
record_memos_tests dbt number n (f ∷ fs) bytes =
    tests_of (part_of_memo number n (take f.width bytes)) (cell_tests dbt f (take f.width bytes)) ++ record_memos_tests dbt number (n + 1) fs (drop f.width bytes)

-- of those of records, of which the first has this number,
abbrev pub records_memos_tests : List ℕ → ℕ → List Field → List (List ℕ) → List (Bool × BadTable)
records_memos_tests dbt number fields [] = []
records_memos_tests dbt number fields (bytes ∷ more) =
    record_memos_tests dbt number 1 fields (drop 1 bytes) ++ records_memos_tests dbt (number + 1) fields more

-- the tests of all memos of a table, whose file of memos is there where some field is one
unfoldable pub table_memos_tests : Option (List ℕ) → List Field → List (List ℕ) → List (Bool × BadTable)
table_memos_tests dbt fields records =
    (not (has_memos fields) || is_some dbt, bad_in parts.Header MemoFileMissing)
    ∷ records_memos_tests (unwrap_or dbt []) 1 fields records

-- why the bytes are no table, and where: of the tests of the header, of the fields, of the records and of the memos, the first that fails
abbrev pub table_refusal : List ℕ → Option (List ℕ) → Option BadTable
table_refusal bytes dbt =
    first_fault (tests_of parts.Header (header_tests bytes)
    ++ (fields_tests bytes ++ (tests_of parts.Header (record_tests bytes) ++ table_memos_tests dbt (schema_of bytes) (records_of bytes))))

-- the fault of the first test that fails with its part, but for want of memory
abbrev pub IsBad : BadTable → List (Bool × BadTable) → Type 0
IsBad bad tests = (bad.why ≡ NoMemory) ⊎ (first_fault tests ≡ Some bad)

-- the same of the tests of a table's files
abbrev pub IsTableRefusal : BadTable → List ℕ → Option (List ℕ) → Type 0
IsTableRefusal bad bytes dbt = (bad.why ≡ NoMemory) ⊎ (table_refusal bytes dbt ≡ Some bad)

-- the fields are no schema, and that is the fault, in the first field up to which they are none; or there was no memory
abbrev pub IsFieldsRefusal : BadTable → List Field → Type 0
IsFieldsRefusal bad fields =
    (bad.why ≡ NoMemory) ⊎ ((bad ≡ bad_in (part_of_field (first_bad_field fields)) BadSchema) × (is_none (schemas.schema_refusal fields) ≡ false))
