-- The tests of a reader of DBF files in their order, and what it reads.
use Rattle.std.specs.Prelude.{◌≡◌, ℕ, zero, suc, ◌+◌, ◌-◌, ◌*◌, ◌/◌, ◌≤◌, Bool, true, not, ◌&&◌, ◌||◌, ◌==◌, nat_lt, nat_le, ◌⊎◌, List, [], ◌∷◌, ◌++◌, length, map, flat_map, take, drop, slice_index, Option, Some, None, is_some, is_none, unwrap_or, if◌then◌else◌}
use Rattle.dbf_fields.specs.declared.field.Field.{Field}
use Rattle.dbf_fields.specs.declared.format.TheConstants.{MEMO}
use Rattle.dbf_fields.specs.Faults.{first_fault}
use Rattle.dbf_fields.specs.Field.{folded, widths}
use Rattle.dbf_fields.specs.Schema as schemas
use Rattle.dbf_image.specs.declared.fault.ImageFault.{ImageFault}
use Rattle.dbf_image.specs.declared.fault.ImageFault.TheVariants.{Truncated, BadVersion, BadHeaderLength, BadSchema, BadRecordLength, TooManyRecords, MemoFileMissing, BadMemoNumber, MemoOutside, MemoTooLong, NoMemory}
use Rattle.dbf_image.specs.declared.format.TheConstants.{BLOCK, DELETED, DESCRIPTOR, HEADER, HEADER_END, MAX_MEMO_BYTES, MAX_RECORDS, VERSION, VERSION_WITH_MEMOS}
use Rattle.dbf_image.specs.declared.dbf.header.Header.{Header}
use Rattle.dbf_image.specs.declared.dbf.header.TableNumbers.{TableNumbers}
use Rattle.dbf_image.specs.Table.{Row, Table, has_memos}
use Rattle.dbf_image.specs.Memo.{memo_number, memo_at}
use Rattle.dbf_image.specs.DbfText.{chunks, header_record_count, header_length, record_length, field_of}

-- the first of the n numbers from i on that passes the test
abbrev pub first_passing : (ℕ → Bool) → ℕ → ℕ → Option ℕ
first_passing test i zero = None
first_passing test i (suc n) = if test i then Some i else first_passing test (i + 1) n

-- how many descriptors stand before the first 0x0D among the bytes 32, 64, .. below the header's end
abbrev pub field_count : List ℕ → Option ℕ
field_count bytes = first_passing (λ i. slice_index bytes (HEADER + DESCRIPTOR * i) == HEADER_END) 0 ((header_length bytes - 1) / DESCRIPTOR)

-- the header is all there, and the list of fields ends in it
abbrev pub has_whole_header : List ℕ → Bool
has_whole_header bytes = nat_le HEADER (length bytes) && (nat_le (header_length bytes) (length bytes) && is_some (field_count bytes))

-- the fields as their descriptors tell them
abbrev pub fields_of : List ℕ → List Field
fields_of bytes = map field_of (chunks DESCRIPTOR (unwrap_or (field_count bytes) 0) (drop HEADER bytes))

-- the header is all there, and its list has this many fields, whose descriptors stand in the bytes
abbrev pub TellsCount : List ℕ → ℕ → Type 0
TellsCount bytes count = (has_whole_header bytes ≡ true) × (field_count bytes ≡ Some count) × DESCRIPTOR * count ≤ length bytes - HEADER

-- the header is all there, and these are the fields of its list
abbrev pub TellsFields : List ℕ → List Field → Type 0
TellsFields bytes fields = (has_whole_header bytes ≡ true) × (fields ≡ fields_of bytes)

abbrev pub schema_of : List ℕ → List Field
schema_of bytes = map folded (fields_of bytes)

abbrev pub has_version : List ℕ → Bool
has_version bytes = slice_index bytes 0 == VERSION || slice_index bytes 0 == VERSION_WITH_MEMOS

-- The reader's tests, each beside the fault that it is for, in the layout's order of refusals: first of the header,
unfoldable pub header_tests : List ℕ → List (Bool × ImageFault)
header_tests bytes =
    (nat_le HEADER (length bytes), Truncated)
    ∷ (has_version bytes, BadVersion)
    ∷ (nat_le (header_length bytes) (length bytes), Truncated)
    ∷ []

-- the tests of the fields, after those of the header,
unfoldable pub descriptor_tests : List ℕ → List (Bool × ImageFault)
descriptor_tests bytes =
    (is_some (field_count bytes), BadHeaderLength)
    ∷ (is_none (schemas.schema_refusal (fields_of bytes)), BadSchema)
    ∷ []

-- Why the bytes are no table, as far as it is tested before a reader takes memory: by the header, and by whether the list of fields
-- ends in it.
unfoldable pub early_refusal : List ℕ → Option ImageFault
early_refusal bytes = first_fault (header_tests bytes ++ ((is_some (field_count bytes), BadHeaderLength) ∷ []))

-- the tests of the records, after those of the fields,
unfoldable pub record_tests : List ℕ → List (Bool × ImageFault)
record_tests bytes =
    (record_length bytes == 1 + widths (schema_of bytes), BadRecordLength)
    ∷ (nat_le (header_record_count bytes) MAX_RECORDS, TooManyRecords)
    ∷ (nat_le (header_length bytes + header_record_count bytes * record_length bytes) (length bytes), Truncated)
    ∷ []

-- the block begins in the file of memos, after its header
abbrev pub is_block : List ℕ → ℕ → Bool
is_block dbt block = nat_lt 0 block && nat_lt (BLOCK * block) (length dbt)

-- the tests of the text of a block
unfoldable pub text_tests : List ℕ → ℕ → List (Bool × ImageFault)
text_tests dbt block =
    (is_block dbt block, MemoOutside)
    ∷ (nat_le (length (memo_at dbt block)) MAX_MEMO_BYTES, MemoTooLong)
    ∷ []

-- the tests of a memo's cell, and its text where they pass
unfoldable pub memo_tests : List ℕ → List ℕ → List (Bool × ImageFault)
memo_tests dbt cell =
    (is_some (memo_number cell), BadMemoNumber)
    ∷ (if unwrap_or (memo_number cell) 0 == 0 then [] else text_tests dbt (unwrap_or (memo_number cell) 0))

unfoldable pub memo_text : List ℕ → List ℕ → List ℕ
memo_text dbt cell = if unwrap_or (memo_number cell) 0 == 0 then [] else memo_at dbt (unwrap_or (memo_number cell) 0)

-- the same of a cell of any field,
unfoldable pub cell_tests : List ℕ → Field → List ℕ → List (Bool × ImageFault)
cell_tests dbt f cell = if f.kind == MEMO then memo_tests dbt cell else []

unfoldable pub cell_text : List ℕ → Field → List ℕ → List ℕ
cell_text dbt f cell = if f.kind == MEMO then memo_text dbt cell else cell

-- of all cells of a record, in the order of the fields,
abbrev pub cells_tests : List ℕ → List Field → List ℕ → List (Bool × ImageFault)
cells_tests dbt [] bytes = []
cells_tests dbt (f ∷ fs) bytes = cell_tests dbt f (take f.width bytes) ++ cells_tests dbt fs (drop f.width bytes)

abbrev pub cells_read : List ℕ → List Field → List ℕ → List (List ℕ)
cells_read dbt [] bytes = []
cells_read dbt (f ∷ fs) bytes = cell_text dbt f (take f.width bytes) ∷ cells_read dbt fs (drop f.width bytes)

-- the tests of a record
abbrev pub row_tests : List ℕ → List Field → List ℕ → List (Bool × ImageFault)
row_tests dbt fields bytes = cells_tests dbt fields (drop 1 bytes)

abbrev pub row_read : List ℕ → List Field → List ℕ → Row
row_read dbt fields bytes = record { deleted = slice_index bytes 0 == DELETED; cells = cells_read dbt fields (drop 1 bytes) }

-- the tests of all records, in their order
abbrev pub rows_tests : List ℕ → List Field → List (List ℕ) → List (Bool × ImageFault)
rows_tests dbt fields records = flat_map (row_tests dbt fields) records

-- the records, one after the other
abbrev pub records_of : List ℕ → List (List ℕ)
records_of bytes = chunks (record_length bytes) (header_record_count bytes) (drop (header_length bytes) bytes)

-- and last the tests of the memos, of all records in their order
unfoldable pub memos_tests : List ℕ → Option (List ℕ) → List (Bool × ImageFault)
memos_tests bytes dbt =
    (not (has_memos (schema_of bytes)) || is_some dbt, MemoFileMissing)
    ∷ rows_tests (unwrap_or dbt []) (schema_of bytes) (records_of bytes)

-- why the bytes are no table, where they are none
abbrev pub image_refusal : List ℕ → Option (List ℕ) → Option ImageFault
image_refusal bytes dbt = first_fault (header_tests bytes ++ (descriptor_tests bytes ++ (record_tests bytes ++ memos_tests bytes dbt)))

-- the fault of the first test that fails, but for want of memory
abbrev pub IsRefusal : ImageFault → List (Bool × ImageFault) → Type 0
IsRefusal fault tests = (fault ≡ NoMemory) ⊎ (first_fault tests ≡ Some fault)

-- the same of the tests of a table's files
abbrev pub IsImageRefusal : ImageFault → List ℕ → Option (List ℕ) → Type 0
IsImageRefusal fault bytes dbt = (fault ≡ NoMemory) ⊎ (image_refusal bytes dbt ≡ Some fault)

-- the numbers of the header, as the code keeps them
abbrev pub dbf_header : List ℕ → Header
dbf_header bytes = record { header_length = header_length bytes; record_length = record_length bytes; record_count = header_record_count bytes }

-- how long a file is, and the numbers at its head, which are 0 if the header isn't all there
abbrev pub table_numbers : List ℕ → TableNumbers
table_numbers bytes =
    if nat_lt (length bytes) HEADER
    then record { file_length = length bytes; version = 0; header_length = 0; record_length = 0; record_count = 0 }
    else record {
      file_length = length bytes;
      version = slice_index bytes 0;
      header_length = header_length bytes;
      record_length = record_length bytes;
      record_count = header_record_count bytes;
    }

-- the table, where no test fails
abbrev pub table_read : List ℕ → Option (List ℕ) → Table
table_read bytes dbt = record {
  schema = schema_of bytes;
  rows = map (row_read (unwrap_or dbt []) (schema_of bytes)) (records_of bytes);
}
