-- The layout of a DBF file. Numbers stand with their lowest byte first, and offsets count from 0.
use Rattle.std.specs.Prelude.{◌≡◌, ◌≢◌, ℕ, zero, suc, ◌+◌, ◌*◌, ◌<◌, ◌≤◌, ◌⊎◌, ◌==◌, true, List, [], ◌∷◌, length, map, take, drop, slice_index, Option, None, is_some, unwrap_or}
use Rattle.std.specs.List.{before_first}
use Rattle.byteorder.specs.Endian.{little_number}
use Rattle.dbf_fields.specs.declared.field.Field.{Field}
use Rattle.dbf_fields.specs.Field.{folded, widths}
use Rattle.dbf_fields.specs.Schema as schemas
use Rattle.dbf_image.specs.declared.format.TheConstants.{DELETED, DESCRIPTOR, HEADER, HEADER_END, HEADER_LENGTH_OFFSET, MAX_RECORDS, NAME_BYTES, RECORD_COUNT_OFFSET, RECORD_LENGTH_OFFSET, VERSION, VERSION_WITH_MEMOS}
use Rattle.dbf_image.specs.Table.{Row, Table, has_memos}
use Rattle.dbf_image.specs.Memo.{EncodesCells}

-- the first n chunks of one size, one after the other
abbrev pub chunks : ℕ → ℕ → List ℕ → List (List ℕ)
chunks size zero bytes = []
chunks size (suc n) bytes = take size bytes ∷ chunks size n (drop size bytes)

-- the numbers of the header
abbrev pub header_record_count : List ℕ → ℕ
header_record_count bytes = little_number 4 (drop RECORD_COUNT_OFFSET bytes)

abbrev pub header_length : List ℕ → ℕ
header_length bytes = little_number 2 (drop HEADER_LENGTH_OFFSET bytes)

abbrev pub record_length : List ℕ → ℕ
record_length bytes = little_number 2 (drop RECORD_LENGTH_OFFSET bytes)

-- a field by its descriptor of 32 bytes: the name stands before the first zero of 11 bytes
abbrev pub field_of : List ℕ → Field
field_of descriptor = record {
  name = before_first (λ b. b == 0) (take NAME_BYTES descriptor);
  kind = slice_index descriptor 11;
  width = slice_index descriptor 16;
  decimals = slice_index descriptor 17;
}

-- a record: a flag and the cells. A flag other than 0x2A means kept
abbrev pub EncodesRow : List ℕ → List Field → List ℕ → Row → Type 0
EncodesRow dbt fields bytes row = (row.deleted ≡ (slice_index bytes 0 == DELETED)) × EncodesCells dbt fields (drop 1 bytes) row.cells

-- one record after the other
abbrev pub EncodesRows : List ℕ → List Field → List (List ℕ) → List Row → Type 0
EncodesRows dbt fields [] [] = Unit {0}
EncodesRows dbt fields [] (r ∷ rs) = ⊥
EncodesRows dbt fields (p ∷ ps) [] = ⊥
EncodesRows dbt fields (p ∷ ps) (r ∷ rs) = EncodesRow dbt fields p r × EncodesRows dbt fields ps rs

-- the bytes of each of the first `count` records
abbrev pub row_chunks : List Field → ℕ → List ℕ → List (List ℕ)
row_chunks fields count bytes = chunks (1 + widths fields) count bytes

-- the bytes are those of `count` records and no more
pub record AreRecords (fields : List Field) (count : ℕ) (bytes : List ℕ) : Type 0 where
  pub whole : length bytes ≡ count * (1 + widths fields)
  pub count_bounded : count ≤ MAX_RECORDS

-- The bytes are a file of the table, with a file of its memos beside it where some field is a memo: a relation on the whole text,
-- with the header's numbers, the list of descriptors up to the first 0x0D, and the records at their offsets. It shares the layout's
-- words with the reader's tests, and none of the tests. That both say the same of all bytes is proved (proofs/DbfLaws.antt), and so
-- is that `image` with `memo_image` is in the relation (proofs/FileLaws.antt).
pub record IsDbf (bytes : List ℕ) (dbt : Option (List ℕ)) (table : Table) : Type 0 where
  pub long : HEADER ≤ length bytes
  pub version : (slice_index bytes 0 ≡ VERSION) ⊎ (slice_index bytes 0 ≡ VERSION_WITH_MEMOS)
  -- the first 0x0D among the bytes 32, 64, .. stands after some descriptors and below the header's end
  pub field_count : ℕ
  pub last_field : slice_index bytes (HEADER + DESCRIPTOR * field_count) ≡ HEADER_END
  pub not_before : (i : ℕ) → i < field_count → slice_index bytes (HEADER + DESCRIPTOR * i) ≢ HEADER_END
  pub in_header : HEADER + DESCRIPTOR * field_count < header_length bytes
  -- they tell fields that a table may have
  pub accepted : schemas.schema_refusal (map field_of (chunks DESCRIPTOR field_count (drop HEADER bytes))) ≡ None
  pub schema : table.schema ≡ map folded (map field_of (chunks DESCRIPTOR field_count (drop HEADER bytes)))
  pub wide : record_length bytes ≡ 1 + widths table.schema
  -- the records stand after the header, one after the other
  pub count_bounded : header_record_count bytes ≤ MAX_RECORDS
  pub whole : header_length bytes + header_record_count bytes * record_length bytes ≤ length bytes
  pub memos : has_memos table.schema ≡ true → is_some dbt ≡ true
  pub rows : EncodesRows (unwrap_or dbt []) table.schema (chunks (record_length bytes) (header_record_count bytes) (drop (header_length bytes) bytes)) table.rows
