-- The one text that is written of a table.
use Rattle.std.specs.Prelude.{ℕ, ◌+◌, ◌-◌, ◌*◌, ◌<◌, ◌⊎◌, List, [], ◌∷◌, ◌++◌, length, replicate, flat_map, if◌then◌else◌}
use Rattle.byteorder.specs.Endian.{little_bytes}
use Rattle.dbf_fields.specs.declared.field.Field.{Field}
use Rattle.dbf_fields.specs.Field.{widths}
use Rattle.dbf_image.specs.Table.{Row, Table, has_memos}
use Rattle.dbf_image.specs.Blocks.{cells_bytes, cells_blocks}
use Rattle.dbf_image.specs.declared.format.TheConstants.{DELETED, DESCRIPTOR, END_OF_FILE, FIRST_YEAR, HEADER, HEADER_END, KEPT, LAST_YEAR, NAME_BYTES, VERSION, VERSION_WITH_MEMOS}

-- the version: 0x83 where there is a file of memos
abbrev pub version_of : List Field → ℕ
version_of fields = if has_memos fields then VERSION_WITH_MEMOS else VERSION

-- the 32 bytes before the descriptors: the version, the date, three numbers with their lowest bytes first, zeros
abbrev pub header_with : ℕ → ℕ → ℕ → ℕ → ℕ → ℕ → ℕ → List ℕ
header_with version record_count header_length record_length year month day =
    version ∷ (year - FIRST_YEAR) ∷ month ∷ day ∷ (little_bytes 4 record_count ++ (little_bytes 2 header_length ++ (little_bytes 2 record_length ++ replicate 20 0)))

-- the header of a table
abbrev pub header_bytes : Table → ℕ → ℕ → ℕ → List ℕ
header_bytes table year month day = header_with (version_of table.schema) (length table.rows) (DESCRIPTOR * length table.schema + (HEADER + 1)) (1 + widths table.schema) year month day

-- a field's descriptor of 32 bytes: the name, zeros up to 11 bytes, the letter, and after four zeros the width and the decimals
unfoldable pub descriptor : Field → List ℕ
descriptor f = (f.name ++ replicate (NAME_BYTES - length f.name) 0) ++ (f.kind ∷ (replicate 4 0 ++ (f.width ∷ f.decimals ∷ replicate 14 0)))

-- a record: its flag and its cells, where the next free block is known
abbrev pub row_bytes : ℕ → List Field → Row → List ℕ
row_bytes next fields row = (if row.deleted then DELETED else KEPT) ∷ cells_bytes next fields row.cells

-- one record after the other, from the next free block on
abbrev pub rows_bytes : ℕ → List Field → List Row → List (List ℕ)
rows_bytes next fields [] = []
rows_bytes next fields (r ∷ rs) = row_bytes next fields r ∷ rows_bytes (next + cells_blocks fields r.cells) fields rs

-- the bytes of a table's records, with memos from block 1 on
abbrev pub records_bytes : List Field → List Row → List ℕ
records_bytes fields rows = flat_map (λ bytes. bytes) (rows_bytes 1 fields rows)

-- the one file that is written of a table, dated: header, descriptors, 0x0D, records, 0x1A
abbrev pub image : Table → ℕ → ℕ → ℕ → List ℕ
image table year month day =
    header_bytes table year month day ++ (flat_map descriptor table.schema ++ (HEADER_END ∷ (records_bytes table.schema table.rows ++ END_OF_FILE ∷ [])))

-- a year that the one byte of the header's date cannot tell
abbrev pub IsOutside : ℕ → Type 0
IsOutside year = (year < FIRST_YEAR) ⊎ (LAST_YEAR < year)
