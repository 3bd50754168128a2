-- What a table is, and what a change makes of it. Records count from 1, fields have an index from 0.
use Rattle.std.specs.Prelude.{◌≡◌, ◌≢◌, ℕ, ◌-◌, ◌≤◌, Bool, true, false, not, ◌&&◌, ◌==◌, nat_le, if◌then◌else◌, List, [], ◌∷◌, ◌++◌, length, map, filter, replicate, slice_index, slice_index_or, slice_set}
use Rattle.std.specs.List.{list_all, list_any, AllByRecursion}
use Rattle.dbf_fields.specs.declared.field.Field.{Field}
use Rattle.dbf_fields.specs.declared.format.TheConstants.{BLANK, MEMO}
use Rattle.dbf_fields.specs.Schema.{IsSchema}
use Rattle.dbf_image.specs.declared.format.TheConstants.{MAX_MEMO_BYTES, MAX_RECORDS, MEMO_END}

-- a record: whether it is marked as deleted, and its cells. The cell of a memo is the memo's text
pub record Row : Type 0 where
  pub deleted : Bool
  pub cells : List (List ℕ)

-- a table, by its fields and its records in order
pub record Table : Type 0 where
  pub schema : List Field
  pub rows : List Row

-- some field is a memo
abbrev pub has_memos : List Field → Bool
has_memos fields = list_any (λ f. f.kind == MEMO) fields

-- a text that a memo may have: at most 65,535 bytes, and no 0x1A, which ends a memo
abbrev pub is_memo_text : List ℕ → Bool
is_memo_text text = nat_le (length text) MAX_MEMO_BYTES && list_all (λ b. not (b == MEMO_END)) text

-- a cell that a field may have: a memo's text, or as many bytes as the field is wide
abbrev pub IsCell : Field → List ℕ → Type 0
IsCell f cell = (f.kind ≡ MEMO → is_memo_text cell ≡ true) × (f.kind ≢ MEMO → length cell ≡ f.width)

-- a cell for each field
abbrev pub AreCells : List Field → List (List ℕ) → Type 0
AreCells [] [] = Unit {0}
AreCells [] (c ∷ cs) = ⊥
AreCells (f ∷ fs) [] = ⊥
AreCells (f ∷ fs) (c ∷ cs) = IsCell f c × AreCells fs cs

-- each cell of a record is one that its field may have
abbrev pub IsRow : List Field → Row → Type 0
IsRow fields row = AreCells fields row.cells

-- what is true of every table: its fields are those of a schema, its records are not too many and fit the fields
pub record IsTable (table : Table) : Type 0 where
  pub fields : IsSchema table.schema
  pub count_bounded : length table.rows ≤ MAX_RECORDS
  pub fit : AllByRecursion (IsRow table.schema) table.rows

-- the letter of a field's kind
abbrev pub kind_at : List Field → ℕ → ℕ
kind_at fields field = slice_index (map (λ f. f.kind) fields) field

-- a field's cell of blanks, or no memo
abbrev pub blank_cell : Field → List ℕ
blank_cell f = if f.kind == MEMO then [] else replicate f.width BLANK

-- a kept record of blanks without memos
abbrev pub blank_row : List Field → Row
blank_row fields = record { deleted = false; cells = map blank_cell fields }

-- the record of a number
abbrev pub row_at : Table → ℕ → Row
row_at table number = slice_index_or table.rows (number - 1) (blank_row table.schema)

-- the cell of a record and a field
abbrev pub cell_at : Table → ℕ → ℕ → List ℕ
cell_at table number field = slice_index_or (row_at table number).cells field []

-- the table of these fields that has no records
abbrev pub empty_table : List Field → Table
empty_table fields = record { schema = fields; rows = [] }

-- the table with one more record after the others
abbrev pub with_row : Table → Row → Table
with_row table row = record { schema = table.schema; rows = table.rows ++ row ∷ [] }

-- the row with one of its cells replaced
abbrev pub row_with_cell : Row → ℕ → List ℕ → Row
row_with_cell row field cell = record { deleted = row.deleted; cells = slice_set row.cells field cell }

-- the table with one cell of one record replaced, and all else as it was
abbrev pub with_cell : Table → ℕ → ℕ → List ℕ → Table
with_cell table number field cell = record {
  schema = table.schema;
  rows = slice_set table.rows (number - 1) (row_with_cell (row_at table number) field cell);
}

-- the row with its mark set or taken away
abbrev pub row_marked : Row → Bool → Row
row_marked row deleted = record { deleted = deleted; cells = row.cells }

-- the table with the mark of one record set or taken away, and all else as it was
abbrev pub with_mark : Table → ℕ → Bool → Table
with_mark table number deleted = record {
  schema = table.schema;
  rows = slice_set table.rows (number - 1) (row_marked (row_at table number) deleted);
}

-- the records that are not marked as deleted, in their order
abbrev pub kept_rows : List Row → List Row
kept_rows rows = filter (λ row. not row.deleted) rows

-- the table without the records that are marked as deleted
abbrev pub packed : Table → Table
packed table = record { schema = table.schema; rows = kept_rows table.rows }
