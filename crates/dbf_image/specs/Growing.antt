-- What contracts see of a table that is changed in place.
use Rattle.std.specs.Prelude.{◌≡◌, ℕ, ◌+◌, ◌*◌, ◌==◌, Bool, List, [], ◌∷◌, length, flat_map, if◌then◌else◌}
use Rattle.dbf_fields.specs.declared.field.Field.{Field}
use Rattle.dbf_fields.specs.declared.format.TheConstants.{MEMO}
use Rattle.dbf_fields.specs.Field.{widths}
use Rattle.dbf_image.specs.declared.format.TheConstants.{BLOCK}
use Rattle.dbf_image.specs.MemoStore.{blocks_of_all}
use Rattle.dbf_image.specs.Table.{Row, Table}
use Rattle.dbf_image.specs.Store.{row_with}

-- A table with the room that is left for changes: whether one more record has room, how many bytes of memos have room, without
-- memory being taken, and how many blocks hold texts of memos, of which some may be those of texts that were replaced.
pub record Growing : Type 0 where
  pub table : Table
  pub record_room : Bool
  pub text_room : ℕ
  pub blocks_in_use : ℕ

-- the bytes of all blocks of memos: those in use, and those that have room
abbrev pub memo_bytes : Growing → ℕ
memo_bytes growing = BLOCK * growing.blocks_in_use + growing.text_room

-- the memos of a record, in the order of the fields
abbrev pub row_memos : List Field → List (List ℕ) → List (List ℕ)
row_memos [] cells = []
row_memos (f ∷ fs) [] = []
row_memos (f ∷ fs) (c ∷ cs) = if f.kind == MEMO then c ∷ row_memos fs cs else row_memos fs cs

-- how many blocks the memos of a table's records take, each by itself
abbrev pub memo_blocks : Table → ℕ
memo_blocks table = blocks_of_all (flat_map (λ row. row_memos table.schema row.cells) table.rows)

-- the bytes are a record's flag and cells, as they stand in the file but for the memos, which stand beside it
pub record IsRecord (fields : List Field) (bytes : List ℕ) (row : Row) : Type 0 where
  pub long : length bytes ≡ 1 + widths fields
  pub memos : List (List ℕ)
  pub is : row ≡ row_with fields bytes memos
