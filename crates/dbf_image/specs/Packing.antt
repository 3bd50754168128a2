-- What it means that a part of a list is moved, and that records are packed.
use Rattle.std.specs.Prelude.{◌≡◌, ℕ, ◌+◌, ◌*◌, List, ◌++◌, length, take, drop}
use Rattle.dbf_fields.specs.declared.field.Field.{Field}
use Rattle.dbf_image.specs.MemoStore.{Texts}
use Rattle.dbf_image.specs.Store.{texts_of, rows_of}
use Rattle.dbf_image.specs.Table.{kept_rows}

-- a part of `size` elements was copied to another place in front of it, and what stands after it stays
pub record Moved {X : Type 0} (size from to : ℕ) (old new : List X) : Type 0 where
  pub front : take (to * size + size) new ≡ take (to * size) old ++ take size (drop (from * size) old)
  pub rest : drop (from * size + size) new ≡ drop (from * size + size) old
  pub len : length new ≡ length old

-- the records and memos after packing are the rows that were not marked, whatever the texts are
abbrev pub HasKeptRows : List Field → ℕ → List ℕ → List ℕ → ℕ → List ℕ → List ℕ → Type 0
HasKeptRows fields count bytes numbers kept kept_bytes kept_numbers =
    (texts : Texts) → rows_of fields kept kept_bytes (texts_of texts kept_numbers) ≡ kept_rows (rows_of fields count bytes (texts_of texts numbers))
