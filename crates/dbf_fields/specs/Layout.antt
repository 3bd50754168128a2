-- Where the cells of a record lie: after the flag byte, in the order of the fields.
use Rattle.std.specs.Prelude.{◌≡◌, ℕ, ◌+◌, List, [], ◌∷◌, map, take, drop, slice_index}
use Rattle.dbf_fields.specs.declared.field.Field.{Field}
use Rattle.dbf_fields.specs.Field.{widths}
use Rattle.dbf_fields.specs.Schema.{IsSchema}

-- the cells of a record, by its bytes
abbrev pub cells_of : List Field → List ℕ → List (List ℕ)
cells_of [] bytes = []
cells_of (f ∷ fs) bytes = take f.width bytes ∷ cells_of fs (drop f.width bytes)

-- the offsets of the cells, where that of the first one is given
abbrev pub offsets_from : ℕ → List Field → List ℕ
offsets_from offset [] = []
offsets_from offset (f ∷ fs) = offset ∷ offsets_from (offset + f.width) fs

-- the offset of a field's cell in its record: the flag and the earlier cells stand before it
abbrev pub offset_of : List Field → ℕ → ℕ
offset_of fields index = 1 + widths (take index fields)

-- how wide the cells of a field are
abbrev pub width_of : List Field → ℕ → ℕ
width_of fields index = slice_index (map (λ f. f.width) fields) index

-- the fields of a schema, with the offsets of their cells and the length of a record
pub record IsLaidOut (fields : List Field) (offsets : List ℕ) (record_length : ℕ) : Type 0 where
  pub schema : IsSchema fields
  pub offsets_are : offsets ≡ offsets_from 1 fields
  pub length_is : record_length ≡ 1 + widths fields
