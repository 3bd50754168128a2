-- Where the cells of a record lie.
use Rattle.std.proofs.Common.{◌≡◌, ℕ, zero, suc, ◌+◌, ◌<◌, ◌≤◌, List, [], ◌∷◌, length, take, drop, get_or, Some, None, refl, ap, ◌∙◌, arith}
use Rattle.std.specs.List.{slice_get}
use Rattle.std.proofs.lemmas.List.{drop-drop, get_or-map}
use Rattle.std.proofs.lemmas.List.Sums.{sum_by-cons}
use Rattle.dbf_fields.specs.declared.field.Field.{Field}
use Rattle.dbf_fields.specs.Field.{widths}
use Rattle.dbf_fields.specs.Layout.{cells_of, offsets_from, offset_of, width_of}

widths_cons : (f : Field) (fs : List Field) → widths (f ∷ fs) ≡ f.width + widths fs
widths_cons f fs = sum_by-cons (λ g. g.width) f fs

pub length-offsets_from : (offset : ℕ) (fields : List Field) → length (offsets_from offset fields) ≡ length fields
length-offsets_from offset [] = refl
length-offsets_from offset (f ∷ fs) = omega (arith, length-offsets_from (offset + f.width) fs)

-- the list of the offsets and the offset of one field agree
pub offset_at : (fields : List Field) (offset index d : ℕ) → index < length fields → get_or (offsets_from offset fields) index d ≡ offset + widths (take index fields)
offset_at [] offset index d lt = absurd (omega arith)
offset_at (f ∷ fs) offset zero d lt = omega arith
offset_at (f ∷ fs) offset (suc index) d lt = offset_at fs (offset + f.width) index d (omega arith) ∙ omega (arith, widths_cons f (take index fs))

pub width_at : (fields : List Field) (index : ℕ) (d : Field) → index < length fields → width_of fields index ≡ (get_or fields index d).width
width_at fields index d lt = get_or-map (λ (f : Field). f.width) fields index d 0 lt

-- the same of a field that is asked for
pub width_of_field : (fields : List Field) (index : ℕ) → width_of fields index ≡ elim (slice_get fields index) [ None ↦ 0 | Some f ↦ f.width ]
width_of_field [] index = refl
width_of_field (f ∷ fs) zero = refl
width_of_field (f ∷ fs) (suc index) = width_of_field fs index

-- a cell ends where the cells end or before
pub width_within : (fields : List Field) (index : ℕ) → index < length fields → offset_of fields index + width_of fields index ≤ 1 + widths fields
width_within [] index lt = absurd (omega arith)
width_within (f ∷ fs) zero lt = omega (arith, widths_cons f fs)
width_within (f ∷ fs) (suc index) lt = omega (arith, width_within fs index (omega arith), widths_cons f fs, widths_cons f (take index fs))

-- a cell is the bytes from its offset on, as many as the field is wide
pub cell_from : (fields : List Field) (offset index : ℕ) (record_bytes : List ℕ) → index < length fields
    → get_or (cells_of fields (drop offset record_bytes)) index [] ≡ take (width_of fields index) (drop (offset + widths (take index fields)) record_bytes)
cell_from [] offset index record_bytes lt = absurd (omega arith)
cell_from (f ∷ fs) offset zero record_bytes lt = let e : offset + 0 ≡ offset = omega arith in rw e refl
cell_from (f ∷ fs) offset (suc index) record_bytes lt =
    let e : offset + f.width + widths (take index fs) ≡ offset + widths (f ∷ take index fs) = omega (arith, widths_cons f (take index fs)) in
    ap (λ (l : List ℕ). get_or (cells_of fs l) index []) (drop-drop f.width offset record_bytes)
    ∙ cell_from fs (offset + f.width) index record_bytes (omega arith)
    ∙ ap (λ (n : ℕ). take (width_of fs index) (drop n record_bytes)) e
