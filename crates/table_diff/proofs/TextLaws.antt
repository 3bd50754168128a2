-- The lines of changes.
use Rattle.std.proofs.Common.{◌≡◌, ℕ, List, [], ◌∷◌, ◌++◌, length, map, refl, ap, ◌∙◌, ◌<◌, arith}
use Rattle.std.specs.Prelude.{codes, flat_map}
use Rattle.std.proofs.lemmas.Grind.{flat_map-append}
use Rattle.dbf_fields.specs.declared.field.Field.{Field}
use Rattle.table_diff.specs.Changes.{Change, old_field, new_field, other_order, record_added, record_removed, record_marked, record_recalled, replaced, or_other_order}
use Rattle.table_diff.specs.DiffText.{change_line, change_lines, field_told, mark_told, row_told, value_told}
use Rattle.table_diff.proofs.RowLaws.{both_none}

-- no line is empty
line_some : (c : Change) → change_line c ≡ [] → ⊥
unfolding field_told mark_told row_told value_told
line_some (old_field f) e = cc
line_some (new_field f) e = cc
line_some other_order e = cc
line_some (record_added number fields row) e = cc
line_some (record_removed number fields row) e = cc
line_some (record_marked numbers) e = cc
line_some (record_recalled numbers) e = cc
line_some (replaced numbers name a b) e = cc

-- so where there is no text nothing has changed
pub no_lines : (cs : List Change) → change_lines cs ≡ [] → cs ≡ []
no_lines [] e = refl
no_lines (c ∷ cs) e = absurd (line_some c (both_none (change_line c) (change_lines cs) e).0)

pub old_lines : (fs : List Field) → change_lines (map old_field fs) ≡ flat_map (field_told (codes "old field ")) fs
old_lines [] = refl
old_lines (f ∷ fs) = ap (λ (rest : List ℕ). field_told (codes "old field ") f ++ rest) (old_lines fs)

pub new_lines : (fs : List Field) → change_lines (map new_field fs) ≡ flat_map (field_told (codes "new field ")) fs
new_lines [] = refl
new_lines (f ∷ fs) = ap (λ (rest : List ℕ). field_told (codes "new field ") f ++ rest) (new_lines fs)

-- the lines of all fields that one table alone has
pub fields_lines : (olds news : List Field) → change_lines (map old_field olds ++ map new_field news) ≡ flat_map (field_told (codes "old field ")) olds ++ flat_map (field_told (codes "new field ")) news
fields_lines olds news =
    flat_map-append change_line (map old_field olds) (map new_field news)
    ∙ ap (λ (text : List ℕ). text ++ change_lines (map new_field news)) (old_lines olds)
    ∙ ap (λ (text : List ℕ). flat_map (field_told (codes "old field ")) olds ++ text) (new_lines news)

-- some changes are told as they are
pub some_changes : (cs : List Change) → 0 < length cs → or_other_order cs ≡ cs
some_changes [] h = absurd (omega (arith, h))
some_changes (c ∷ cs) h = refl
