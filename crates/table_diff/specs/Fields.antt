-- The fields of two tables.
use Rattle.std.specs.Prelude.{ℕ, ◌+◌, Bool, true, false, not, filter, ◌&&◌, ◌==◌, bytes_eq, if◌then◌else◌, List, [], ◌∷◌, ◌++◌}
use Rattle.std.specs.List.{list_any}
use Rattle.dbf_fields.specs.declared.field.Field.{Field}
use Rattle.table_diff.specs.declared.fields.SharedField.{SharedField}

-- fields of one name, kind, width and number of decimals
abbrev pub is_same_field : Field → Field → Bool
is_same_field f g = ((bytes_eq f.name g.name && (f.kind == g.kind)) && (f.width == g.width)) && (f.decimals == g.decimals)

-- the same fields in the same order
abbrev pub are_same_fields : List Field → List Field → Bool
are_same_fields [] [] = true
are_same_fields [] (g ∷ gs) = false
are_same_fields (f ∷ fs) [] = false
are_same_fields (f ∷ fs) (g ∷ gs) = is_same_field f g && are_same_fields fs gs

-- one of the fields is the same
abbrev pub has_field : List Field → Field → Bool
has_field fields f = list_any (is_same_field f) fields

-- those of the fields that the others have not
abbrev pub fields_without : List Field → List Field → List Field
fields_without others fields = filter (λ f. not (has_field others f)) fields

-- a field that both tables have, by its index in the old and in the new one, and whether it is the same
abbrev pub shared_at : ℕ → ℕ → Bool → SharedField
shared_at old_index new_index is_same = record { old_index = old_index; new_index = new_index; is_same = is_same }

-- of the new fields, which have indexes from this one on, the first that has the name of an old field
abbrev pub shared_field : ℕ → Field → ℕ → List Field → List SharedField
shared_field old_index f new_index [] = []
shared_field old_index f new_index (g ∷ gs) =
    if bytes_eq g.name f.name
    then shared_at old_index new_index (is_same_field f g) ∷ []
    else shared_field old_index f (new_index + 1) gs

-- the old fields, which have indexes from this one on, with whose names there are new ones
abbrev pub shared_from : ℕ → List Field → List Field → List SharedField
shared_from index [] new = []
shared_from index (f ∷ fs) new = shared_field index f 0 new ++ shared_from (index + 1) fs new

-- the fields that both tables have, by their names
abbrev pub shared_fields : List Field → List Field → List SharedField
shared_fields old new = shared_from 0 old new
