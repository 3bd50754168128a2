-- The first field up to which fields are no schema.
use Rattle.std.specs.Prelude.{◌≡◌, ℕ, zero, suc, ◌+◌, ◌<◌, ◌≤◌, List, length, take, Option, Some, None}
use Rattle.dbf_fields.specs.declared.bad_field.BadField.{BadField}
use Rattle.dbf_fields.specs.declared.field.Field.{Field}
use Rattle.dbf_fields.specs.declared.schema.SchemaFault.{SchemaFault}
use Rattle.dbf_fields.specs.Schema.{schema_refusal}

-- the field of this number, where there is a reason, and else the later one
abbrev pub bad_or_later : ℕ → Option SchemaFault → Option BadField → Option BadField
bad_or_later number None later = later
bad_or_later number (Some why) later = Some (record { field_number = number; why = why })

-- the first of the fields from this number on, of which so many are left, up to which the fields are no schema
abbrev pub bad_field_from : List Field → ℕ → ℕ → Option BadField
bad_field_from fields number zero = None
bad_field_from fields number (suc left) = bad_or_later number (schema_refusal (take number fields)) (bad_field_from fields (number + 1) left)

-- the first field up to which the fields are no schema, where there is one
abbrev pub first_bad_field : List Field → Option BadField
first_bad_field fields = bad_field_from fields 1 (length fields)

-- up to this field, and up to none before it, the fields are no schema, and this is why
pub record IsBadField (fields : List Field) (bad : BadField) : Type 0 where
  pub some : 1 ≤ bad.field_number
  pub inside : bad.field_number ≤ length fields
  pub before : (n : ℕ) → 1 ≤ n → n < bad.field_number → schema_refusal (take n fields) ≡ None
  pub here : schema_refusal (take bad.field_number fields) ≡ Some bad.why

-- the same where there may be none: then up to no field they are none
abbrev pub IsFirstBadField : List Field → Option BadField → Type 0
IsFirstBadField fields None = (n : ℕ) → 1 ≤ n → n ≤ length fields → schema_refusal (take n fields) ≡ None
IsFirstBadField fields (Some bad) = IsBadField fields bad
