-- Which lists of fields a table may have, and the refusal of the others.
use Rattle.std.specs.Prelude.{◌≡◌, Bool, not, List, [], ◌∷◌, ◌++◌, ◌⊎◌, length, map, nat_le, Option, Some, None}
use Rattle.std.specs.Int.{is_in_range}
use Rattle.dbf_fields.specs.declared.field.Field.{Field}
use Rattle.dbf_fields.specs.declared.schema.SchemaFault.{SchemaFault}
use Rattle.dbf_fields.specs.declared.schema.SchemaFault.TheVariants.{BadFieldCount, BadName, DuplicateName, BadKind, BadWidth, RecordTooLong, NoMemory}
use Rattle.dbf_fields.specs.Faults.{first_fault}
use Rattle.dbf_fields.specs.Name.{is_name}
use Rattle.dbf_fields.specs.Field.{is_kind, has_width, has_name, folded, widths}
use Rattle.dbf_fields.specs.declared.format.TheConstants.{MAX_FIELDS, MAX_RECORD_BYTES}

-- the tests of a field after the earlier ones as the schema keeps them
abbrev pub field_tests : List Field → Field → List (Bool × SchemaFault)
field_tests earlier f =
    (is_name f.name, BadName)
    ∷ (not (has_name earlier (folded f).name), DuplicateName)
    ∷ (is_kind f.kind, BadKind)
    ∷ (has_width f, BadWidth)
    ∷ []

-- the tests from a field on, and after the last field that of the record
abbrev pub tests_from : List Field → List Field → List (Bool × SchemaFault)
tests_from earlier [] = (nat_le (widths earlier) MAX_RECORD_BYTES, RecordTooLong) ∷ []
tests_from earlier (f ∷ fs) = field_tests earlier f ++ tests_from (earlier ++ folded f ∷ []) fs

-- why the fields are no schema, where they are none
abbrev pub schema_refusal : List Field → Option SchemaFault
schema_refusal fields = first_fault ((is_in_range 1 MAX_FIELDS (length fields), BadFieldCount) ∷ tests_from [] fields)

-- the fields of a schema: none is refused, and each is as a schema keeps it
pub record IsSchema (fields : List Field) : Type 0 where
  pub accepted : schema_refusal fields ≡ None
  pub kept : map folded fields ≡ fields

-- a fault that is answered is the first one, but for want of memory
abbrev pub IsSchemaRefusal : SchemaFault → List Field → Type 0
IsSchemaRefusal fault fields = (fault ≡ NoMemory) ⊎ (schema_refusal fields ≡ Some fault)
