use Rattle.std.proofs.Common.{◌∙◌, map}
use Rattle.std.specs.Char.{to_ascii_uppercase}
use Rattle.dbf_fields.proofs.NameLaws.{has_name_folded}
use Rattle.dbf_fields.proofs.schema.is_duplicate.Goals as goal

pub returns : goal.returns
returns c = record { value = rw c.as_slice.ensures.value at c.any_has_name.ensures.value ∙ has_name_folded c.args.earlier.now (map to_ascii_uppercase c.args.field.now.name) }
