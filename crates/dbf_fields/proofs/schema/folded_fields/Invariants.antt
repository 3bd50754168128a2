use Rattle.std.proofs.Common.{◌≡◌, take, map}
use Rattle.dbf_fields.specs.Field.{folded}
use Rattle.dbf_fields.proofs.schema.folded_fields.Given as goal

abbrev pub invariant-loop-field : goal.invariant-loop-field
invariant-loop-field l = l.kept.items ≡ map folded (take l.field-index l.fields)
