use Rattle.std.proofs.Common.{◌≡◌, ◌+◌, ◌++◌, drop}
use Rattle.dbf_fields.specs.Field.{widths}
use Rattle.dbf_fields.specs.Layout.{offsets_from}
use Rattle.dbf_fields.proofs.schema.layout_of.Given as goal

abbrev pub invariant-loop-field : goal.invariant-loop-field
invariant-loop-field l = record {
  made : l.offsets.items ++ offsets_from l.offset (drop l.field-index l.fields) ≡ offsets_from 1 l.fields;
  left : l.offset + widths (drop l.field-index l.fields) ≡ 1 + widths l.fields;
}
