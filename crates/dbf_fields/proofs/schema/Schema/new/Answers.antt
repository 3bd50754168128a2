use Rattle.dbf_fields.proofs.SchemaLaws.{schema_from_accepted, accepted_widths}
use Rattle.dbf_fields.proofs.schema.Schema.new.Goals as goal

pub layout_of-requires : goal.layout_of-requires
layout_of-requires c = record { short = rw (c.deref.ensures.value, c.in_ok-fields.ensures.value) (accepted_widths c.args.fields.now c.in_ok-check_fields.ensures.accepted) }

pub invariant_of-result : goal.invariant_of-result
invariant_of-result c = record {
  schema = rw c.in_ok-fields.ensures.value (schema_from_accepted c.args.fields.now c.in_ok-check_fields.ensures.accepted);
  offsets_are = rw c.deref.ensures.value at c.in_ok-offsets.ensures.offsets;
  length_is = rw c.deref.ensures.value at c.in_ok-offsets.ensures.end;
}
