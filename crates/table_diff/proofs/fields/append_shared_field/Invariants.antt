use Rattle.std.proofs.Common.{◌≡◌, drop}
use Rattle.table_diff.specs.Fields.{shared_field}
use Rattle.table_diff.proofs.fields.append_shared_field.Given as goal

-- the field is found among those that are left, where it is found at all
abbrev pub invariant-loop-new_index : goal.invariant-loop-new_index
invariant-loop-new_index l = record {
  same : l.shared.items ≡ l.fn.shared.items;
  left : shared_field l.old_index l.field l.new_index (drop l.new_index l.new_fields) ≡ shared_field l.old_index l.field 0 l.new_fields;
}
