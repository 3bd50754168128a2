use Rattle.std.proofs.Common.{◌≡◌, ◌*◌, ◌≤◌, take, drop, map}
use Rattle.dbf_fields.specs.Faults.{first_fault}
use Rattle.dbf_fields.specs.Field.{folded, widths}
use Rattle.dbf_fields.specs.Schema.{tests_from, schema_refusal}
use Rattle.dbf_fields.proofs.schema.check_fields.Given as goal

abbrev pub invariant-loop-i : goal.invariant-loop-i
invariant-loop-i l = record {
  wide : l.widths ≡ widths (take l.i l.fields);
  bounded : l.widths ≤ 255 * l.i;
  left : first_fault (tests_from (map folded (take l.i l.fields)) (drop l.i l.fields)) ≡ schema_refusal l.fields;
}
