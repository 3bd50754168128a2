use Rattle.std.proofs.Common.{◌≡◌, Some, sym, rules, arith}
use Rattle.std.proofs.lemmas.List.Sums.{sum_by_more}
use Rattle.dbf_fields.specs.declared.field.Field.{Field}
use Rattle.dbf_fields.specs.Schema.{schema_refusal}
use Rattle.dbf_fields.proofs.SchemaLaws.{field_passes, field_fails}
use Rattle.dbf_fields.proofs.schema.check_fields.Goals as goal

pub returns-in_err-check_field-clause-refused : goal.returns-in_err-check_field-clause-refused
returns-in_err-check_field-clause-refused c =
    let fault = c.in_err-check_field.field-0.0 in
    let first : schema_refusal c.args.fields.now ≡ Some fault =
    field_fails c.args.fields.now c.loop-i.i c.index-fields-i.result _ fault c.loop-i-test.true (sym c.index-fields-i.is) c.loop-i.invariant.left c.in_err-check_field.ensures.refused in
    search (rules, first)

pub loop-i-preserved : goal.loop-i-preserved
loop-i-preserved c =
    let fields = c.args.fields.now in
    let field = c.index-fields-i.result in
    let is = sym c.index-fields-i.is in
    record {
      wide = rw (sum_by_more (λ (f : Field). f.width) fields c.loop-i.i field c.loop-i-test.true, is) (omega (arith, c.loop-i.invariant.wide, c.from-widths.ensures));
      bounded = omega (arith, c.loop-i.invariant.bounded, c.from-widths.ensures, c.from-widths.type_inv);
      left = field_passes fields c.loop-i.i field _ c.loop-i-test.true is c.loop-i.invariant.left c.in_ok-check_field.ensures.accepted;
    }
