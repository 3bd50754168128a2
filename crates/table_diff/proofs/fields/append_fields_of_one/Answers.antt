use Rattle.std.proofs.Common.{ℕ, ◌<◌, Bool, List, [], ◌∷◌, length, not, take, ap, length-append, arith}
use Rattle.std.specs.Prelude.{filter, flat_map}
use Rattle.dbf_fields.specs.declared.field.Field.{Field}
use Rattle.table_diff.specs.DiffText.{field_told}
use Rattle.table_diff.specs.Fields.{has_field}
use Rattle.table_diff.proofs.Steps.{one_more, kept_next, told_next}
use Rattle.table_diff.proofs.fields.append_fields_of_one.Goals as goal

pub loop-field-preserved : goal.loop-field-preserved
loop-field-preserved c =
    let fs = c.args.fields.now in
    let i = c.loop-field.field-index in
    let lt : i < length fs = omega (arith, c.loop-field-test.true) in
    let p : Field → Bool = λ f. not (has_field c.args.others.now f) in
    let told : Field → List ℕ = field_told c.args.words.now in
    let f : Field = c.field-item.result in
    let before : List Field = filter p (take i fs) in
    let own : List Field = filter p (f ∷ []) in record {
      lines = one_more c.args.text.now.items (flat_map told before) (flat_map told own) _ _ _ c.loop-field.invariant.lines c.in_ok-told.ensures.lines (told_next told p fs i f lt c.field-item.is);
      count = omega (arith, c.loop-field.invariant.count, c.in_ok-told.ensures.count, ap (length {A = Field}) (kept_next p fs i f lt c.field-item.is), length-append before own);
      bounded = omega (arith, c.loop-field.invariant.bounded, c.in_ok-told.ensures.bounded);
    }
