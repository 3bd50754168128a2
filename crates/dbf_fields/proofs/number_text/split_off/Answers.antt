use Rattle.std.proofs.Common.{refl, ◌∙◌, arith}
use Rattle.std.proofs.lemmas.List.{length-set}
use Rattle.dbf_fields.proofs.WrittenDigits.{digit_before, rest_before, all_zeros}
use Rattle.dbf_fields.proofs.number_text.split_off.Goals as goal

pub loop-index-init : goal.loop-index-init
loop-index-init c = record {
  made = all_zeros c.from-index.result c.args.digits c.args.number c.from-index.ensures;
  wide = refl;
  left = rw c.from-index.ensures refl;
  within = omega (arith, c.from-index.ensures);
}

pub loop-index-preserved : goal.loop-index-preserved
loop-index-preserved c =
    let l = c.loop-index in
    let some = c.loop-index-test.true in
    record {
      made = digit_before l.index l.rest l.last some (omega (arith, l.invariant.wide, l.invariant.within)) ∙ l.invariant.made;
      wide = rw length-set l.invariant.wide;
      left = rest_before l.index l.rest some ∙ l.invariant.left;
      within = omega (arith, l.invariant.within);
    }
