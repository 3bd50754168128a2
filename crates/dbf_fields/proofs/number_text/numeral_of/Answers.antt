use Rattle.std.proofs.Common.{◌∙◌, arith}
use Rattle.std.proofs.lemmas.List.{length-set}
use Rattle.dbf_fields.proofs.WrittenDigits.{numeral_before, small_before}
use Rattle.dbf_fields.proofs.number_text.numeral_of.Goals as goal

pub loop-rest-preserved : goal.loop-rest-preserved
loop-rest-preserved c =
    let l = c.loop-rest in
    let some = c.loop-rest-test.true in
    let bounded = small_before l.start l.rest l.invariant.bounded some in
    record {
      made = numeral_before l.start l.rest l.digits some bounded.0 (omega (arith, l.invariant.wide, l.invariant.within)) ∙ l.invariant.made;
      wide = rw length-set l.invariant.wide;
      bounded = bounded.1;
      within = omega (arith, l.invariant.within);
    }
