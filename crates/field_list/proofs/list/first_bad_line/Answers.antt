use Rattle.std.proofs.Common.{arith, sym}
use Rattle.field_list.proofs.ReadLaws.{good_more, bad_next, none_bad}
use Rattle.field_list.proofs.list.first_bad_line.Goals as goal

pub returns-in-Some-why_bad : goal.returns-in-Some-why_bad
returns-in-Some-why_bad c = record {
  value = bad_next _ _ _ _ _ _ c.loop-line.invariant.good c.in-Some.ensures.joined (sym c.in-Some-why_bad.ensures.value);
}

pub loop-line-preserved : goal.loop-line-preserved
loop-line-preserved c = record {
  good = good_more _ _ _ _ _ c.loop-line.invariant.good c.in-Some.ensures.joined (sym c.in_default-why_bad.ensures.value);
  counted = omega (arith, c.loop-line.invariant.counted, c.in-Some.ensures.shorter);
}

pub returns : goal.returns
returns c = record { value = none_bad _ _ _ c.loop-line.invariant.good c.in_default.ensures.none }
