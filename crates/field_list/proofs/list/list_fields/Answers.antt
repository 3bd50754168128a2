use Rattle.std.proofs.Common.{arith}
use Rattle.field_list.proofs.ReadLaws.{listed_more, all_listed}
use Rattle.field_list.proofs.list.list_fields.Goals as goal

pub loop-line-preserved : goal.loop-line-preserved
loop-line-preserved c = record {
  listed = listed_more _ _ _ _ _ _ _ _ _ c.loop-line.invariant.listed c.in-Some.ensures.joined c.in_ok-add_line.ensures.fields c.in_ok-add_line.ensures.numbers;
  counted = omega (arith, c.loop-line.invariant.counted, c.in-Some.ensures.shorter);
}

pub returns : goal.returns
returns c = record { value = all_listed _ _ _ _ _ c.loop-line.invariant.listed c.in_default.ensures.none }
