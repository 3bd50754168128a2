use Rattle.std.proofs.Common.{◌-◌, ◌∙◌, arith}
use Rattle.std.proofs.Math.ListN.{length-set}
use Rattle.dbf_image.proofs.Numbers.{digit-next, digit-done}
use Rattle.dbf_image.proofs.dbt.blocks.justified_number.Goals as goal

pub loop-at-preserved : goal.loop-at-preserved
loop-at-preserved c =
    let at = c.loop-at.at in
    let cell = c.loop-at.cell in
    record {
      len = length-set cell (at - 1) _ ∙ c.loop-at.invariant.len;
      within = omega arith;
      digits = digit-next at (at - 1) c.loop-at.rest cell _ _ (omega arith) (omega arith) c.last_digit.ensures.value c.loop-at.invariant.digits;
    }

pub returns : goal.returns
returns c = record { value = digit-done c.loop-at.at c.loop-at.rest _ _ (omega arith) c.loop-at.invariant.digits }
