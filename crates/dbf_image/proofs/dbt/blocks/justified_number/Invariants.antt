use Rattle.std.proofs.Common.{◌≡◌, ◌≤◌, ◌++◌, length, drop}
use Rattle.dbf_image.specs.Blocks.{justified}
use Rattle.dbf_image.proofs.dbt.blocks.justified_number.Given as goal

abbrev pub invariant-loop-at : goal.invariant-loop-at
invariant-loop-at l = record {
  len : length l.cell ≡ 10;
  within : l.at ≤ 10;
  digits : justified l.at l.rest ++ drop l.at l.cell ≡ justified 10 l.number;
}

abbrev pub decreases-loop-at : goal.decreases-loop-at
decreases-loop-at l = l.at
