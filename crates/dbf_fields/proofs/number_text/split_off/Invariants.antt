use Rattle.std.proofs.Common.{◌≡◌, ◌-◌, ◌/◌, ◌≤◌, ◌^◌, ◌++◌, length, drop, replicate}
use Rattle.dbf_fields.specs.Digits.{last_digits}
use Rattle.dbf_fields.proofs.number_text.split_off.Given as goal

abbrev pub invariant-loop-index : goal.invariant-loop-index
invariant-loop-index l = record {
  made : last_digits l.index l.rest ++ drop l.index l.last ≡ last_digits l.digits l.number ++ replicate (255 - l.digits) 48;
  wide : length l.last ≡ 255;
  left : l.rest / 10 ^ l.index ≡ l.number / 10 ^ l.digits;
  within : l.index ≤ l.digits;
}

abbrev pub decreases-loop-index : goal.decreases-loop-index
decreases-loop-index l = l.index
