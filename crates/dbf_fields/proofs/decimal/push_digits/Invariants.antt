use Rattle.std.proofs.Common.{◌≡◌, ◌+◌, ◌*◌, ◌<◌, ◌^◌, take}
use Rattle.dbf_fields.specs.Digits.{digits_after}
use Rattle.dbf_fields.proofs.decimal.push_digits.Given as goal

abbrev pub invariant-loop-digit : goal.invariant-loop-digit
invariant-loop-digit l = record {
  value : l.value ≡ digits_after l.number (take l.digit-index l.digits);
  bounded : l.value < (l.number + 1) * 10 ^ l.digit-index;
}
