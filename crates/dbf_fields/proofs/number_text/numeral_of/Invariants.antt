use Rattle.std.proofs.Common.{◌≡◌, ◌+◌, ◌<◌, ◌^◌, ◌++◌, length, drop, map}
use Rattle.std.specs.Int.Digits.{digits_of}
use Rattle.dbf_fields.specs.Digits.{numeral}
use Rattle.dbf_fields.proofs.number_text.numeral_of.Given as goal

abbrev pub invariant-loop-rest : goal.invariant-loop-rest
invariant-loop-rest l = record {
  made : map (λ d. 48 + d) (digits_of 10 l.rest) ++ drop l.start l.digits ≡ numeral l.number;
  wide : length l.digits ≡ 39;
  bounded : l.rest < 10 ^ l.start;
  within : l.start < 39;
}

abbrev pub decreases-loop-rest : goal.decreases-loop-rest
decreases-loop-rest l = l.rest
