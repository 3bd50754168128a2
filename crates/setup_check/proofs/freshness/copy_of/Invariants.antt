use Rattle.std.proofs.Common.{◌≡◌, take}
use Rattle.setup_check.proofs.freshness.copy_of.Given as goal

abbrev pub invariant-loop-at : goal.invariant-loop-at
invariant-loop-at l = record {
  copied : l.copy.pairs ≡ take l.at l.pairs.pairs;
  key_len : l.copy.key_len ≡ l.pairs.key_len;
}
