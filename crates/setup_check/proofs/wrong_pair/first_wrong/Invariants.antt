use Rattle.std.proofs.Common.{◌≡◌, ◌+◌, drop}
use Rattle.setup_check.specs.WrongPair.{first_wrong, first_wrong_from}
use Rattle.setup_check.proofs.wrong_pair.first_wrong.Given as goal

-- the first of those that are left is the first of all
abbrev pub invariant-loop-i : goal.invariant-loop-i
invariant-loop-i l = first_wrong_from l.records.table l.expr.expr (l.i + 1) (drop l.i l.pairs.pairs) ≡ first_wrong l.records.table l.expr.expr l.pairs.pairs
