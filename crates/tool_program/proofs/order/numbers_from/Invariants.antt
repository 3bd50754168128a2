use Rattle.std.proofs.Common.{◌≡◌, ◌++◌, drop}
use Rattle.tool_program.specs.Order.{numbers_from}
use Rattle.tool_program.proofs.order.numbers_from.Given as goal

-- the numbers so far and those that are left make all
abbrev pub invariant-loop-at : goal.invariant-loop-at
invariant-loop-at l = l.numbers.items ++ numbers_from l.text (drop l.at l.pairs.pairs) ≡ numbers_from l.text l.pairs.pairs
