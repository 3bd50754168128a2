use Rattle.std.proofs.Common.{◌≡◌, replicate}
use Rattle.key_expr.proofs.str_text.fill.Given as goal

abbrev pub invariant-loop : goal.invariant-loop
invariant-loop l = l.key ≡ replicate l.counter l.byte
