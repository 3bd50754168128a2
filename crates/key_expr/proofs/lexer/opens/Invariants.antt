use Rattle.std.proofs.Common.{◌≡◌, length}
use Rattle.key_expr.specs.Tokens.{opens}
use Rattle.key_expr.proofs.lexer.opens.Given as goal

abbrev pub invariant-loop-rest : goal.invariant-loop-rest
invariant-loop-rest l = opens l.rest ≡ opens l.text

abbrev pub decreases-loop-rest : goal.decreases-loop-rest
decreases-loop-rest l = length l.rest
