use Rattle.std.proofs.Common.{◌≡◌, ◌≤◌, ◌++◌, zero, length}
use Rattle.key_expr.specs.Tokens.{tokens_after}
use Rattle.key_expr.proofs.lexer.tokens_of.Given as goal

abbrev pub invariant-loop-rest : goal.invariant-loop-rest
invariant-loop-rest l = record {
  whole : l.tokens.items ++ tokens_after l.fields (length l.text) zero l.rest ≡ tokens_after l.fields (length l.text) zero l.text;
  short : length l.rest ≤ length l.text;
}

abbrev pub decreases-loop-rest : goal.decreases-loop-rest
decreases-loop-rest l = length l.rest
