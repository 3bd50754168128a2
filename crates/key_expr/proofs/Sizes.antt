-- How many parts an expression has.
use Rattle.std.proofs.Common.{ℕ, ◌+◌}
use Rattle.key_expr.specs.Grammar.{Expr, concat, upper, substr}

abbrev pub parts : Expr → ℕ
parts (concat a b) = 1 + parts a + parts b
parts (upper a) = 1 + parts a
parts (substr a from count) = 1 + parts a
parts e = 1
