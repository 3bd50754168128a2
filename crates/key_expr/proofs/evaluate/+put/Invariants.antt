use Rattle.key_expr.specs.TreeExpr.{expr_of}
use Rattle.key_expr.proofs.Sizes.{parts}
use Rattle.key_expr.proofs.evaluate.+put.Given as goal

abbrev pub decreases-put : goal.decreases-put
decreases-put l = parts (expr_of l.tree.now)
