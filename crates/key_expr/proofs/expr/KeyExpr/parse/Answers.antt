use Rattle.std.proofs.Common.{rules}
use Rattle.key_expr.proofs.ParseLaws.{expression_is}
use Rattle.key_expr.proofs.expr.KeyExpr.parse.Goals as goal

pub returns-clause-one : goal.returns-clause-one
returns-clause-one c = expression_is _ _ _ c.in_ok-text.ensures.items c.in_ok-schema.ensures.value (search rules)
