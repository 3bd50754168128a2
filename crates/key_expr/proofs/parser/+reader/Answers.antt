use Rattle.std.proofs.Common.{[], ◌∷◌}
use Rattle.key_expr.specs.declared.token.Kind.TheVariants.{Open, Upper, Substr, Str, Name}
use Rattle.key_expr.specs.Grammar.{parens_term, upper_term, substr_term, str_term}
use Rattle.key_expr.proofs.ExpectedSteps.{begin_then, begin_first}
use Rattle.key_expr.proofs.parser.+reader.Goals as goal

pub read_term-returns-in_ok-after-in-Open-clause-found : goal.read_term-returns-in_ok-after-in-Open-clause-found
read_term-returns-in_ok-after-in-Open-clause-found t c =
    parens_term (begin_first Open _ _ _ c.in_ok-token.ensures.found c.in-Open.is) c.in_ok-tree-in-Open.ensures.found c.in_ok-after-in-Open.ensures.found

pub read_term-returns-in_ok-new-in-Upper-clause-found : goal.read_term-returns-in_ok-new-in-Upper-clause-found
read_term-returns-in_ok-new-in-Upper-clause-found t c =
    rw c.in_ok-new-in-Upper.ensures.ok (upper_term (begin_then (Upper ∷ []) (Open ∷ []) _ _ _ (begin_first Upper _ _ _ c.in_ok-token.ensures.found c.in-Upper.is) c.in_ok-inside-in-Upper.ensures.found)
    c.in_ok-tree-in-Upper.ensures.found c.in_ok-after-in-Upper.ensures.found)

pub read_term-returns-in_ok-new-in-Substr-clause-found : goal.read_term-returns-in_ok-new-in-Substr-clause-found
read_term-returns-in_ok-new-in-Substr-clause-found t c =
    rw c.in_ok-new-in-Substr.ensures.ok (substr_term (begin_then (Substr ∷ []) (Open ∷ []) _ _ _ (begin_first Substr _ _ _ c.in_ok-token.ensures.found c.in-Substr.is) c.in_ok-inside-in-Substr.ensures.found)
    c.in_ok-tree-in-Substr.ensures.found c.in_ok-from-in-Substr.ensures.found)

pub read_term-returns-in_ok-index-in-Str-clause-found : goal.read_term-returns-in_ok-index-in-Str-clause-found
read_term-returns-in_ok-index-in-Str-clause-found t c =
    let shape = c.in_ok-index-in-Str.ensures.found in
    str_term shape.0 (begin_then (Str ∷ []) (Open ∷ Name _ ∷ []) _ _ _ (begin_first Str _ _ _ c.in_ok-token.ensures.found c.in-Str.is) shape.1) shape.2
