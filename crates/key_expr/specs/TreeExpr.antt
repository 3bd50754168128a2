-- The tree of the code, without its pointers and lengths.
use Rattle.key_expr.specs.declared.tree.Tree.{Tree, Field, Concat', Upper', Substr', Str, Dtoc}
use Rattle.key_expr.specs.Grammar.{Expr, field, concat, upper, substr, str, dtoc}

abbrev pub expr_of : Tree → Expr
expr_of (Field p) = field p
expr_of (Concat' p a q b n) = concat (expr_of a) (expr_of b)
expr_of (Upper' p a) = upper (expr_of a)
expr_of (Substr' p a n m) = substr (expr_of a) n m
expr_of (Str p n d) = str p n d
expr_of (Dtoc p) = dtoc p
