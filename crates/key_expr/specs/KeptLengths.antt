-- The lengths that the tree of the code keeps.
use Rattle.std.specs.Prelude.{◌≡◌, List, min}
use Rattle.dbf_fields.specs.declared.field.Field.{Field}
use Rattle.key_expr.specs.declared.format.TheConstants.{MAX_LENGTH}
use Rattle.key_expr.specs.declared.tree.Tree.{Tree, Concat', Upper', Substr'}
use Rattle.key_expr.specs.Keys.{key_length}
use Rattle.key_expr.specs.TreeExpr.{expr_of}

-- with each two parts stands how many bytes the key of the first has
abbrev pub KeepsLengths : List Field → Tree → Type 0
KeepsLengths fields (Concat' p a q b n) = (n ≡ min MAX_LENGTH (key_length fields (expr_of a))) × KeepsLengths fields a × KeepsLengths fields b
KeepsLengths fields (Upper' p a) = KeepsLengths fields a
KeepsLengths fields (Substr' p a n m) = KeepsLengths fields a
KeepsLengths fields tree = Unit {0}
