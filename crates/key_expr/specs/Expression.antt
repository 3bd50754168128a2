-- What a parsed key expression is.
use Rattle.std.specs.Prelude.{◌≡◌, ℕ, List, Option, Result, Ok, Err}
use Rattle.std.specs.Option.{option_map}
use Rattle.dbf_fields.specs.declared.field.Field.{Field}
use Rattle.dbf_fields.specs.Schema.{IsSchema}
use Rattle.key_expr.specs.declared.fault.ExprFault.{ExprFault}
use Rattle.key_expr.specs.declared.fault.ExprFault.TheVariants.{NoMemory}
use Rattle.key_expr.specs.Grammar.{Expr}
use Rattle.key_expr.specs.Keys.{key_length}
use Rattle.key_expr.specs.Parse.{expr_in}
use Rattle.key_expr.specs.Rules.{IsKeyText}
use Rattle.key_expr.specs.TreeExpr.{expr_of}
use Rattle.key_expr.specs.KeptLengths.{KeepsLengths}
use Rattle.key_expr.specs.declared.tree.Tree.{Tree}

-- the text, the fields that it was parsed for, and what it says
pub record Expression : Type 0 where
  pub text : List ℕ
  pub fields : List Field
  pub expr : Expr

-- the key expression that a text is for these fields, where it is one
abbrev pub expression_in : List Field → List ℕ → Option Expression
expression_in fields text = option_map (λ e. record { text = text; fields = fields; expr = e }) (expr_in fields text)

-- what is kept beside the text belongs to it
pub record BelongsToText (text : List ℕ) (fields : List Field) (tree : Tree) (len : ℕ) : Type 0 where
  pub schema : IsSchema fields
  pub read : IsKeyText fields text (expr_of tree)
  pub lengths : KeepsLengths fields tree
  pub long : len ≡ key_length fields (expr_of tree)

-- the answer is this expression, but for want of memory
abbrev pub IsAnswer : Result Expression ExprFault → Expr → Type 0
IsAnswer (Ok parsed) e = parsed.expr ≡ e
IsAnswer (Err fault) e = fault ≡ NoMemory
