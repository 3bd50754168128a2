-- Which token fits next: a stack of what is still expected.
use Rattle.std.specs.Prelude.{◌≡◌, ℕ, List, [], ◌∷◌, ◌++◌, Option, Some, None}
use Rattle.key_expr.specs.declared.token.Token.{Token}
use Rattle.key_expr.specs.declared.token.Kind.{Kind}
use Rattle.key_expr.specs.declared.token.Kind.TheVariants.{Plus, Open, Close, Comma, Upper, Substr, Str, Dtoc, Name, Number, End}
use Rattle.key_expr.specs.declared.fault.ExprFault.{ExprFault}
use Rattle.key_expr.specs.declared.fault.ExprFault.TheVariants.{BadSyntax, NoMemory}

pub data Expected : Type 0 where
  expr : Expected
  more : Expected
  name : Expected
  number : Expected
  open_ : Expected
  close : Expected
  comma : Expected
  finish : Expected
  lengths : Expected
  points : Expected

-- what is expected after a token of the kind, where it fits; after the end nothing is
abbrev pub expected_after : List Expected → Kind → Option (List Expected)
expected_after (expr ∷ s) Open = Some (expr ∷ close ∷ more ∷ s)
expected_after (expr ∷ s) Upper = Some (open_ ∷ expr ∷ close ∷ more ∷ s)
expected_after (expr ∷ s) Substr = Some (open_ ∷ expr ∷ comma ∷ number ∷ comma ∷ number ∷ close ∷ more ∷ s)
expected_after (expr ∷ s) Str = Some (open_ ∷ name ∷ lengths ∷ more ∷ s)
expected_after (expr ∷ s) Dtoc = Some (open_ ∷ name ∷ close ∷ more ∷ s)
expected_after (expr ∷ s) (Name p) = Some (more ∷ s)
expected_after (more ∷ s) Plus = Some (expr ∷ s)
expected_after (more ∷ s) k = expected_after s k
expected_after (name ∷ s) (Name p) = Some s
expected_after (number ∷ s) (Number n) = Some s
expected_after (open_ ∷ s) Open = Some s
expected_after (close ∷ s) Close = Some s
expected_after (comma ∷ s) Comma = Some s
expected_after (finish ∷ s) End = Some []
expected_after (lengths ∷ s) Comma = Some (number ∷ points ∷ s)
expected_after (lengths ∷ s) Close = Some s
expected_after (points ∷ s) Comma = Some (number ∷ close ∷ s)
expected_after (points ∷ s) Close = Some s
expected_after s k = None

abbrev pub unexpected_at_end : List Expected → Option ℕ
unexpected_at_end [] = None
unexpected_at_end (w ∷ s) = Some 0

-- the offset of the first token that doesn't fit
abbrev pub first_unexpected : List Expected → List Token → Option ℕ
first_unexpected s [] = unexpected_at_end s
first_unexpected s (t ∷ ts) = elim (expected_after s t.kind) [ None ↦ Some t.offset | Some expected ↦ first_unexpected expected ts ]

-- What is expected fits the tokens up to the rest: whatever is expected after it, the first token that doesn't
-- fit is that of the rest.
abbrev pub FitsUpTo : List Expected → List Token → List Token → Type 0
FitsUpTo front ts rest = (s : List Expected) → first_unexpected (front ++ s) ts ≡ first_unexpected s rest

-- the same of one thing that is expected, with another one after it
abbrev pub FitsUpToNext : Expected → List Token → List Token → Type 0
FitsUpToNext front ts rest = (next : Expected) (s : List Expected) → first_unexpected (front ∷ next ∷ s) ts ≡ first_unexpected (next ∷ s) rest

-- a fault that is answered is that offset, but for want of memory
abbrev pub IsUnexpectedAt : ExprFault → Option ℕ → Type 0
IsUnexpectedAt (BadSyntax offset) at = at ≡ Some offset
IsUnexpectedAt NoMemory at = Unit {0}
IsUnexpectedAt fault at = ⊥

abbrev pub IsFirstUnexpected : ExprFault → List Expected → List Token → Type 0
IsFirstUnexpected fault s ts = IsUnexpectedAt fault (first_unexpected s ts)
