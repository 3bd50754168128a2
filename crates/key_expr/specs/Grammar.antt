-- The grammar of key expressions, over their tokens.
use Rattle.std.specs.Prelude.{◌≡◌, ℕ, List, [], ◌∷◌, ◌++◌, Option, Some, None}
use Rattle.key_expr.specs.declared.token.Token.{Token}
use Rattle.key_expr.specs.declared.token.Kind.{Kind}
use Rattle.key_expr.specs.declared.fault.ExprFault.{ExprFault}
use Rattle.key_expr.specs.declared.fault.ExprFault.TheVariants.{BadSyntax, NoMemory}
use Rattle.key_expr.specs.declared.token.Kind.TheVariants.{Plus, Open, Close, Comma, Upper, Substr, Str, Dtoc, Name, Number, End}

-- What a key expression is made of. A field is given by its index from 0: the number of all fields stands for a name
-- that no field has.
pub data Expr : Type 0 where
  field : ℕ → Expr
  concat : Expr → Expr → Expr
  upper : Expr → Expr
  substr : Expr → ℕ → ℕ → Expr
  str : ℕ → Option ℕ → Option ℕ → Expr
  dtoc : ℕ → Expr

-- the tokens begin with these kinds, and the others are the rest
abbrev pub Begin : List Kind → List Token → List Token → Type 0
Begin [] ts rest = ts ≡ rest
Begin (k ∷ ks) [] rest = ⊥
Begin (k ∷ ks) (t ∷ ts) rest = (t.kind ≡ k) × Begin ks ts rest

-- the end of a STR after its length, with decimals or without
abbrev pub EndsPoints : Option ℕ → List Token → List Token → Type 0
EndsPoints None ts rest = Begin (Close ∷ []) ts rest
EndsPoints (Some d) ts rest = Begin (Comma ∷ Number d ∷ Close ∷ []) ts rest

-- the end of a STR, with a length, with decimals too, or with neither
abbrev pub EndsWith : Option ℕ → Option ℕ → List Token → List Token → Type 0
EndsWith None None ts rest = Begin (Close ∷ []) ts rest
EndsWith None (Some d) ts rest = ⊥
EndsWith (Some n) d ts rest = (us : List Token) × Begin (Comma ∷ Number n ∷ []) ts us × EndsPoints d us rest

pub data Sort : Type 0 where
  a_term : Sort
  an_expr : Sort

-- The grammar, one rule a line: the first tokens, up to the rest, are an expression, or one term of it.
pub data Reads : Sort → Expr → List Token → List Token → Type 0 where
  one_term : {e : Expr} {ts rest : List Token} → Reads a_term e ts rest → Reads an_expr e ts rest
  sum : {e f : Expr} {ts us vs rest : List Token}
      → Reads a_term e ts us → Begin (Plus ∷ []) us vs → Reads an_expr f vs rest → Reads an_expr (concat e f) ts rest
  field_term : {p : ℕ} {ts rest : List Token} → Begin (Name p ∷ []) ts rest → Reads a_term (field p) ts rest
  parens_term : {e : Expr} {ts us vs rest : List Token}
      → Begin (Open ∷ []) ts us → Reads an_expr e us vs → Begin (Close ∷ []) vs rest → Reads a_term e ts rest
  upper_term : {e : Expr} {ts us vs rest : List Token}
      → Begin (Upper ∷ Open ∷ []) ts us → Reads an_expr e us vs → Begin (Close ∷ []) vs rest → Reads a_term (upper e) ts rest
  substr_term : {e : Expr} {from count : ℕ} {ts us vs rest : List Token}
      → Begin (Substr ∷ Open ∷ []) ts us → Reads an_expr e us vs
      → Begin (Comma ∷ Number from ∷ Comma ∷ Number count ∷ Close ∷ []) vs rest → Reads a_term (substr e from count) ts rest
  str_term : {p : ℕ} {n d : Option ℕ} {ts rest : List Token} (us : List Token)
      → Begin (Str ∷ Open ∷ Name p ∷ []) ts us → EndsWith n d us rest → Reads a_term (str p n d) ts rest
  dtoc_term : {p : ℕ} {ts rest : List Token} → Begin (Dtoc ∷ Open ∷ Name p ∷ Close ∷ []) ts rest → Reads a_term (dtoc p) ts rest

-- the tokens are a whole expression and the end
abbrev pub IsWholeExpression : Expr → List Token → Type 0
IsWholeExpression e ts = (rest : List Token) × Reads an_expr e ts rest × Begin (End ∷ []) rest []

-- the last token is the end
abbrev pub EndsInEnd : List Token → Type 0
EndsInEnd [] = ⊥
EndsInEnd (t ∷ []) = t.kind ≡ End
EndsInEnd (t ∷ u ∷ ts) = EndsInEnd (u ∷ ts)

-- some whole expression begins with the tokens
abbrev pub GoesOn : List Token → Type 0
GoesOn front = (more : List Token) × (e : Expr) × IsWholeExpression e (front ++ more)

-- the first token with which no whole expression can go on stands at the offset
pub record IsBadAt (offset : ℕ) (ts : List Token) : Type 0 where
  pub front : List Token
  pub token : Token
  pub tail : List Token
  pub whole : ts ≡ front ++ token ∷ tail
  pub here : token.offset ≡ offset
  pub before : GoesOn front
  pub after : GoesOn (front ++ token ∷ []) → ⊥

-- a fault that is answered is the offset of the first such token, but for want of memory
abbrev pub IsTokenRefusal : ExprFault → List Token → Type 0
IsTokenRefusal (BadSyntax offset) ts = IsBadAt offset ts
IsTokenRefusal NoMemory ts = Unit {0}
IsTokenRefusal fault ts = ⊥
