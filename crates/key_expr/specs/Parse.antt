-- The key expression that a text is, as a function: a clause for each production, over the kinds of the tokens.
use Rattle.std.specs.Prelude.{ℕ, zero, suc, nat_le, List, [], ◌∷◌, length, map, Option, Some, None, if◌then◌else◌}
use Rattle.dbf_fields.specs.declared.field.Field.{Field}
use Rattle.key_expr.specs.declared.token.Token.{Token}
use Rattle.key_expr.specs.declared.token.Kind.{Kind}
use Rattle.key_expr.specs.declared.token.Kind.TheVariants.{Plus, Open, Close, Comma, Upper, Substr, Str, Dtoc, Name, Number, End}
use Rattle.key_expr.specs.declared.format.TheConstants.{MAX_EXPRESSION_BYTES}
use Rattle.key_expr.specs.Grammar.{Expr, field, concat, upper, substr, str, dtoc}
use Rattle.key_expr.specs.Rules.{broken_rule}
use Rattle.key_expr.specs.Tokens.{tokens_of}

-- the expression that stands first, and the kinds of the tokens after it
abbrev pub Parsed : Type 0
Parsed = Option (Expr × List Kind)

-- what is made of an expression before a closing parenthesis
abbrev pub in_parentheses : (Expr → Expr) → Parsed → Parsed
in_parentheses f (Some (e, Close ∷ rest)) = Some (f e, rest)
in_parentheses f parsed = None

-- what is made of the expression in a SUBSTR
abbrev pub windowed : Parsed → Parsed
windowed (Some (e, Comma ∷ Number from ∷ Comma ∷ Number count ∷ Close ∷ rest)) = Some (substr e from count, rest)
windowed parsed = None

-- a term that stands first; `inside` parses the expressions in it
abbrev pub term_first : (List Kind → Parsed) → List Kind → Parsed
term_first inside (Name p ∷ rest) = Some (field p, rest)
term_first inside (Open ∷ rest) = in_parentheses (λ e. e) (inside rest)
term_first inside (Upper ∷ Open ∷ rest) = in_parentheses upper (inside rest)
term_first inside (Substr ∷ Open ∷ rest) = windowed (inside rest)
term_first inside (Str ∷ Open ∷ Name p ∷ Close ∷ rest) = Some (str p None None, rest)
term_first inside (Str ∷ Open ∷ Name p ∷ Comma ∷ Number n ∷ Close ∷ rest) = Some (str p (Some n) None, rest)
term_first inside (Str ∷ Open ∷ Name p ∷ Comma ∷ Number n ∷ Comma ∷ Number d ∷ Close ∷ rest) = Some (str p (Some n) (Some d), rest)
term_first inside (Dtoc ∷ Open ∷ Name p ∷ Close ∷ rest) = Some (dtoc p, rest)
term_first inside kinds = None

-- an expression after a term and a `+`
abbrev pub added : Expr → Parsed → Parsed
added e (Some (f, rest)) = Some (concat e f, rest)
added e None = None

-- a term, or a sum where a `+` is next; `inside` parses the rest of the sum
abbrev pub summed : (List Kind → Parsed) → Parsed → Parsed
summed inside (Some (e, Plus ∷ rest)) = added e (inside rest)
summed inside parsed = parsed

-- an expression that stands first, as long as it can be. What is in it has fewer tokens and is parsed by a smaller count,
-- so as many as there are tokens are enough
abbrev pub expression_first : ℕ → List Kind → Parsed
expression_first zero kinds = None
expression_first (suc n) kinds = summed (expression_first n) (term_first (expression_first n) kinds)

-- an expression and the end
abbrev pub whole : Parsed → Option Expr
whole (Some (e, End ∷ [])) = Some e
whole parsed = None

abbrev pub kinds_of : List Token → List Kind
kinds_of tokens = map (λ t. t.kind) tokens

-- the expression that the tokens are
unfoldable pub expr_of_tokens : List Token → Option Expr
expr_of_tokens tokens = whole (expression_first (length tokens) (kinds_of tokens))

-- the expression, where it keeps the rules
abbrev pub where_kept : List Field → Option Expr → Option Expr
where_kept fields None = None
where_kept fields (Some e) = elim (broken_rule fields e) [ None ↦ Some e | Some fault ↦ None ]

-- The key expression that a text is, if it is one: a function, with a clause for each rule of the grammar. It agrees with
-- `IsKeyText` (proofs/ParseLaws.antt).
unfoldable pub expr_in : List Field → List ℕ → Option Expr
expr_in fields text = if nat_le (length text) MAX_EXPRESSION_BYTES then where_kept fields (expr_of_tokens (tokens_of fields text)) else None
