-- The rules on fields and arguments, and which texts are key expressions.
use Rattle.std.specs.Prelude.{◌≡◌, ℕ, ◌≤◌, ◌<◌, Bool, false, ◌&&◌, ◌==◌, nat_le, nat_lt, List, [], ◌∷◌, ◌++◌, length, Option, Some, None}
use Rattle.std.specs.List.{slice_get}
use Rattle.std.specs.Int.{is_in_range}
use Rattle.dbf_fields.specs.declared.field.Field.{Field}
use Rattle.dbf_fields.specs.declared.format.TheConstants.{CHARACTER, NUMBER, DATE}
use Rattle.dbf_fields.specs.Faults.{first_fault}
use Rattle.key_expr.specs.declared.fault.ExprFault.{ExprFault}
use Rattle.key_expr.specs.declared.fault.ExprFault.TheVariants.{ExpressionTooLong, BadSyntax, NoSuchField, NotCharacter, BadArgument, KeyTooLong, NoMemory}
use Rattle.key_expr.specs.declared.format.TheConstants.{MAX_EXPRESSION_BYTES, MAX_KEY_BYTES}
use Rattle.key_expr.specs.Grammar.{Expr, field, concat, upper, substr, str, dtoc, IsWholeExpression, IsBadAt}
use Rattle.key_expr.specs.Tokens.{tokens_of}
use Rattle.key_expr.specs.Keys.{length_given, decimals_given, key_length}

-- the field is of the kind
abbrev pub has_kind : List Field → ℕ → ℕ → Bool
has_kind fields i kind = elim (slice_get fields i) [ None ↦ false | Some f ↦ f.kind == kind ]

-- the decimals are the number's, and the length is at least its width and no longer than a key
abbrev pub can_print : List Field → ℕ → ℕ → ℕ → Bool
can_print fields i width decimals = elim (slice_get fields i) [
  | None ↦ false
  | Some f ↦ (decimals == f.decimals) && is_in_range f.width MAX_KEY_BYTES width
]

-- the tests of a field that has to be of a kind
abbrev pub kind_tests : List Field → ℕ → ℕ → List (Bool × ExprFault)
kind_tests fields i kind = (nat_lt i (length fields), NoSuchField) ∷ (has_kind fields i kind, NotCharacter) ∷ []

-- the tests of an expression from left to right, a term's arguments before the term
abbrev pub tests : List Field → Expr → List (Bool × ExprFault)
tests fields (field i) = kind_tests fields i CHARACTER
tests fields (concat a b) = tests fields a ++ tests fields b
tests fields (upper a) = tests fields a
tests fields (substr a from count) = tests fields a ++ (is_in_range 1 (key_length fields a) from && nat_le 1 count, BadArgument) ∷ []
tests fields (str i n d) = kind_tests fields i NUMBER ++ (can_print fields i (length_given n) (decimals_given d), BadArgument) ∷ []
tests fields (dtoc i) = kind_tests fields i DATE

-- the first rule that an expression breaks
abbrev pub broken_rule : List Field → Expr → Option ExprFault
broken_rule fields e = first_fault (tests fields e ++ (nat_le (key_length fields e) MAX_KEY_BYTES, KeyTooLong) ∷ [])

-- the text is the expression, and keeps the rules
pub record IsKeyText (fields : List Field) (text : List ℕ) (e : Expr) : Type 0 where
  pub short : length text ≤ MAX_EXPRESSION_BYTES
  pub read : IsWholeExpression e (tokens_of fields text)
  pub kept : broken_rule fields e ≡ None

-- a text of the grammar whose expression breaks a rule, this one first
abbrev pub Breaks : ExprFault → List Field → List ℕ → Type 0
Breaks fault fields text =
    (length text ≤ MAX_EXPRESSION_BYTES) × ((e : Expr) × IsWholeExpression e (tokens_of fields text) × (broken_rule fields e ≡ Some fault))

-- what a fault says of the text: the first of the rules that it breaks
abbrev pub IsFault : ExprFault → List Field → List ℕ → Type 0
IsFault ExpressionTooLong fields text = MAX_EXPRESSION_BYTES < length text
IsFault (BadSyntax offset) fields text = (length text ≤ MAX_EXPRESSION_BYTES) × IsBadAt offset (tokens_of fields text)
IsFault NoMemory fields text = Unit {0}
IsFault fault fields text = Breaks fault fields text
