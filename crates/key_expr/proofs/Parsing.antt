-- What the parts of the reader say of a text.
use Rattle.std.proofs.Common.{◌≡◌, ℕ, ◌≤◌, Bool, true, false, List, [], ◌∷◌, ◌++◌, length, Some, None, refl, sym, ◌∙◌, arith, subst, append_assoc}
use Rattle.std.specs.List.{AllByRecursion}
use Rattle.key_expr.specs.declared.format.TheConstants.{MAX_EXPRESSION_BYTES}
use Rattle.dbf_fields.specs.declared.field.Field.{Field}
use Rattle.dbf_fields.specs.Faults.{first_fault}
use Rattle.key_expr.specs.declared.token.Token.{Token}
use Rattle.key_expr.specs.declared.fault.ExprFault.{ExprFault}
use Rattle.key_expr.specs.declared.fault.ExprFault.TheVariants.{ExpressionTooLong, BadSyntax, NoSuchField, NotCharacter, BadArgument, KeyTooLong, NoMemory}
use Rattle.key_expr.specs.Grammar.{Expr, field, concat, upper, substr, str, dtoc, IsWholeExpression, IsBadAt}
use Rattle.key_expr.specs.Tokens.{tokens_of}
use Rattle.key_expr.specs.Rules.{tests, broken_rule, IsKeyText, Breaks, IsFault}
use Rattle.key_expr.proofs.Unique.{one_reading}

-- a fault of the rules on fields and arguments
abbrev IsRule : ExprFault → Type 0
IsRule f = (fields : List Field) (text : List ℕ) → Breaks f fields text → IsFault f fields text

abbrev AreRules : List (Bool × ExprFault) → Type 0
AreRules ts = AllByRecursion (λ t. IsRule t.1) ts

rules_both : (xs ys : List (Bool × ExprFault)) → AreRules xs → AreRules ys → AreRules (xs ++ ys)
rules_both [] ys a b = b
rules_both (t ∷ xs) ys a b = (a.0, rules_both xs ys a.1 b)

broken : (f : ExprFault) (fields : List Field) (text : List ℕ) → Breaks f fields text → Breaks f fields text
broken f fields text b = b

field_rules : AreRules ((true, NoSuchField) ∷ (true, NotCharacter) ∷ [])
field_rules = (broken NoSuchField, (broken NotCharacter, tt))

rules_of : (fields : List Field) (e : Expr) → AreRules (tests fields e)
rules_of fields (field i) = field_rules
rules_of fields (concat a b) = rules_both (tests fields a) (tests fields b) (rules_of fields a) (rules_of fields b)
rules_of fields (upper a) = rules_of fields a
rules_of fields (substr a from count) = rules_both (tests fields a) _ (rules_of fields a) (broken BadArgument, tt)
rules_of fields (str i n d) = (field_rules.0, (field_rules.1.0, (broken BadArgument, tt)))
rules_of fields (dtoc i) = field_rules

rule_first : (ts : List (Bool × ExprFault)) (f : ExprFault) → AreRules ts → first_fault ts ≡ Some f → IsRule f
rule_first [] f a e = absurd cc
rule_first ((true, g) ∷ ts) f a e = rule_first ts f a.1 e
rule_first ((false, g) ∷ ts) f a e = let same : g ≡ f = cc in subst IsRule same a.0

-- an expression that breaks a rule
pub fault_of_rule : (fields : List Field) (text : List ℕ) (e : Expr) (f : ExprFault) → length text ≤ MAX_EXPRESSION_BYTES
    → IsWholeExpression e (tokens_of fields text) → broken_rule fields e ≡ Some f → IsFault f fields text
fault_of_rule fields text e f short t h =
    rule_first _ f (rules_both (tests fields e) _ (rules_of fields e) (broken KeyTooLong, tt)) h fields text (short, (e, t, h))

-- a text is one expression
pub one_expr : (fields : List Field) (text : List ℕ) (e f : Expr) → IsKeyText fields text e → IsKeyText fields text f → e ≡ f
one_expr fields text e f a b = one_reading (tokens_of fields text) e f a.read b.read

not_bad : (p : ℕ) (ts : List Token) (e : Expr) → IsBadAt p ts → IsWholeExpression e ts → ⊥
not_bad p ts e bad t =
    let split : ts ≡ (bad.front ++ bad.token ∷ []) ++ bad.tail = bad.whole ∙ sym (append_assoc bad.front (bad.token ∷ []) bad.tail) in
    bad.after (bad.tail, e, subst (λ (l : List Token). IsWholeExpression e l) split t)

not_broken : (fields : List Field) (text : List ℕ) (e : Expr) (f : ExprFault) → IsKeyText fields text e → Breaks f fields text → ⊥
not_broken fields text e f k b =
    let same : b.1.0 ≡ e = one_reading (tokens_of fields text) b.1.0 e b.1.1 k.read in
    let broken : broken_rule fields e ≡ Some f = subst (λ (x : Expr). broken_rule fields x ≡ Some f) same b.1.2 in
    let kept : broken_rule fields e ≡ None = k.kept in
    cc

-- no other fault than want of memory where the text is a key expression
pub memory_only : (fields : List Field) (text : List ℕ) (e : Expr) (f : ExprFault)
    → IsKeyText fields text e → IsFault f fields text → f ≡ NoMemory
memory_only fields text e NoMemory k h = refl
memory_only fields text e ExpressionTooLong k h = absurd (omega (arith, k.short, h))
memory_only fields text e (BadSyntax p) k h = absurd (not_bad p (tokens_of fields text) e h.1 k.read)
memory_only fields text e f k h = absurd (not_broken fields text e f k h)
