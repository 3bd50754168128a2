-- No byte of a key expression's text is zero: a zero begins no token, and stands in none.
use Rattle.std.proofs.Common.{◌≡◌, ◌≢◌, ℕ, zero, suc, ◌+◌, ◌-◌, Bool, true, false, not, cond, eqb, List, [], ◌∷◌, length, take, Option, Some, None, refl, sym, ap, ◌∙◌, arith}
use Rattle.std.specs.List.{AllByRecursion}
use Rattle.std.specs.Char.{is_ascii_alphabetic, is_ascii_digit}
use Rattle.std.proofs.lemmas.Bool.{eqb-true, true≢false}
use Rattle.dbf_fields.specs.declared.format.TheConstants.{BLANK}
use Rattle.dbf_fields.specs.declared.field.Field.{Field}
use Rattle.dbf_fields.specs.Name.{is_name_char}
use Rattle.key_expr.specs.declared.token.Token.{Token}
use Rattle.key_expr.specs.declared.token.Kind.{Kind}
use Rattle.key_expr.specs.declared.token.Kind.TheVariants.{Bad}
use Rattle.key_expr.specs.Grammar.{Expr}
use Rattle.key_expr.specs.Expected.{Expected, more, expected_after, first_unexpected}
use Rattle.key_expr.specs.Rules.{IsKeyText}
use Rattle.key_expr.specs.Tokens.{tokens_after, token_length, kind_of, prefix_length}
use Rattle.key_expr.proofs.ExpectedSteps.{text_fits}

abbrev is_of_grammar : Kind → Bool
is_of_grammar Bad = false
is_of_grammar kind = true

abbrev AreOfGrammar : List Token → Type 0
AreOfGrammar ts = AllByRecursion (λ t. is_of_grammar t.kind ≡ true) ts

abbrev NoZero : List ℕ → Type 0
NoZero bs = AllByRecursion (λ b. b ≢ 0) bs

-- ---- the tokens of an expression are all of the grammar

bad_fits_none : (s : List Expected) → expected_after s Bad ≡ None
bad_fits_none (more ∷ s) = bad_fits_none s
bad_fits_none s = refl

fits_of_grammar : (s w : List Expected) (k : Kind) → expected_after s k ≡ Some w → is_of_grammar k ≡ true
fits_of_grammar s w Bad e = let none = bad_fits_none s in cc
fits_of_grammar s w k e = refl

next_of_grammar : (s : List Expected) (t : Token) (ts : List Token) (o : Option (List Expected)) → expected_after s t.kind ≡ o
    → ((w : List Expected) → first_unexpected w ts ≡ None → AreOfGrammar ts)
    → ◌≡◌ {A = Option ℕ} (elim o [ None ↦ Some t.offset | Some w ↦ first_unexpected w ts ]) None → AreOfGrammar (t ∷ ts)
next_of_grammar s t ts None e later m = absurd cc
next_of_grammar s t ts (Some w) e later m = (fits_of_grammar s w t.kind e, later w m)

tokens_of_grammar : (s : List Expected) (ts : List Token) → first_unexpected s ts ≡ None → AreOfGrammar ts
tokens_of_grammar s [] m = tt
tokens_of_grammar s (t ∷ ts) m = next_of_grammar s t ts (expected_after s t.kind) refl (λ w. tokens_of_grammar w ts) m

-- ---- bytes whose tokens are all of the grammar

prefix_by : (test : ℕ → Bool) (b : ℕ) (bs : List ℕ) (t : Bool) → test b ≡ t → test 0 ≡ false → NoZero (take (prefix_length test bs) bs)
    → NoZero (take (cond (not (not t)) (1 + prefix_length test bs) 0) (b ∷ bs))
prefix_by test b bs true e z h =
    let one : 1 + prefix_length test bs ≡ suc (prefix_length test bs) = omega arith in
    rw one (λ k. true≢false (sym e ∙ ap test k ∙ z), h)
prefix_by test b bs false e z h = tt

-- the bytes of a prefix_length pass the test, which a zero fails
prefix_no_zero : (test : ℕ → Bool) (bs : List ℕ) → test 0 ≡ false → NoZero (take (prefix_length test bs) bs)
prefix_no_zero test [] z = tt
prefix_no_zero test (b ∷ bs) z = prefix_by test b bs (test b) refl z (prefix_no_zero test bs z)

part_by : (letter digit : Bool) (m n : ℕ) (bs : List ℕ) → NoZero (take m bs) → NoZero (take n bs)
    → NoZero (take (cond letter (1 + m) (cond digit (1 + n) 1) - 1) bs)
part_by true digit m n bs h g = let e : (1 + m) - 1 ≡ m = omega arith in rw e h
part_by false true m n bs h g = let e : (1 + n) - 1 ≡ n = omega arith in rw e g
part_by false false m n bs h g = tt

-- nor has a token a zero after its first byte
token_no_zero : (b : ℕ) (bs : List ℕ) → NoZero (take (token_length (b ∷ bs) - 1) bs)
token_no_zero b bs =
    part_by (is_ascii_alphabetic b) (is_ascii_digit b) (prefix_length is_name_char bs) (prefix_length is_ascii_digit bs) bs
    (prefix_no_zero is_name_char bs refl) (prefix_no_zero is_ascii_digit bs refl)

zero_bad : (fields : List Field) (b : ℕ) (bs : List ℕ) → b ≡ 0 → is_of_grammar (kind_of fields (b ∷ bs)) ≡ false
unfolding kind_of
zero_bad fields b bs e = rw e refl

byte_by : (fields : List Field) (whole offset b n : ℕ) (bs : List ℕ) (t : Bool) → eqb b BLANK ≡ t
    → (AreOfGrammar (tokens_after fields whole zero bs) → NoZero bs)
    → (AreOfGrammar (tokens_after fields whole n bs) → NoZero bs)
    → AreOfGrammar (cond t (tokens_after fields whole zero bs) (record { kind = kind_of fields (b ∷ bs); offset = offset } ∷ tokens_after fields whole n bs))
    → NoZero (b ∷ bs)
byte_by fields whole offset b n bs true e blank token g =
    let is : b ≡ BLANK = eqb-true b BLANK e in
    (λ k. absurd (omega (arith, is, k)), blank g)
byte_by fields whole offset b n bs false e blank token g = (λ k. true≢false (sym g.0 ∙ zero_bad fields b bs k), token g.1)

bytes_no_zero : (fields : List Field) (whole n : ℕ) (bs : List ℕ) → NoZero (take n bs) → AreOfGrammar (tokens_after fields whole n bs) → NoZero bs
bytes_no_zero fields whole n [] h g = tt
bytes_no_zero fields whole (suc n) (b ∷ bs) h g = (h.0, bytes_no_zero fields whole n bs h.1 g)
bytes_no_zero fields whole zero (b ∷ bs) h g =
    byte_by fields whole _ b (token_length (b ∷ bs) - 1) bs (eqb b BLANK) refl (bytes_no_zero fields whole zero bs tt)
    (bytes_no_zero fields whole (token_length (b ∷ bs) - 1) bs (token_no_zero b bs)) g

pub no_zero : (fields : List Field) (text : List ℕ) (e : Expr) → IsKeyText fields text e → AllByRecursion (λ b. b ≢ 0) text
no_zero fields text e k =
    bytes_no_zero fields (length text) zero text tt (tokens_of_grammar _ _ (text_fits e _ k.read))
