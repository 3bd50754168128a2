-- The tokens after one that was cut off.
use Rattle.std.proofs.Common.{◌≡◌, ℕ, zero, suc, List, [], ◌∷◌, drop, length, ◌+◌, ◌-◌, ◌≤◌, refl, ap, ◌∙◌, cond, eqb, true, false, Bool, arith, ltb, get_or, not, Some, None}
use Rattle.dbf_fields.specs.declared.field.Field.{Field}
use Rattle.std.specs.List.{position, position_or_len}
use Rattle.std.specs.Char.{is_ascii_alphabetic, is_ascii_digit}
use Rattle.std.proofs.lemmas.Bool.Decides.{nat_tests}
use Rattle.std.proofs.lemmas.List.Sums.{prefix_len-le-length}
use Rattle.dbf_fields.specs.declared.format.TheConstants.{BLANK}
use Rattle.dbf_fields.specs.Name.{is_name_char}
use Rattle.key_expr.specs.declared.token.Token.{Token}
use Rattle.key_expr.specs.Grammar.{EndsInEnd}
use Rattle.key_expr.specs.Tokens.{tokens_after, token_length, kind_of, prefix_length}

not_below : (b : Bool) (n : ℕ) → cond b (Some n) None ≡ None → b ≡ false
not_below true n e = absurd cc
not_below false n e = refl

-- where nothing passes, all the list stands before
pub position_none : {X : Type 0} (p : X → Bool) (xs : List X) → position p xs ≡ None → length xs ≡ position_or_len p xs
position_none p xs e =
    let none : ltb (position_or_len p xs) (length xs) ≡ false = not_below (ltb (position_or_len p xs) (length xs)) (position_or_len p xs) e in
    let most : position_or_len p xs ≤ length xs = prefix_len-le-length (λ x. not (p x)) xs in
    grind (arith, nat_tests, none, most)

-- the bytes that belong to the token before are passed over
pub tokens_past : (fields : List Field) (whole n : ℕ) (bs : List ℕ)
    → tokens_after fields whole n bs ≡ tokens_after fields whole zero (drop n bs)
tokens_past fields whole zero bs = refl
tokens_past fields whole (suc n) [] = refl
tokens_past fields whole (suc n) (b ∷ bs) = tokens_past fields whole n bs

ends_after : (t : Token) (ts : List Token) → EndsInEnd ts → EndsInEnd (t ∷ ts)
ends_after t [] e = absurd e
ends_after t (u ∷ ts) e = e

-- what holds of both lists, where the test chose each, holds of the one that it chooses
pub either : (P : List Token → Type 0) (v : Bool) (xs ys : List Token) → (v ≡ true → P xs) → (v ≡ false → P ys) → P (cond v xs ys)
either P true xs ys f g = f refl
either P false xs ys f g = g refl

-- the last token is the end
pub ends_in_end : (fields : List Field) (whole n : ℕ) (bs : List ℕ) → EndsInEnd (tokens_after fields whole n bs)
ends_in_end fields whole zero [] = refl
ends_in_end fields whole (suc n) [] = refl
ends_in_end fields whole (suc n) (b ∷ bs) = ends_in_end fields whole n bs
ends_in_end fields whole zero (b ∷ bs) =
    let t : Token = record { kind = kind_of fields (b ∷ bs); offset = whole - length (b ∷ bs) } in
    let later = tokens_after fields whole (token_length (b ∷ bs) - 1) bs in
    either EndsInEnd (eqb b BLANK) (tokens_after fields whole zero bs) (t ∷ later) (λ blank. ends_in_end fields whole zero bs)
    (λ other. ends_after t later (ends_in_end fields whole (token_length (b ∷ bs) - 1) bs))

less_one : (n : ℕ) (b : ℕ) (bs : List ℕ) → 1 ≤ n → drop (n - 1) bs ≡ drop n (b ∷ bs)
less_one zero b bs h = absurd (omega (arith, h))
less_one (suc n) b bs h = let e : suc n - 1 ≡ n = omega arith in rw e refl

-- a token has a byte, and no more than there are
length_by : (p q : Bool) (m n k : ℕ) → m ≤ k → n ≤ k
    → (1 ≤ cond p (1 + m) (cond q (1 + n) 1)) × (cond p (1 + m) (cond q (1 + n) 1) - 1 ≤ k)
length_by true q m n k a b = (omega arith, omega (arith, a))
length_by false true m n k a b = (omega arith, omega (arith, b))
length_by false false m n k a b = (omega arith, omega arith)

pub token_inside : (b : ℕ) (bs : List ℕ) → (1 ≤ token_length (b ∷ bs)) × (token_length (b ∷ bs) - 1 ≤ length bs)
token_inside b bs =
    length_by (is_ascii_alphabetic b) (is_ascii_digit b) (prefix_length is_name_char bs) (prefix_length is_ascii_digit bs) (length bs)
    (prefix_len-le-length (λ x. not (not (is_name_char x))) bs) (prefix_len-le-length (λ x. not (not (is_ascii_digit x))) bs)

-- the first token, and the tokens after its bytes
pub tokens_next : (fields : List Field) (whole b : ℕ) (bs : List ℕ) → eqb b BLANK ≡ false
    → tokens_after fields whole zero (b ∷ bs)
    ≡ record { kind = kind_of fields (b ∷ bs); offset = whole - length (b ∷ bs) } ∷ tokens_after fields whole zero (drop (token_length (b ∷ bs)) (b ∷ bs))
tokens_next fields whole b bs h =
    let e : drop (token_length (b ∷ bs) - 1) bs ≡ drop (token_length (b ∷ bs)) (b ∷ bs) = less_one (token_length (b ∷ bs)) b bs (token_inside b bs).0 in
    rw h (ap (λ (ts : List Token). record { kind = kind_of fields (b ∷ bs); offset = whole - length (b ∷ bs) } ∷ ts)
    (tokens_past fields whole (token_length (b ∷ bs) - 1) bs ∙ ap (λ (cs : List ℕ). tokens_after fields whole zero cs) e))

-- the same of bytes that don't begin with a blank
pub tokens_step : (fields : List Field) (whole : ℕ) (bs : List ℕ) → 1 ≤ length bs → (get_or bs 0 0 ≡ BLANK → ⊥)
    → tokens_after fields whole zero bs
    ≡ record { kind = kind_of fields bs; offset = whole - length bs } ∷ tokens_after fields whole zero (drop (token_length bs) bs)
tokens_step fields whole [] h other = absurd (omega (arith, h))
tokens_step fields whole (b ∷ bs) h other = tokens_next fields whole b bs (grind (arith, nat_tests, other))
