-- Expressions as lists of numbers, by which proofs tell them apart: a part's numbers stand before those of what is made of it.
use Rattle.std.specs.Prelude.{◌≡◌, ℕ, zero, suc, List, [], ◌∷◌, Option, Some, None, refl}
use Rattle.std.proofs.Common.{◌∙◌}
use Rattle.std.specs.Coded.{Coded, code_by, coded×, coded_list, coded_ℕ}
use Rattle.key_expr.specs.Grammar.{Expr, field, concat, upper, substr, str, dtoc}

abbrev Step : Type 0
Step = (ℕ × ℕ) × (ℕ × ℕ)

abbrev number_of : Option ℕ → ℕ
number_of None = zero
number_of (Some n) = suc n

abbrev option_of : ℕ → Option ℕ
option_of zero = None
option_of (suc n) = Some n

abbrev steps : Expr → List Step → List Step
steps (field i) rest = ((0, i), (0, 0)) ∷ rest
steps (concat a b) rest = steps a (steps b (((1, 0), (0, 0)) ∷ rest))
steps (upper a) rest = steps a (((2, 0), (0, 0)) ∷ rest)
steps (substr a from count) rest = steps a (((3, from), (count, 0)) ∷ rest)
steps (str i n d) rest = ((4, i), (number_of n, number_of d)) ∷ rest
steps (dtoc i) rest = ((5, i), (0, 0)) ∷ rest

abbrev made : ℕ → ℕ → ℕ → ℕ → List Expr → List Expr
made zero i m n es = field i ∷ es
made (suc zero) i m n (b ∷ a ∷ es) = concat a b ∷ es
made (suc (suc zero)) i m n (a ∷ es) = upper a ∷ es
made (suc (suc (suc zero))) i m n (a ∷ es) = substr a i m ∷ es
made (suc (suc (suc (suc zero)))) i m n es = str i (option_of m) (option_of n) ∷ es
made (suc (suc (suc (suc (suc zero))))) i m n es = dtoc i ∷ es
made tag i m n es = es

abbrev built : List Step → List Expr → List Expr
built [] es = es
built (s ∷ rest) es = built rest (made s.0.0 s.0.1 s.1.0 s.1.1 es)

abbrev first_of : List Expr → Expr
first_of [] = field 0
first_of (e ∷ es) = e

same_option : (o : Option ℕ) → option_of (number_of o) ≡ o
same_option None = refl
same_option (Some n) = refl

built-steps : (e : Expr) (rest : List Step) (es : List Expr) → built (steps e rest) es ≡ built rest (e ∷ es)
built-steps (field i) rest es = refl
built-steps (concat a b) rest es = built-steps a _ es ∙ built-steps b _ (a ∷ es)
built-steps (upper a) rest es = built-steps a _ es
built-steps (substr a from count) rest es = built-steps a _ es
built-steps (str i n d) rest es = λ k. built rest (str i (same_option n k) (same_option d k) ∷ es)
built-steps (dtoc i) rest es = refl

pub expr_again : (e : Expr) → first_of (built (steps e []) []) ≡ e
expr_again e = λ i. first_of (built-steps e [] [] i)

abbrev pub expr_code : Coded Expr
expr_code =
    code_by (List Step) (coded_list (coded× (coded× coded_ℕ coded_ℕ) (coded× coded_ℕ coded_ℕ))) (λ e. steps e []) (λ s. first_of (built s [])) expr_again
