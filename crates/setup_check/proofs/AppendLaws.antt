-- What a call that appends and is returned as it is says of its text.
use Rattle.std.proofs.Common.{◌≡◌, ℕ, cond, List, ◌++◌, Result, Ok, Err, ap, append_assoc, ◌∙◌}
use Rattle.std.specs.Prelude.{is_ok, OnOk}

pub appended : {T E : Type 0} (r : Result T E) (new old ys zs : List ℕ) → new ≡ cond (is_ok r) (old ++ ys) old → old ++ ys ≡ zs → OnOk r (new ≡ zs)
appended (Ok x) new old ys zs h k = h ∙ k
appended (Err x) new old ys zs h k = tt

-- six parts, one after another
pub six_parts : (old a b c d e f t1 t2 t3 t4 t5 t6 : List ℕ) → t1 ≡ old ++ a → t2 ≡ t1 ++ b → t3 ≡ t2 ++ c → t4 ≡ t3 ++ d → t5 ≡ t4 ++ e → t6 ≡ t5 ++ f
    → t6 ≡ old ++ (a ++ (b ++ (c ++ (d ++ (e ++ f)))))
six_parts old a b c d e f t1 t2 t3 t4 t5 t6 h1 h2 h3 h4 h5 h6 =
    h6 ∙ (ap (λ (t : List ℕ). t ++ f) (h5 ∙ ap (λ (t : List ℕ). t ++ e) (h4 ∙ ap (λ (t : List ℕ). t ++ d) (h3 ∙ ap (λ (t : List ℕ). t ++ c) (h2 ∙ ap (λ (t : List ℕ). t ++ b) h1))))
    ∙ simp append_assoc)

-- three parts, one after another
pub three_parts : (old a b c t1 t2 t3 : List ℕ) → t1 ≡ old ++ a → t2 ≡ t1 ++ b → t3 ≡ t2 ++ c → t3 ≡ old ++ (a ++ (b ++ c))
three_parts old a b c t1 t2 t3 h1 h2 h3 = h3 ∙ (ap (λ (t : List ℕ). t ++ c) (h2 ∙ ap (λ (t : List ℕ). t ++ b) h1) ∙ simp append_assoc)

-- two parts at once, and two after them
pub two_then_two : (old a b c d t2 t3 t4 : List ℕ) → t2 ≡ old ++ (a ++ b) → t3 ≡ t2 ++ c → t4 ≡ t3 ++ d → t4 ≡ old ++ (a ++ (b ++ (c ++ d)))
two_then_two old a b c d t2 t3 t4 h2 h3 h4 = h4 ∙ (ap (λ (t : List ℕ). t ++ d) (h3 ∙ ap (λ (t : List ℕ). t ++ c) h2) ∙ simp append_assoc)
