-- Lists of bytes.
use Rattle.std.proofs.Common.{◌≡◌, ℕ, List, [], ◌∷◌, ◌++◌, get_or, true, Fits, w8, arith, refl, suc, ◌∙◌}
use Rattle.std.specs.List.{list_all}
use Rattle.std.proofs.lemmas.Bool.Decides.{nat_tests}
use Rattle.std.proofs.lemmas.List.Folds.{list_all-append}
use Rattle.byte_io.specs.Sink.{is_byte}

one_byte : (b : ℕ) → Fits w8 b → is_byte b ≡ true
one_byte b fits = grind (arith, nat_tests, fits)

-- each element is a byte
pub slice_is_bytes : (bytes : List ℕ) → ((i : ℕ) → Fits w8 (get_or bytes i 0)) → list_all is_byte bytes ≡ true
slice_is_bytes [] fits = refl
slice_is_bytes (b ∷ bs) fits =
    let first : is_byte b ≡ true = one_byte b (fits 0) in
    let rest : list_all is_byte bs ≡ true = slice_is_bytes bs (λ i. fits (suc i)) in
    rw (first, rest) refl

-- bytes after bytes
pub both_bytes : (xs ys : List ℕ) → list_all is_byte xs ≡ true → list_all is_byte ys ≡ true → list_all is_byte (xs ++ ys) ≡ true
both_bytes xs ys h k = list_all-append is_byte xs ys ∙ (rw (h, k) refl)
