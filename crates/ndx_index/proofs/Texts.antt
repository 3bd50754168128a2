-- The text of a key expression.
use Rattle.std.proofs.Common.{◌≡◌, ◌≢◌, ℕ, zero, suc, ◌<◌, ◌≤◌, List, [], ◌∷◌, ◌++◌, length, take, drop, reverse, replicate, get_or, refl, ap, sym, ◌∙◌, arith}
use Rattle.std.specs.List.{AllByRecursion}
use Rattle.std.proofs.lemmas.Bool.{ne_eqb, eq-eqb}
use Rattle.std.proofs.lemmas.List.{reverse-append, reverse-reverse}
use Rattle.std.proofs.Math.Seq.{take-suc}
use Rattle.dbf_fields.specs.declared.format.TheConstants.{BLANK}
use Rattle.ndx_index.specs.Header.{before_zero, trimmed_end}

-- one more byte that isn't zero
pub zero_step : (xs : List ℕ) (i d : ℕ) → i < length xs → get_or xs i d ≢ 0 → take (suc i) xs ++ before_zero (drop (suc i) xs) ≡ take i xs ++ before_zero (drop i xs)
unfolding before_zero
zero_step [] i d lt ne = absurd (omega arith)
zero_step (x ∷ xs) zero d lt ne = rw (ne_eqb x 0 ne) refl
zero_step (x ∷ xs) (suc i) d lt ne = ap (λ (ys : List ℕ). x ∷ ys) (zero_step xs i d (omega arith) ne)

-- the first zero
pub zero_stop : (xs : List ℕ) (i d : ℕ) → i < length xs → get_or xs i d ≡ 0 → take i xs ≡ take i xs ++ before_zero (drop i xs)
unfolding before_zero
zero_stop [] i d lt e = absurd (omega arith)
zero_stop (x ∷ xs) zero d lt e = rw (eq-eqb x 0 e) refl
zero_stop (x ∷ xs) (suc i) d lt e = ap (λ (ys : List ℕ). x ∷ ys) (zero_stop xs i d (omega arith) e)

-- no zero
pub zero_none : (xs : List ℕ) (i : ℕ) → length xs ≤ i → xs ≡ take i xs ++ before_zero (drop i xs)
unfolding before_zero
zero_none [] zero h = refl
zero_none [] (suc i) h = refl
zero_none (x ∷ xs) zero h = absurd (omega arith)
zero_none (x ∷ xs) (suc i) h = ap (λ (ys : List ℕ). x ∷ ys) (zero_none xs i (omega arith))

-- a blank at the end
pub trim_step : (xs : List ℕ) (n d : ℕ) → n < length xs → get_or xs n d ≡ BLANK → trimmed_end (take n xs) ≡ trimmed_end (take (suc n) xs)
unfolding trimmed_end
trim_step xs n d lt e =
    let more : take (suc n) xs ≡ take n xs ++ get_or xs n d ∷ [] = take-suc xs n d lt in
    rw (more, reverse-append (take n xs) (get_or xs n d ∷ []), eq-eqb (get_or xs n d) BLANK e) refl

-- no blank at the end
pub trim_stop : (xs : List ℕ) (n d : ℕ) → n < length xs → get_or xs n d ≢ BLANK → take (suc n) xs ≡ trimmed_end (take (suc n) xs)
unfolding trimmed_end
trim_stop xs n d lt ne =
    let more : take (suc n) xs ≡ take n xs ++ get_or xs n d ∷ [] = take-suc xs n d lt in
    let back : reverse (get_or xs n d ∷ reverse (take n xs)) ≡ take n xs ++ get_or xs n d ∷ [] =
    ap (λ (ys : List ℕ). reverse ys) (sym (reverse-append (take n xs) (get_or xs n d ∷ []))) ∙ reverse-reverse (take n xs ++ get_or xs n d ∷ []) in
    rw (more, reverse-append (take n xs) (get_or xs n d ∷ []), ne_eqb (get_or xs n d) BLANK ne) (sym back)

-- only blanks
pub trim_none : (xs : List ℕ) (n : ℕ) → n ≤ 0 → take n xs ≡ trimmed_end (take n xs)
unfolding trimmed_end
trim_none xs zero h = refl
trim_none xs (suc n) h = absurd (omega arith)

-- ---- what is written is read

pub before_zeros : (xs : List ℕ) (n : ℕ) → before_zero (xs ++ replicate n 0) ≡ before_zero xs
unfolding before_zero
before_zeros [] zero = refl
before_zeros [] (suc n) = refl
before_zeros (x ∷ xs) n = rw (before_zeros xs n) refl

pub no_zero : (xs : List ℕ) → AllByRecursion (λ x. x ≢ 0) xs → before_zero xs ≡ xs
unfolding before_zero
no_zero [] h = refl
no_zero (x ∷ xs) h = rw (ne_eqb x 0 h.0) (ap (λ (ys : List ℕ). x ∷ ys) (no_zero xs h.1))
