-- What a caller knows of each number after a put and after a drop.
use Rattle.std.proofs.Common.{◌≡◌, ◌≢◌, ℕ, true, true≢false, cond, List, ◌∷◌, Some, None, IsSome, is_some, nat_cmp, nat_eq, refl, ap, sym, ◌∙◌, eq-eqb, ne_eqb}
use Rattle.std.specs.List.{list_any}
use Rattle.std.specs.Cmp.{nat_cmp_total, unsigned_tied}
use Rattle.std.specs.FinMap.{FinMap, get, insert, retain_keys, get-insert, get-retain_keys, nat_cmp-IsAntisymmetric}

-- the text that was put
pub after_put : (m n : FinMap nat_cmp (List ℕ)) (number : ℕ) (text : List ℕ) → n ≡ insert m number text → get n number ≡ Some text
after_put m n number text e =
    ap (λ x. get x number) e ∙ get-insert nat_cmp_total m number text number
    ∙ ap (λ b. cond b (Some text) (get m number)) (unsigned_tied number number ∙ eq-eqb number number refl)

-- what the other numbers have stays
pub other_put : (m n : FinMap nat_cmp (List ℕ)) (number q : ℕ) (text : List ℕ) → q ≢ number → n ≡ insert m number text → get n q ≡ get m q
other_put m n number q text ne e =
    ap (λ x. get x q) e ∙ get-insert nat_cmp_total m number text q
    ∙ ap (λ b. cond b (Some text) (get m q)) (unsigned_tied q number ∙ ne_eqb q number ne)

-- so each text stays, since the number is new
pub beside_put : (m n : FinMap nat_cmp (List ℕ)) (number q : ℕ) (text held : List ℕ) → get m number ≡ None → n ≡ insert m number text → get m q ≡ Some held → get n q ≡ Some held
beside_put m n number q text held fresh e there =
    other_put m n number q text (λ same. absurd (true≢false (ap is_some (sym there ∙ ap (get m) same ∙ fresh)))) e ∙ there

-- what a drop leaves of each number
pub each_drop : (m n : FinMap nat_cmp (List ℕ)) (numbers : List ℕ) (q : ℕ) → n ≡ retain_keys m (λ k. list_any (nat_eq k) numbers) → get n q ≡ cond (list_any (nat_eq q) numbers) (get m q) None
each_drop m n numbers q e =
    ap (λ x. get x q) e
    ∙ get-retain_keys m (λ k. list_any (nat_eq k) numbers) q (λ x t. ap (λ p. list_any (nat_eq p) numbers) (sym (nat_cmp-IsAntisymmetric q x t)))

-- a text that is listed stays
pub after_drop : (m n : FinMap nat_cmp (List ℕ)) (numbers : List ℕ) (q : ℕ) (held : List ℕ) → n ≡ retain_keys m (λ k. list_any (nat_eq k) numbers) → list_any (nat_eq q) numbers ≡ true → get m q ≡ Some held → get n q ≡ Some held
after_drop m n numbers q held e listed there = each_drop m n numbers q e ∙ ap (λ b. cond b (get m q) None) listed ∙ there

pub first_listed : (q : ℕ) (numbers : List ℕ) → list_any (nat_eq q) (q ∷ numbers) ≡ true
first_listed q numbers = rw (eq-eqb q q refl) refl

pub is_held : (m : FinMap nat_cmp (List ℕ)) (q : ℕ) (held : List ℕ) → get m q ≡ Some held → IsSome (get m q)
is_held m q held e = ap is_some e
