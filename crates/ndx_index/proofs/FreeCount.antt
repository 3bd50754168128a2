-- There are no more free pages than pages.
use Rattle.std.proofs.Common.{◌≡◌, ℕ, zero, suc, ◌+◌, ◌<◌, ◌≤◌, List, length, refl, ◌∙◌, subst, inl, inr, arith}
use Rattle.std.proofs.lemmas.Bool.{cases_eq, ne_eqb}
use Rattle.ndx_index.specs.declared.pages.free.FreeList.{FreeList}
use Rattle.ndx_index.specs.PageStore.{Page, page_in}
use Rattle.ndx_index.specs.IndexTree.{next_free_page, here, free_uses, uses_free, AreFree, IsFreeList}
use Rattle.ndx_index.proofs.TreeFrame.{here_itself}

-- f 0 + f 1 + .. + f (n - 1)
abbrev sum_to : ℕ → (ℕ → ℕ) → ℕ
sum_to zero f = 0
sum_to (suc n) f = sum_to n f + f n

sum_plus : (n : ℕ) (f g : ℕ → ℕ) → sum_to n (λ r. f r + g r) ≡ sum_to n f + sum_to n g
sum_plus zero f g = refl
sum_plus (suc n) f g = let rest = sum_plus n f g in omega (arith, rest)

sum_few : (n : ℕ) (f : ℕ → ℕ) → ((r : ℕ) → f r ≤ 1) → sum_to n f ≤ n
sum_few zero f count_bounded = omega arith
sum_few (suc n) f count_bounded = let rest = sum_few n f count_bounded in omega (arith, rest, count_bounded n)

sum_zero : (n : ℕ) → sum_to n (λ r. 0) ≡ 0
sum_zero zero = refl
sum_zero (suc n) = let rest = sum_zero n in omega (arith, rest)

sum_past : (n p : ℕ) → n ≤ p → sum_to n (here p) ≡ 0
sum_past zero p le = refl
sum_past (suc n) p le =
    let rest = sum_past n p (omega arith) in
    let other : here p n ≡ 0 = rw (ne_eqb p n (λ e. omega (arith, e, le))) refl in
    omega (arith, rest, other)

sum_here : (n p : ℕ) → p < n → sum_to n (here p) ≡ 1
sum_here zero p lt = absurd (omega arith)
sum_here (suc n) p lt = elim (cases_eq p n) [
  | inl e ↦ let past = sum_past n p (omega arith) in let it : here p n ≡ 1 = subst (λ x. here p x ≡ 1) e (here_itself p) in omega (arith, past, it)
  | inr ne ↦ let rest = sum_here n p (omega arith) in let other : here p n ≡ 0 = rw (ne_eqb p n ne) refl in omega (arith, rest, other)
]

-- each of the free pages counts once
sum_free : (n : ℕ) (a : List Page) (p : ℕ) → AreFree n a p → sum_to (length a) (free_uses n a p) ≡ n
sum_free zero a p f = sum_zero (length a)
sum_free (suc n) a p f =
    let next = next_free_page (page_in a p) in
    let rest = sum_free n a next f.2 in
    sum_plus (length a) (here p) (free_uses n a next) ∙ omega (arith, sum_here (length a) p f.0, rest)

pub free_few : (a : List Page) (f : FreeList) → IsFreeList a f → ((r : ℕ) → uses_free a f r ≤ 1) → f.count ≤ length a
free_few a f list apart = omega (arith, sum_free f.count a f.head list, sum_few (length a) (uses_free a f) apart)
