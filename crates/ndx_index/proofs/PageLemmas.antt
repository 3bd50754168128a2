-- The first child pointers and pairs of a page, one more at a time.
use Rattle.std.proofs.Common.{◌≡◌, ℕ, zero, suc, ◌+◌, ◌<◌, Bool, true, List, [], ◌∷◌, ◌++◌, length, length-append, refl, subst, inl, inr, add-one, append_assoc, arith}
use Rattle.std.proofs.lemmas.Bool.{cases_eq, or_right}
use Rattle.ndx_index.specs.declared.pair.Pair.{Pair}
use Rattle.ndx_index.specs.declared.read.page.PageLayout.{PageLayout}
use Rattle.ndx_index.specs.Pages.{child, leaf_pair, children, leaf_pairs, some_child}

pub some_child_at : (test : ℕ → Bool) (s : PageLayout) (page : List ℕ) (i n : ℕ) → i < n → test (child s page i) ≡ true → some_child test s page n ≡ true
some_child_at test s page i zero lt h = absurd (omega arith)
some_child_at test s page i (suc n) lt h = elim (cases_eq i n) [
  | inl e ↦ or_right _ _ (subst (λ k. test (child s page k) ≡ true) e h)
  | inr ne ↦ rw (some_child_at test s page i n (omega arith) h)
]

pub leaf_pairs_more : (s : PageLayout) (page : List ℕ) (old : List Pair) (i : ℕ) → (old ++ leaf_pairs s page i) ++ leaf_pair s page i ∷ [] ≡ old ++ leaf_pairs s page (i + 1)
leaf_pairs_more s page old i = rw (add-one) (append_assoc old (leaf_pairs s page i) (leaf_pair s page i ∷ []))

pub length_pairs : (s : PageLayout) (page : List ℕ) (n : ℕ) → length (leaf_pairs s page n) ≡ n
length_pairs s page zero = refl
length_pairs s page (suc n) = omega (arith, length-append (leaf_pairs s page n) (leaf_pair s page n ∷ []), length_pairs s page n)

pub length_children : (s : PageLayout) (page : List ℕ) (n : ℕ) → length (children s page n) ≡ n
length_children s page zero = refl
length_children s page (suc n) = omega (arith, length-append (children s page n) (child s page n ∷ []), length_children s page n)
