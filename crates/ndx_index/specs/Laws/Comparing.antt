-- Pairs compared: a total order, in which only one pair ties with a pair.
use Rattle.std.proofs.Common.{◌≡◌, ℕ, true, false, not, List, refl, ap, sym}
use Rattle.std.specs.declared.cmp.Ordering.{Ordering}
use Rattle.std.specs.declared.cmp.Ordering.TheVariants.{Less, Equal, Greater}
use Rattle.std.specs.Cmp.{IsTotalOrder}
use Rattle.std.specs.Cmp.Lexicographic.{slice_cmp}
use Rattle.std.specs.Ordering.{nat_cmp, is_lt, is_eq, ordering_reverse}
use Rattle.std.proofs.lemmas.Bool.{false≢true}
use Rattle.std.proofs.lemmas.Cmp.{then_total, on_total, nat_list_cmp_total, nat_cmp_total, tied_itself}
use Rattle.std.proofs.lemmas.Map.Lookups.{CmpEqualImpliesEq, exact_pairs, exact_bytes, exact_unsigned}
use Rattle.ndx_index.specs.declared.pair.Pair.{Pair}
use Rattle.ndx_index.specs.Order.{pair_cmp, before, same}

pub pairs_total : IsTotalOrder pair_cmp
pairs_total = then_total (on_total (λ (p : Pair). p.key) nat_list_cmp_total) (on_total (λ (p : Pair). p.number) nat_cmp_total)

-- pairs that compare alike are one
pub exact_pair : CmpEqualImpliesEq pair_cmp
exact_pair a b h = ap (λ (p : List ℕ × ℕ). record { key = p.0; number = p.1 }) (exact_pairs (slice_cmp nat_cmp) nat_cmp exact_bytes exact_unsigned (a.key, a.number) (b.key, b.number) h)

pub Less-from_is_lt : (o : Ordering) → is_lt o ≡ true → o ≡ Less
Less-from_is_lt Less h = refl
Less-from_is_lt Equal h = absurd (false≢true h)
Less-from_is_lt Greater h = absurd (false≢true h)

Equal-from_is_eq : (o : Ordering) → is_eq o ≡ true → o ≡ Equal
Equal-from_is_eq Equal h = refl
Equal-from_is_eq Less h = absurd (false≢true h)
Equal-from_is_eq Greater h = absurd (false≢true h)

pub before_is : (a b : Pair) → before a b ≡ true → pair_cmp a b ≡ Less
before_is a b h = Less-from_is_lt (pair_cmp a b) h

pub before_trans : (a b c : Pair) → pair_cmp a b ≡ Less → pair_cmp b c ≡ Less → pair_cmp a c ≡ Less
before_trans a b c = pairs_total.trans a b c

pub same_is : (a b : Pair) → same a b ≡ true → a ≡ b
same_is a b h = exact_pair a b (Equal-from_is_eq (pair_cmp a b) h)

pub irreflexive : (p : Pair) → pair_cmp p p ≡ Less → ⊥
irreflexive p h = let tie = tied_itself pairs_total p in cc

pub same_itself : (a : Pair) → same a a ≡ true
same_itself a = ap is_eq (tied_itself pairs_total a)

-- of two different pairs, one stands before the other
turned : (o r : Ordering) → r ≡ ordering_reverse o → is_lt o ≡ false → (o ≡ Equal → ⊥) → r ≡ Less
turned Less r e h ne = absurd (false≢true (sym h))
turned Equal r e h ne = absurd (ne refl)
turned Greater r e h ne = e

pub before_other : (q p : Pair) → before q p ≡ false → (q ≡ p → ⊥) → pair_cmp p q ≡ Less
before_other q p h ne = turned (pair_cmp q p) (pair_cmp p q) (pairs_total.antisymm p q) h (λ e. ne (exact_pair q p e))

pub not_same : (a b : Pair) → (b ≡ a → ⊥) → not (same a b) ≡ true
not_same a b ne = elim (same a b) as (λ t. same a b ≡ t → not t ≡ true) [
  | true ↦ λ e. absurd (ne (sym (same_is a b e)))
  | false ↦ λ e. refl
] refl
