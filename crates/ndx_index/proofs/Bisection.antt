-- Halving a list in which a test fails up to a place, and passes from there on.
use Rattle.std.proofs.Common.{◌≡◌, ℕ, ◌+◌, ◌<◌, ◌≤◌, Bool, true, false, not, List, length, refl, ap, sym, ◌∙◌, arith}
use Rattle.std.specs.List.Sorted.{IsPartitionedBy}
use Rattle.std.proofs.lemmas.Bool.{false≢true, not-true}
use Rattle.ndx_index.specs.declared.pair.Pair.{Pair}
use Rattle.ndx_index.specs.Slots.{slot_at, no_pair}

pub below_mid : (t : Pair → Bool) (ps : List Pair) (mid : ℕ) → IsPartitionedBy (λ q. not (t q)) ps → mid < length ps → t (slot_at ps mid) ≡ false → (k : ℕ) → k < mid + 1 → t (slot_at ps k) ≡ false
below_mid t ps mid order lt fails k le = not-true (t (slot_at ps k)) (order k mid no_pair (omega (arith, le)) lt (ap not fails))

pub above_mid : (t : Pair → Bool) (ps : List Pair) (mid : ℕ) → IsPartitionedBy (λ q. not (t q)) ps → t (slot_at ps mid) ≡ true → (k : ℕ) → mid ≤ k → k < length ps → t (slot_at ps k) ≡ true
above_mid t ps mid order holds k le lt = elim (t (slot_at ps k)) as (λ b. t (slot_at ps k) ≡ b → b ≡ true) [
  | true ↦ λ e. refl
  | false ↦ λ e. absurd (false≢true (sym (not-true (t (slot_at ps mid)) (order mid k no_pair le lt (ap not e))) ∙ holds))
] refl
