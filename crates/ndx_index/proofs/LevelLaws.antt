-- More fuel makes no other levels.
use Rattle.std.proofs.Common.{◌≡◌, ℕ, zero, suc, ◌+◌, ◌≤◌, List, [], ◌∷◌, ◌++◌, length, refl, ap, arith}
use Rattle.std.specs.List.{AllByRecursion}
use Rattle.ndx_index.specs.declared.pair.Pair.{Pair}
use Rattle.ndx_index.specs.Levels.{level}
use Rattle.ndx_index.specs.Image.{ChildEntry, child_entries, last_entry_key, last_key, leaves, next_level, levels_above}
use Rattle.ndx_index.proofs.Grouped.{joined, next-join, next_half, short_groups}
use Rattle.ndx_index.proofs.ImageLaw.{leaves_joined}
use Rattle.ndx_index.proofs.ReadBack.{length-child_entries}

pub half_as_many : (k n : ℕ) (ts : List ChildEntry) → 2 ≤ k → 2 ≤ length ts → length (child_entries last_entry_key n (next_level k ts)) + length (child_entries last_entry_key n (next_level k ts)) ≤ length ts
half_as_many k n ts two many = omega (arith, next_half k ts two (λ one. absurd (omega arith)), length-child_entries last_entry_key n (next_level k ts))

pub levels-fuel : (f h k n : ℕ) (ts : List ChildEntry) → 2 ≤ k → length ts ≤ f → length ts ≤ h → levels_above f k n ts ≡ levels_above h k n ts
levels-fuel zero zero k n ts two a b = refl
levels-fuel zero (suc h) k n [] two a b = refl
levels-fuel zero (suc h) k n (t ∷ ts) two a b = absurd (omega arith)
levels-fuel (suc f) zero k n [] two a b = refl
levels-fuel (suc f) zero k n (t ∷ ts) two a b = absurd (omega arith)
levels-fuel (suc f) (suc h) k n [] two a b = refl
levels-fuel (suc f) (suc h) k n (t ∷ []) two a b = refl
levels-fuel (suc f) (suc h) k n (t ∷ u ∷ ts) two a b =
    let gs : List (List ChildEntry) = next_level k (t ∷ u ∷ ts) in
    let half = half_as_many k n (t ∷ u ∷ ts) two (omega arith) in
    ap (λ more. gs ++ more) (levels-fuel f h k (n + length gs) (child_entries last_entry_key n gs) two (omega arith) (omega arith))

-- a level of several pages: the one above it, and then those above that
pub levels-next : (k n : ℕ) (ts : List ChildEntry) → 2 ≤ k → 2 ≤ length ts → levels_above (length ts) k n ts
    ≡ next_level k ts ++ levels_above (length (child_entries last_entry_key n (next_level k ts))) k (n + length (next_level k ts)) (child_entries last_entry_key n (next_level k ts))
levels-next k n [] two many = absurd (omega arith)
levels-next k n (t ∷ []) two many = absurd (omega arith)
levels-next k n (t ∷ u ∷ ts) two many =
    let gs : List (List ChildEntry) = next_level k (t ∷ u ∷ ts) in
    let ups : List ChildEntry = child_entries last_entry_key n gs in
    let half = half_as_many k n (t ∷ u ∷ ts) two many in
    ap (λ more. gs ++ more) (levels-fuel (length (u ∷ ts)) (length ups) k (n + length gs) ups two (omega arith) (omega arith))

-- ---- the greatest keys are keys of pairs

short_child_entries : {X : Type 0} (f : List X → List ℕ) (size n : ℕ) (gs : List (List X)) → AllByRecursion (λ g. length (f g) + 8 ≤ size) gs → AllByRecursion (λ t. length t.key + 8 ≤ size) (child_entries f n gs)
short_child_entries f size n [] h = tt
short_child_entries f size n (g ∷ gs) h = (h.0, short_child_entries f size (n + 1) gs h.1)

pub level_short : (size k : ℕ) (pairs : List Pair) (l : ℕ) → 1 ≤ k → 8 ≤ size → AllByRecursion (λ p. length p.key + 8 ≤ size) pairs → AllByRecursion (λ t. length t.key + 8 ≤ size) (level k pairs l).pages
level_short size k pairs zero one room h =
    let join : joined (leaves k pairs) ≡ pairs = leaves_joined k pairs one in
    short_child_entries last_key size 1 (leaves k pairs) (short_groups (λ p. p.key) size (leaves k pairs) room (rw join h))
level_short size k pairs (suc l) one room h =
    let ts : List ChildEntry = (level k pairs l).pages in
    let join : joined (next_level k ts) ≡ ts = next-join k ts one in
    short_child_entries last_entry_key size _ (next_level k ts) (short_groups (λ t. t.key) size (next_level k ts) room (rw join (level_short size k pairs l one room h)))
