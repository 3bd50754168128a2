-- Lists in groups.
use Rattle.std.proofs.Common.{◌≡◌, ◌≢◌, ℕ, zero, suc, ◌+◌, ◌-◌, ◌≤◌, min, List, [], ◌∷◌, ◌++◌, length, take, drop, refl, ap, ◌∙◌, arith, length-append, length-drop}
use Rattle.std.specs.Prelude.{flat_map}
use Rattle.std.specs.List.{AllByRecursion}
use Rattle.std.proofs.lemmas.Bool.{ne_eqb, eq-eqb}
use Rattle.std.proofs.lemmas.List.{take-append-drop, length-take}
use Rattle.ndx_index.specs.Image.{ChildEntry, groups, leaf_group_size, inner_group_size, last_of, next_level}
use Rattle.ndx_index.specs.Laws.Lists.{all_weaker}

abbrev pub joined : {X : Type 0} → List (List X) → List X
joined gs = flat_map (λ g. g) gs

pub groups-join : {X : Type 0} (group_size : ℕ → ℕ) (fuel : ℕ) (xs : List X) → length xs ≤ fuel → ((n : ℕ) → 1 ≤ group_size n) → joined (groups group_size fuel xs) ≡ xs
groups-join group_size zero [] h b = refl
groups-join group_size zero (x ∷ xs) h b = absurd (omega arith)
groups-join group_size (suc f) [] h b = refl
groups-join group_size (suc f) (x ∷ xs) h b =
    let n : ℕ = group_size (length (x ∷ xs)) in
    let some : 1 ≤ n = b (length (x ∷ xs)) in
    let less : length (drop n (x ∷ xs)) ≤ f = omega (arith, length-drop n (x ∷ xs)) in
    ap (λ ys. take n (x ∷ xs) ++ ys) (groups-join group_size f (drop n (x ∷ xs)) less b) ∙ take-append-drop n (x ∷ xs)

-- the number of elements of a group is from `low` to `high`
pub record HasSize {X : Type 0} (from to : ℕ) (g : List X) : Type 0 where
  pub low : from ≤ length g
  pub high : length g ≤ to

pub leaf_groups : {X : Type 0} (k fuel : ℕ) (xs : List X) → 1 ≤ k → AllByRecursion (HasSize 1 k) (groups (leaf_group_size k) fuel xs)
leaf_groups k zero xs h = tt
leaf_groups k (suc f) [] h = tt
leaf_groups k (suc f) (x ∷ xs) h =
    (record { low = omega (arith, length-take k (x ∷ xs)); high = omega (arith, length-take k (x ∷ xs)) }, leaf_groups k f (drop k (x ∷ xs)) h)

-- how many children the next of n goes with
pub record IsNextSize (k n size : ℕ) : Type 0 where
  pub less : n ≡ k + 2 → size ≡ k
  pub full : n ≢ k + 2 → size ≡ k + 1

pub next_size : (k n : ℕ) → IsNextSize k n (inner_group_size k n)
next_size k n = record { less = λ e. rw (eq-eqb n (k + 2) e) refl; full = λ ne. rw (ne_eqb n (k + 2) ne) refl }

pub group_size_some : (k : ℕ) → 1 ≤ k → (n : ℕ) → 1 ≤ inner_group_size k n
group_size_some k h n = grind (arith, next_size k n)

pub inner_groups : {X : Type 0} (k fuel : ℕ) (xs : List X) → 2 ≤ k → length xs ≢ 1 → AllByRecursion (HasSize 2 (k + 1)) (groups (inner_group_size k) fuel xs)
inner_groups k zero xs h ne = tt
inner_groups k (suc f) [] h ne = tt
inner_groups k (suc f) (x ∷ xs) h ne =
    let n : ℕ = inner_group_size k (length (x ∷ xs)) in
    let size : IsNextSize k (length (x ∷ xs)) n = next_size k (length (x ∷ xs)) in
    let part : length (take n (x ∷ xs)) ≡ min n (length (x ∷ xs)) = length-take n (x ∷ xs) in
    let rest : length (drop n (x ∷ xs)) ≡ length (x ∷ xs) - n = length-drop n (x ∷ xs) in
    (record { low = grind arith; high = grind arith }, inner_groups k f (drop n (x ∷ xs)) h (λ one. absurd (grind arith)))

pub count_two : {X : Type 0} (high : ℕ) (gs : List (List X)) → AllByRecursion (HasSize 2 high) gs → length gs + length gs ≤ length (joined gs)
count_two high [] h = omega arith
count_two high (g ∷ gs) h = omega (arith, length-append g (joined gs), count_two high gs h.1, h.0.low)

pub count_one : {X : Type 0} (high : ℕ) (gs : List (List X)) → AllByRecursion (HasSize 1 high) gs → length gs ≤ length (joined gs)
count_one high [] h = omega arith
count_one high (g ∷ gs) h = omega (arith, length-append g (joined gs), count_one high gs h.1, h.0.low)

pub all_front : {X : Type 0} (P : X → Type 0) (xs ys : List X) → AllByRecursion P (xs ++ ys) → AllByRecursion P xs × AllByRecursion P ys
all_front P [] ys h = (tt, h)
all_front P (x ∷ xs) ys h = let r = all_front P xs ys h.1 in ((h.0, r.0), r.1)

pub all_groups : {X : Type 0} (P : X → Type 0) (gs : List (List X)) → AllByRecursion P (joined gs) → AllByRecursion (AllByRecursion P) gs
all_groups P [] h = tt
all_groups P (g ∷ gs) h = let r = all_front P g (joined gs) h in (r.0, all_groups P gs r.1)

-- ---- the pages above a level

pub next-join : (k : ℕ) (ts : List ChildEntry) → 1 ≤ k → joined (next_level k ts) ≡ ts
next-join k ts some = groups-join (inner_group_size k) (length ts) ts (omega arith) (group_size_some k some)

pub next_half : (k : ℕ) (ts : List ChildEntry) → 2 ≤ k → length ts ≢ 1 → length (next_level k ts) + length (next_level k ts) ≤ length ts
next_half k ts two many =
    omega (arith, count_two (k + 1) (next_level k ts) (inner_groups k (length ts) ts two many), ap (λ (xs : List ChildEntry). length xs) (next-join k ts (omega arith)))

-- ---- keys that fit a key record

short_last : {X : Type 0} (f : X → List ℕ) (size : ℕ) → 8 ≤ size → (xs : List X) → AllByRecursion (λ x. length (f x) + 8 ≤ size) xs → length (last_of f [] xs) + 8 ≤ size
short_last f size room [] h = omega arith
short_last f size room (x ∷ []) h = h.0
short_last f size room (x ∷ y ∷ xs) h = short_last f size room (y ∷ xs) h.1

pub short_groups : {X : Type 0} (f : X → List ℕ) (size : ℕ) (gs : List (List X)) → 8 ≤ size → AllByRecursion (λ x. length (f x) + 8 ≤ size) (joined gs) → AllByRecursion (λ g. length (last_of f [] g) + 8 ≤ size) gs
short_groups f size gs room h = all_weaker _ _ (short_last f size room) gs (all_groups _ gs h)
