-- Where the greatest key under a page stands in the level below, by arithmetic.
use Rattle.std.proofs.Common.{◌≡◌, ◌≢◌, ℕ, zero, suc, ◌+◌, ◌-◌, ◌*◌, ◌<◌, ◌≤◌, min, List, [], ◌∷◌, length, take, drop, get_or, refl, ap, sym, ◌∙◌, arith, length-drop, get_or-drop}
use Rattle.ndx_index.specs.Image.{ChildEntry, child_entries, last_of, last_entry_key, last_key, leaves, leaf_group_size, groups, inner_group_size, next_level}
use Rattle.ndx_index.proofs.Grouped.{IsNextSize, next_size}
use Rattle.ndx_index.proofs.ReadBack.{length-child_entries}
use Rattle.ndx_index.specs.declared.pair.Pair.{Pair}
use Rattle.ndx_index.specs.Levels.{IsLast, AreSizes, level, key_under}
use Rattle.std.specs.Prelude.{slice_index}

last_take : {X : Type 0} (f : X → List ℕ) (b i : ℕ) (xs : List X) (d : X) → i + 1 ≡ min b (length xs) → last_of f [] (take b xs) ≡ f (get_or xs i d)
last_take f zero i xs d e = absurd (omega arith)
last_take f (suc b) i [] d e = absurd (omega arith)
last_take f (suc zero) zero (x ∷ xs) d e = refl
last_take f (suc zero) (suc i) (x ∷ xs) d e = absurd (omega arith)
last_take f (suc (suc b)) zero (x ∷ []) d e = refl
last_take f (suc (suc b)) (suc i) (x ∷ []) d e = absurd (omega arith)
last_take f (suc (suc b)) zero (x ∷ y ∷ xs) d e = absurd (omega arith)
last_take f (suc (suc b)) (suc i) (x ∷ y ∷ xs) d e = last_take f (suc b) i (y ∷ xs) d (omega arith)

less : {a b : ℕ} → suc a < suc b → a < b
less h = omega arith

shifted : {X : Type 0} (b i : ℕ) (xs : List X) (d : X) → b ≤ i → get_or (drop b xs) (i - b) d ≡ get_or xs i d
shifted b i xs d h =
    let e : b + (i - b) ≡ i = omega arith in
    get_or-drop b xs (i - b) d ∙ ap (λ (n : ℕ). get_or xs n d) e

pub times_suc : (j k : ℕ) → suc j * k ≡ j * k + k
times_suc j k = grind arith

none_or_more : (j k : ℕ) → j * k < k → j * k ≡ 0
none_or_more zero k h = omega arith
none_or_more (suc j) k h = absurd (omega (arith, times_suc j k))

pub group_start : {X : Type 0} (k f j : ℕ) (xs : List X) → 2 ≤ k → length xs ≢ 1 → j < length (groups (inner_group_size k) f xs) → j * (k + 1) < length xs
group_start k zero j xs two many lt = absurd (omega arith)
group_start k (suc f) j [] two many lt = absurd (omega arith)
group_start k (suc f) zero (x ∷ xs) two many lt = omega arith
group_start k (suc f) (suc j) (x ∷ xs) two many lt =
    let n : ℕ = length (x ∷ xs) in
    let b : ℕ = inner_group_size k n in
    let size : IsNextSize k n b = next_size k n in
    let m : length (drop b (x ∷ xs)) ≡ n - b = length-drop b (x ∷ xs) in
    let low : j * (k + 1) < length (drop b (x ∷ xs)) = group_start k f j (drop b (x ∷ xs)) two (λ one. absurd (grind arith)) (less lt) in
    grind (arith, times_suc j (k + 1), none_or_more j (k + 1))

-- the last child of a page, counted from the children of the pages after the first one
last_after : (k n b m j i : ℕ) → 2 ≤ k → IsNextSize k n b → m ≡ n - b → j * (k + 1) < m → IsLast k n (suc j) i → (b ≤ i) × IsLast k m j (i - b)
last_after k n b m j i two size e low last =
    let up : suc j * (k + 1) ≡ j * (k + 1) + (k + 1) = times_suc j (k + 1) in
    let none : j * (k + 1) < k + 1 → j * (k + 1) ≡ 0 = none_or_more j (k + 1) in
    (grind arith, record { final = λ h. grind arith; shorter = λ h. grind arith; full = λ h. grind arith })

pub group_key : (k fuel n j i : ℕ) (ts : List ChildEntry) (d : ChildEntry) → 2 ≤ k → length ts ≢ 1 → j < length (groups (inner_group_size k) fuel ts) → IsLast k (length ts) j i
    → (get_or (child_entries last_entry_key n (groups (inner_group_size k) fuel ts)) j d).key ≡ (get_or ts i d).key
group_key k zero n j i ts d two many lt last = absurd (omega arith)
group_key k (suc f) n j i [] d two many lt last = absurd (omega arith)
group_key k (suc f) n zero i (x ∷ xs) d two many lt last =
    let size = next_size k (length (x ∷ xs)) in
    last_take (λ t. t.key) (inner_group_size k (length (x ∷ xs))) i (x ∷ xs) d (grind arith)
group_key k (suc f) n (suc j) i (x ∷ xs) d two many lt last =
    let b : ℕ = inner_group_size k (length (x ∷ xs)) in
    let size : IsNextSize k (length (x ∷ xs)) b = next_size k (length (x ∷ xs)) in
    let rest : List ChildEntry = drop b (x ∷ xs) in
    let m : length rest ≡ length (x ∷ xs) - b = length-drop b (x ∷ xs) in
    let count_bounded : length rest ≢ 1 = λ one. absurd (grind arith) in
    let parts = last_after k (length (x ∷ xs)) b (length rest) j i two size m (group_start k f j rest two count_bounded (less lt)) last in
    group_key k f (n + 1) j (i - b) rest d two count_bounded (less lt) parts.1 ∙ ap (λ t. t.key) (shifted b i (x ∷ xs) d parts.0)

-- ---- the levels of an index

-- the greatest key under a page is that under its last child
pub level_key : (k : ℕ) (pairs : List Pair) (l j i : ℕ) (d : ChildEntry) → 2 ≤ k → length (level k pairs l).pages ≢ 1 → j < length (level k pairs (suc l)).pages → IsLast k (length (level k pairs l).pages) j i
    → (get_or (level k pairs (suc l)).pages j d).key ≡ (get_or (level k pairs l).pages i d).key
level_key k pairs l j i d two many lt last =
    let ts : List ChildEntry = (level k pairs l).pages in
    let n : ℕ = (level k pairs l).first + length ts in
    group_key k (length ts) n j i ts d two many (omega (arith, length-child_entries last_entry_key n (next_level k ts))) last

pub level_start : (k : ℕ) (pairs : List Pair) (l j : ℕ) → 2 ≤ k → length (level k pairs l).pages ≢ 1 → j < length (level k pairs (suc l)).pages → j * (k + 1) < length (level k pairs l).pages
level_start k pairs l j two many lt =
    let ts : List ChildEntry = (level k pairs l).pages in
    let n : ℕ = (level k pairs l).first + length ts in
    group_start k (length ts) j ts two many (omega (arith, length-child_entries last_entry_key n (next_level k ts)))

pub last_inside : (k m j i : ℕ) → j * (k + 1) < m → IsLast k m j i → i < m
last_inside k m j i start last = grind arith

pub leaf_group_start : (k f j : ℕ) (ps : List Pair) → 1 ≤ k → j < length (groups (leaf_group_size k) f ps) → j * k < length ps
leaf_group_start k zero j ps some lt = absurd (omega arith)
leaf_group_start k (suc f) j [] some lt = absurd (omega arith)
leaf_group_start k (suc f) zero (p ∷ ps) some lt = omega arith
leaf_group_start k (suc f) (suc j) (p ∷ ps) some lt =
    omega (arith, length-drop k (p ∷ ps), leaf_group_start k f j (drop k (p ∷ ps)) some (less lt), times_suc j k)

leaf_group_key : (k f n j i : ℕ) (ps : List Pair) (d : Pair) (t : ChildEntry) → 1 ≤ k → j < length (groups (leaf_group_size k) f ps) → i + 1 ≡ min (suc j * k) (length ps)
    → (get_or (child_entries last_key n (groups (leaf_group_size k) f ps)) j t).key ≡ (get_or ps i d).key
leaf_group_key k zero n j i ps d t some lt e = absurd (omega arith)
leaf_group_key k (suc f) n j i [] d t some lt e = absurd (omega arith)
leaf_group_key k (suc f) n zero i (p ∷ ps) d t some lt e = last_take (λ p. p.key) k i (p ∷ ps) d (omega arith)
leaf_group_key k (suc f) n (suc j) i (p ∷ ps) d t some lt e =
    let m : length (drop k (p ∷ ps)) ≡ length (p ∷ ps) - k = length-drop k (p ∷ ps) in
    let low : j * k < length (drop k (p ∷ ps)) = leaf_group_start k f j (drop k (p ∷ ps)) some (less lt) in
    leaf_group_key k f (n + 1) j (i - k) (drop k (p ∷ ps)) d t some (less lt) (omega (arith, times_suc (suc j) k, times_suc j k))
    ∙ ap (λ q. q.key) (shifted k i (p ∷ ps) d (omega (arith, times_suc (suc j) k, times_suc j k)))

pub leaf_key : (k j i : ℕ) (pairs : List Pair) (d : Pair) → 1 ≤ k → 1 ≤ length pairs → j < length (level k pairs 0).pages → i + 1 ≡ min (suc j * k) (length pairs) → key_under k pairs 0 j ≡ (get_or pairs i d).key
leaf_key k j i [] d one some lt e = absurd (omega arith)
leaf_key k j i (p ∷ ps) d one some lt e =
    leaf_group_key k (length (p ∷ ps)) 1 j i (p ∷ ps) d (record { page = 0; key = [] }) one (omega (arith, length-child_entries last_key 1 (leaves k (p ∷ ps)))) e

pub leaf_start : (k below j : ℕ) (pairs : List Pair) → 1 ≤ k → 1 ≤ length pairs → below ≤ 0 → j < length (level k pairs below).pages → j * k < length pairs
leaf_start k (suc below) j pairs one some none lt = absurd (omega arith)
leaf_start k zero j [] one some none lt = absurd (omega arith)
leaf_start k zero j (p ∷ ps) one some none lt = leaf_group_start k (length (p ∷ ps)) j (p ∷ ps) one (omega (arith, length-child_entries last_key 1 (leaves k (p ∷ ps))))

pub step_down : (k : ℕ) (pairs : List Pair) (n below at : ℕ) (sizes : List ℕ) → 2 ≤ k → AreSizes k pairs n sizes → below ≤ n → 0 < below → at < length (level k pairs below).pages
    → at * (k + 1) < slice_index sizes (below - 1)
step_down k pairs n zero at sizes two are within some inside = absurd (omega arith)
step_down k pairs n (suc b) at sizes two are within some inside =
    let e : suc b - 1 ≡ b = omega arith in
    let several : 2 ≤ length (level k pairs b).pages = are.several b (omega arith) in
    rw (e, are.each b (omega arith)) (level_start k pairs b at two (λ one. absurd (omega arith)) inside)

pub step_same : (k : ℕ) (pairs : List Pair) (n below at i : ℕ) (sizes : List ℕ) → 2 ≤ k → AreSizes k pairs n sizes → below ≤ n → 0 < below → at < length (level k pairs below).pages
    → IsLast k (slice_index sizes (below - 1)) at i → (key_under k pairs (below - 1) i ≡ key_under k pairs below at) × (i < length (level k pairs (below - 1)).pages)
step_same k pairs n zero at i sizes two are within some inside last = absurd (omega arith)
step_same k pairs n (suc b) at i sizes two are within some inside last =
    let e : suc b - 1 ≡ b = omega arith in
    let several : 2 ≤ length (level k pairs b).pages = are.several b (omega arith) in
    let last' : IsLast k (length (level k pairs b).pages) at i = rw (e, are.each b (omega arith)) at last in
    rw e (
      sym (level_key k pairs b at i (record { page = 0; key = [] }) two (λ one. absurd (omega arith)) inside last'),
      last_inside k (length (level k pairs b).pages) at i (level_start k pairs b at two (λ one. absurd (omega arith)) inside) last',
    )

pub last_pair : (k : ℕ) (pairs : List Pair) (below j i : ℕ) (q : Pair) → 1 ≤ k → 1 ≤ length pairs → below ≤ 0 → j < length (level k pairs below).pages → i + 1 ≡ min (j * k + k) (length pairs)
    → q ≡ get_or pairs i q → q.key ≡ key_under k pairs below j
last_pair k pairs (suc below) j i q one some none lt e is = absurd (omega arith)
last_pair k pairs zero j i q one some none lt e is = ap (λ p. p.key) is ∙ sym (leaf_key k j i pairs q one some lt (omega (arith, times_suc j k)))
