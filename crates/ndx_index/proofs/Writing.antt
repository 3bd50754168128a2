-- Steps of the writer.
use Rattle.std.proofs.Common.{◌≡◌, ℕ, zero, suc, ◌+◌, ◌-◌, ◌*◌, ◌≤◌, min, List, [], ◌∷◌, ◌++◌, length, take, drop, replicate, refl, ap, sym, append_assoc, arith, length-append, length-drop}
use Rattle.std.specs.Prelude.{flat_map}
use Rattle.std.specs.List.{AllByRecursion}
use Rattle.key_expr.specs.declared.format.TheConstants.{MAX_EXPRESSION_BYTES}
use Rattle.ndx_index.specs.declared.format.TheConstants.{PAGE}
use Rattle.ndx_index.specs.declared.pair.Pair.{Pair}
use Rattle.byteorder.specs.Endian.{little_bytes}
use Rattle.ndx_index.specs.Image.{groups, header_page, page_keys, record_size, leaf_record, leaf_page, filled_page}
use Rattle.byte_io.specs.Writer.{Wanted, more}
use Rattle.ndx_index.proofs.PageBytes.{length_pairs}

-- a leaf's parts, one after the other
pub leaf_parts : (size : ℕ) (g : List Pair) → AllByRecursion (λ p. length p.key + 8 ≤ size) g
    → (little_bytes 4 (length g) ++ flat_map (leaf_record size) g) ++ replicate (PAGE - 4 - length g * size) 0 ≡ leaf_page size g
unfolding leaf_page filled_page
leaf_parts size g h =
    let front : List ℕ = little_bytes 4 (length g) in
    let body : List ℕ = flat_map (leaf_record size) g in
    let long : PAGE - length (front ++ body) ≡ PAGE - 4 - length g * size = omega (arith, length-append front body, length_pairs size g h) in
    ap (λ (n : ℕ). (front ++ body) ++ replicate n 0) (sym long)

-- more fuel makes no other groups
pub groups-fuel : {X : Type 0} (group_size : ℕ → ℕ) (f h : ℕ) (xs : List X) → length xs ≤ f → length xs ≤ h → ((n : ℕ) → 1 ≤ group_size n) → groups group_size f xs ≡ groups group_size h xs
groups-fuel group_size zero zero xs a b some = refl
groups-fuel group_size zero (suc h) [] a b some = refl
groups-fuel group_size zero (suc h) (x ∷ xs) a b some = absurd (omega arith)
groups-fuel group_size (suc f) zero [] a b some = refl
groups-fuel group_size (suc f) zero (x ∷ xs) a b some = absurd (omega arith)
groups-fuel group_size (suc f) (suc h) [] a b some = refl
groups-fuel group_size (suc f) (suc h) (x ∷ xs) a b some =
    let n : ℕ = group_size (length (x ∷ xs)) in
    let k : 1 ≤ n = some (length (x ∷ xs)) in
    ap (λ gs. take n (x ∷ xs) ∷ gs) (groups-fuel group_size f h (drop n (x ∷ xs)) (omega (arith, length-drop n (x ∷ xs))) (omega (arith, length-drop n (x ∷ xs))) some)

-- the first group, and then the groups of the rest
pub groups-next : {X : Type 0} (group_size : ℕ → ℕ) (xs : List X) → 1 ≤ length xs → ((n : ℕ) → 1 ≤ group_size n)
    → groups group_size (length xs) xs ≡ take (group_size (length xs)) xs ∷ groups group_size (length (drop (group_size (length xs)) xs)) (drop (group_size (length xs)) xs)
groups-next group_size [] h some = absurd (omega arith)
groups-next {X = X} group_size (x ∷ xs) h some =
    let n : ℕ = group_size (length (x ∷ xs)) in
    let k : 1 ≤ n = some (length (x ∷ xs)) in
    let rest : List X = drop n (x ∷ xs) in
    ap (λ gs. take n (x ∷ xs) ∷ gs) (groups-fuel group_size (length xs) (length rest) rest (omega (arith, length-drop n (x ∷ xs))) (omega arith) some)

-- ---- the leaves

pub all_parts : {X : Type 0} (P : X → Type 0) (n : ℕ) (xs : List X) → AllByRecursion P xs → AllByRecursion P (take n xs) × AllByRecursion P (drop n xs)
all_parts P zero xs h = (tt, h)
all_parts P (suc n) [] h = (tt, tt)
all_parts P (suc n) (x ∷ xs) h = let r = all_parts P n xs h.1 in ((h.0, r.0), r.1)

pub all_whole : {X : Type 0} (P : X → Type 0) (n : ℕ) (xs : List X) → AllByRecursion P (take n xs) → AllByRecursion P (drop n xs) → AllByRecursion P xs
all_whole P zero xs h k = k
all_whole P (suc n) [] h k = tt
all_whole P (suc n) (x ∷ xs) h k = (h.0, all_whole P n xs h.1 k)

pub same_parts : {X : Type 0} (n k : ℕ) (xs : List X) → n ≡ min k (length xs) → (take n xs ≡ take k xs) × (drop n xs ≡ drop k xs)
same_parts n zero xs e =
    let e' : n ≡ zero = omega arith in
    rw e' (refl, refl)
same_parts n (suc k) [] e =
    let e' : n ≡ zero = omega arith in
    rw e' (refl, refl)
same_parts n (suc k) (x ∷ xs) e =
    let e' : n ≡ suc (min k (length xs)) = omega arith in
    let r = same_parts (min k (length xs)) k xs refl in
    rw e' (ap (λ ys. x ∷ ys) r.0, r.1)

-- the page of the first group, and then those of the rest
pub groups_step : {X : Type 0} (page : List X → List ℕ) (group_size : ℕ → ℕ) (n : ℕ) (rest : List X) → n ≡ min (group_size (length rest)) (length rest) → 1 ≤ length rest → ((m : ℕ) → 1 ≤ group_size m)
    → flat_map page (groups group_size (length rest) rest) ≡ page (take n rest) ++ flat_map page (groups group_size (length (drop n rest)) (drop n rest))
groups_step page group_size n rest e some each =
    let same = same_parts n (group_size (length rest)) rest e in
    rw (same.0, same.1) (ap (λ gs. flat_map page gs) (groups-next group_size rest some each))

-- ---- the header

header_parts : (text : List ℕ) (key_len root : ℕ) (put : List ℕ)
    → (((((((((put ++ little_bytes 4 root) ++ little_bytes 4 (root + 1)) ++ replicate 4 0) ++ little_bytes 2 key_len) ++ little_bytes 2 (page_keys key_len)) ++ replicate 2 0) ++ little_bytes 2 (record_size key_len)) ++ replicate 4 0) ++ text) ++ replicate (MAX_EXPRESSION_BYTES - length text) 0
    ≡ put ++ header_page text key_len (root + 1)
unfolding header_page filled_page
header_parts text key_len root put =
    let less : root + 1 - 1 ≡ root = omega arith in
    let n : ℕ = root + 1 in
    let zs : List ℕ = replicate (MAX_EXPRESSION_BYTES - length text) 0 in
    let a : List ℕ = little_bytes 4 root in
    let b : List ℕ = little_bytes 4 n in
    let c : List ℕ = little_bytes 2 key_len in
    let d : List ℕ = little_bytes 2 (page_keys key_len) in
    let e : List ℕ = little_bytes 2 (record_size key_len) in
    let front : List ℕ = a ++ (b ++ (replicate 4 0 ++ (c ++ (d ++ (0 ∷ 0 ∷ (e ++ (0 ∷ 0 ∷ 0 ∷ 0 ∷ text))))))) in
    let long : PAGE - length front ≡ MAX_EXPRESSION_BYTES - length text = omega arith in
    let whole : put ++ (front ++ zs) ≡ put ++ (front ++ replicate (PAGE - length front) 0) = ap (λ (m : ℕ). put ++ (front ++ replicate m 0)) (sym long) in
    rw less (simp append_assoc whole)

-- the header's parts, put one after the other
pub header_puts : (w : Wanted) (text : List ℕ) (key_len root : ℕ)
    → more (more (more (more (more (more (more (more (more (more w (little_bytes 4 root)) (little_bytes 4 (root + 1))) (replicate 4 0)) (little_bytes 2 key_len)) (little_bytes 2 (page_keys key_len))) (replicate 2 0)) (little_bytes 2 (record_size key_len))) (replicate 4 0)) text) (replicate (MAX_EXPRESSION_BYTES - length text) 0)
    ≡ more w (header_page text key_len (root + 1))
header_puts w text key_len root = ap (λ (put : List ℕ). record { begun = w.begun; put = put; failures = w.failures }) (header_parts text key_len root w.put)
