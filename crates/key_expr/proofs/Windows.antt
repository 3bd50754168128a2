-- Parts of a joined list and of a slice.
use Rattle.std.proofs.Common.{◌≡◌, ℕ, ◌+◌, ◌-◌, ◌<◌, ◌≤◌, min, Bool, true, false, List, [], ◌∷◌, ◌++◌, length, map, take, drop, refl, sym, ap, arith, length-drop, length-append, append_assoc, ◌∙◌, zero, suc}
use Rattle.std.specs.Char.{to_ascii_uppercase}
use Rattle.std.specs.List.{take-map}
use Rattle.std.proofs.lemmas.Bool.Decides.{nat_tests}
use Rattle.std.proofs.lemmas.List.{drop-take, drop-drop, drop-map, length-take, length-map, map-append, take_all, append-nil}
use Rattle.key_expr.specs.declared.format.TheConstants.{MAX_KEY_BYTES, MAX_LENGTH}
use Rattle.key_expr.specs.declared.evaluate.TheConstants.{MAX_WINDOW_START}
use Rattle.key_expr.specs.declared.evaluate.Window.{Window}
use Rattle.key_expr.specs.Windows.{upper_if, bytes_in}

pub drop_append : (n : ℕ) (xs ys : List ℕ) → drop n (xs ++ ys) ≡ drop n xs ++ drop (n - length xs) ys
drop_append zero xs ys = let e : 0 - length xs ≡ 0 = omega arith in rw e refl
drop_append (suc n) [] ys = let e : suc n - 0 ≡ suc n = omega arith in rw e refl
drop_append (suc n) (x ∷ xs) ys = let e : suc n - length (x ∷ xs) ≡ n - length xs = omega arith in rw e (drop_append n xs ys)

pub take_append : (n : ℕ) (xs ys : List ℕ) → take n (xs ++ ys) ≡ take n xs ++ take (n - length xs) ys
take_append zero xs ys = let e : 0 - length xs ≡ 0 = omega arith in rw e refl
take_append (suc n) [] ys = let e : suc n - 0 ≡ suc n = omega arith in rw e refl
take_append (suc n) (x ∷ xs) ys =
    let e : suc n - length (x ∷ xs) ≡ n - length xs = omega arith in rw e (ap (λ (l : List ℕ). x ∷ l) (take_append n xs ys))

-- the part of a joined list, from both its parts
pub window_append : (from count : ℕ) (xs ys : List ℕ)
    → take count (drop from (xs ++ ys)) ≡ take count (drop from xs) ++ take (count - (length xs - from)) (drop (from - length xs) ys)
window_append from count xs ys =
    let e : length (drop from xs) ≡ length xs - from = omega (arith, length-drop from xs) in
    ap (λ (l : List ℕ). take count l) (drop_append from xs ys) ∙ (take_append count (drop from xs) (drop (from - length xs) ys)
    ∙ ap (λ (n : ℕ). take count (drop from xs) ++ take (count - n) (drop (from - length xs) ys)) e)

take_twice : (m n : ℕ) (xs : List ℕ) → take m (take n xs) ≡ take (min m n) xs
take_twice zero n xs = let e : min 0 n ≡ 0 = omega arith in rw e refl
take_twice (suc m) zero xs = let e : min (suc m) 0 ≡ 0 = omega arith in rw e refl
take_twice (suc m) (suc n) [] = let e : min (suc m) (suc n) ≡ suc (min m n) = omega arith in rw e refl
take_twice (suc m) (suc n) (x ∷ xs) =
    let e : min (suc m) (suc n) ≡ suc (min m n) = omega arith in rw e (ap (λ (l : List ℕ). x ∷ l) (take_twice m n xs))

-- the part of a part
pub window_within : (from count before most : ℕ) (xs : List ℕ) → from < most
    → take count (drop from (take most (drop before xs))) ≡ take (min count (most - from)) (drop (before + from) xs)
window_within from count before most xs h =
    let whole : most ≡ from + (most - from) = omega (arith, h) in
    ap (λ (n : ℕ). take count (drop from (take n (drop before xs)))) whole
    ∙ (ap (λ (l : List ℕ). take count l) (drop-take from (most - from) (drop before xs))
    ∙ (take_twice count (most - from) (drop from (drop before xs))
    ∙ ap (λ (l : List ℕ). take (min count (most - from)) l) (drop-drop from before xs)))

-- capitals are capitals
upper_twice : (r : Bool) (b : ℕ) → upper_if r (to_ascii_uppercase b) ≡ to_ascii_uppercase b
upper_twice true b = grind (arith, nat_tests)
upper_twice false b = refl

upper_all : (r : Bool) (bs : List ℕ) → map (upper_if r) (map to_ascii_uppercase bs) ≡ map (upper_if true) bs
upper_all r [] = refl
upper_all r (b ∷ bs) = rw (upper_twice r b, upper_all r bs) refl

pub window_upper : (r : Bool) (from count : ℕ) (bs : List ℕ)
    → map (upper_if r) (take count (drop from (map to_ascii_uppercase bs))) ≡ map (upper_if true) (take count (drop from bs))
window_upper r from count bs =
    ap (λ (l : List ℕ). map (upper_if r) (take count l)) (drop-map to_ascii_uppercase from bs)
    ∙ (ap (λ (l : List ℕ). map (upper_if r) l) (take-map to_ascii_uppercase count (drop from bs))
    ∙ upper_all r (take count (drop from bs)))

pub as_they_are : (bs : List ℕ) → map (upper_if false) bs ≡ bs
as_they_are [] = refl
as_they_are (b ∷ bs) = ap (λ (l : List ℕ). b ∷ l) (as_they_are bs)

-- as many bytes as are asked for, as far as there are any
length-bytes_in : (w : Window) (xs : List ℕ) → length (bytes_in w xs) ≡ min w.count (length xs - w.from)
length-bytes_in w xs =
    length-map (take w.count (drop w.from xs)) (upper_if w.upper)
    ∙ (length-take w.count (drop w.from xs) ∙ ap (λ (n : ℕ). min w.count n) (length-drop w.from xs))

-- what two parts put at the end of a key
pub put_both : (w u : Window) (len : ℕ) (old mid new xs ys : List ℕ)
    → len ≡ min MAX_LENGTH (length xs) → w.from ≤ MAX_WINDOW_START → length old + w.count ≤ MAX_KEY_BYTES
    → u.from ≡ w.from - len → u.count ≡ w.count - (len - w.from) → u.upper ≡ w.upper
    → mid ≡ old ++ bytes_in w xs → new ≡ mid ++ bytes_in u ys
    → new ≡ old ++ bytes_in w (xs ++ ys)
put_both w u len old mid new xs ys l near room f c r m n =
    let from : u.from ≡ w.from - length xs = omega (arith, l, near, f) in
    let count : u.count ≡ w.count - (length xs - w.from) = omega (arith, l, near, room, c) in
    let second : bytes_in u ys ≡ map (upper_if w.upper) (take (w.count - (length xs - w.from)) (drop (w.from - length xs) ys)) = rw (from, count, r) refl in
    let both : bytes_in w (xs ++ ys) ≡ bytes_in w xs ++ bytes_in u ys =
    ap (λ (z : List ℕ). map (upper_if w.upper) z) (window_append w.from w.count xs ys)
    ∙ (map-append (upper_if w.upper) (take w.count (drop w.from xs)) (take (w.count - (length xs - w.from)) (drop (w.from - length xs) ys))
    ∙ ap (λ (z : List ℕ). bytes_in w xs ++ z) (sym second)) in
    n ∙ (ap (λ (z : List ℕ). z ++ bytes_in u ys) m
    ∙ (append_assoc old (bytes_in w xs) (bytes_in u ys)
    ∙ ap (λ (z : List ℕ). old ++ z) (sym both)))

-- a full window takes no more
pub no_more : (u : Window) (ys mid : List ℕ) → u.count ≤ 0 → mid ≡ mid ++ bytes_in u ys
no_more u ys mid full = let none : u.count ≡ 0 = omega (arith, full) in rw none (sym (append-nil mid))

pub room_for_second : (w u : Window) (len : ℕ) (old mid xs : List ℕ)
    → len ≡ min MAX_LENGTH (length xs) → w.from ≤ MAX_WINDOW_START → length old + w.count ≤ MAX_KEY_BYTES
    → u.count ≡ w.count - (len - w.from) → mid ≡ old ++ bytes_in w xs → length mid + u.count ≤ MAX_KEY_BYTES
room_for_second w u len old mid xs l near room c m =
    let a = ap length m in
    let b = length-append old (bytes_in w xs) in
    let d = length-bytes_in w xs in
    omega (arith, l, near, room, c, a, b, d)

-- what a part of a part puts there, and what capitals do
pub bytes_within : (w u : Window) (before most : ℕ) (xs : List ℕ) → w.from < most
    → u.from ≡ before + w.from → u.count ≡ min w.count (most - w.from) → u.upper ≡ w.upper
    → bytes_in u xs ≡ bytes_in w (take most (drop before xs))
bytes_within w u before most xs h f c r =
    rw (f, c, r) (ap (λ (z : List ℕ). map (upper_if w.upper) z) (sym (window_within w.from w.count before most xs h)))

-- all bytes of a key
pub whole_window : (len : ℕ) (bs : List ℕ) → length bs ≡ len → bytes_in (record { from = 0; count = len; upper = false }) bs ≡ bs
whole_window len bs h = let all : length bs ≤ len = omega (arith, h) in as_they_are (take len bs) ∙ take_all len bs all
