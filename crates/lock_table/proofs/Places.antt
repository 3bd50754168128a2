-- A number put among the ascending numbers of a slot.
use Rattle.std.proofs.Common.{◌≡◌, ◌≢◌, ℕ, suc, ◌+◌, ◌-◌, ◌<◌, ◌≤◌, Bool, true, false, not, cond, ◌==◌, nat_lt, nat_le, List, [], ◌∷◌, ◌++◌, length, take, drop, set, get_or, refl, sym, ap, ◌∙◌, append_assoc, arith}
use Rattle.std.specs.List.{insert, copy_within, position_or_len}
use Rattle.std.proofs.lemmas.Bool.Decides.{nat_tests}
use Rattle.std.proofs.lemmas.List.{length-drop, length-take-le, take-take, drop-take, take-append-le, set_split, drop_at}
use Rattle.std.proofs.lemmas.List.Edits.{take-paste, length-paste}
use lib.Seq.{paste}
use Rattle.lock_table.specs.Numbers.{with_number}

-- how many numbers at the front are below this one
abbrev pub place : ℕ → List ℕ → ℕ
place n xs = position_or_len (λ m. nat_le n m) xs

-- a number that stands where it would be put is one of them
found_by : (n m : ℕ) (ms : List ℕ) (b : Bool) → nat_le n m ≡ b → (place n ms < length ms → get_or ms (place n ms) 0 ≡ n → with_number n ms ≡ ms)
    → cond (not b) (1 + place n ms) 0 < length (m ∷ ms) → get_or (m ∷ ms) (cond (not b) (1 + place n ms) 0) 0 ≡ n → with_number n (m ∷ ms) ≡ m ∷ ms
found_by n m ms true e next h same = let is : (n == m) ≡ true = grind (arith, nat_tests) in rw is refl
found_by n m ms false e next h same =
    let one : 1 + place n ms ≡ suc (place n ms) = omega arith in
    let there : get_or ms (place n ms) 0 ≡ n = ap (λ (k : ℕ). get_or (m ∷ ms) k 0) (sym one) ∙ same in
    let other : (n == m) ≡ false = grind (arith, nat_tests) in
    let above : nat_lt n m ≡ false = grind (arith, nat_tests) in
    rw (other, above) (ap (λ (ns : List ℕ). m ∷ ns) (next (omega arith) there))

pub found : (n : ℕ) (xs : List ℕ) → place n xs < length xs → get_or xs (place n xs) 0 ≡ n → with_number n xs ≡ xs
found n [] h same = absurd (omega arith)
found n (m ∷ ms) h same = found_by n m ms (nat_le n m) refl (found n ms) h same

-- another is put there
placed_by : (n m : ℕ) (ms : List ℕ) (b : Bool) → nat_le n m ≡ b → ((place n ms < length ms → get_or ms (place n ms) 0 ≢ n) → with_number n ms ≡ insert ms (place n ms) n)
    → (cond (not b) (1 + place n ms) 0 < length (m ∷ ms) → get_or (m ∷ ms) (cond (not b) (1 + place n ms) 0) 0 ≢ n) → with_number n (m ∷ ms) ≡ insert (m ∷ ms) (cond (not b) (1 + place n ms) 0) n
placed_by n m ms true e next new =
    let differ : m ≢ n = new (omega arith) in
    let other : (n == m) ≡ false = grind (arith, nat_tests) in
    let below : nat_lt n m ≡ true = grind (arith, nat_tests) in
    rw (other, below) refl
placed_by n m ms false e next new =
    let one : 1 + place n ms ≡ suc (place n ms) = omega arith in
    let other : (n == m) ≡ false = grind (arith, nat_tests) in
    let above : nat_lt n m ≡ false = grind (arith, nat_tests) in
    let rest = next (λ h same. new (omega arith) (ap (λ (k : ℕ). get_or (m ∷ ms) k 0) one ∙ same)) in
    rw (other, above) (ap (λ (ns : List ℕ). m ∷ ns) rest ∙ ap (λ (k : ℕ). insert (m ∷ ms) k n) (sym one))

pub placed : (n : ℕ) (xs : List ℕ) → (place n xs < length xs → get_or xs (place n xs) 0 ≢ n) → with_number n xs ≡ insert xs (place n xs) n
placed n [] new = refl
placed n (m ∷ ms) new = placed_by n m ms (nat_le n m) refl (placed n ms) new

-- numbers moved up by one place, and a number put before them
moved_up : (ns : List ℕ) (a m x : ℕ) → a + m < length ns → set (paste ns (a + 1) (drop a ns) m) a x ≡ paste ns a (x ∷ drop a ns) (suc m)
moved_up ns a m x lt =
    let enough : m ≤ length (drop a ns) = omega (arith, length-drop a ns) in
    let front = take (a + 1) ns in
    let moved = take m (drop a ns) in
    let back = drop (a + 1 + m) ns in
    let long : length front ≡ a + 1 = length-take-le (a + 1) ns (omega arith) in
    let same : length (front ++ moved ++ back) ≡ length ns = length-paste ns (a + 1) (drop a ns) m (omega arith) enough in
    let first : take a (front ++ moved ++ back) ≡ take a ns =
    ap (take a) (append_assoc front moved back) ∙ take-append-le a front (moved ++ back) (omega (arith, long)) ∙ take-take a (a + 1) ns (omega arith) in
    let next : a + 1 ≡ suc a = omega arith in
    let rest : drop (suc a) (front ++ moved ++ back) ≡ moved ++ back =
    ap (drop (suc a)) (append_assoc front moved back) ∙ drop_at front (moved ++ back) (suc a) (long ∙ next) in
    let ends : a + 1 + m ≡ a + suc m = omega arith in
    let joined : take a ns ++ x ∷ (moved ++ back) ≡ take a ns ++ (x ∷ moved) ++ drop (a + suc m) ns =
    ap (λ (n : ℕ). take a ns ++ x ∷ (moved ++ drop n ns)) ends ∙ sym (append_assoc (take a ns) (x ∷ moved) (drop (a + suc m) ns)) in
    set_split (front ++ moved ++ back) a x (omega (arith, same)) ∙ rw (first, rest) joined

-- the first numbers, of which those from a place on are moved up for one more
pub put_in : (ns : List ℕ) (count a x : ℕ) → a ≤ count → count < length ns → take (count + 1) (set (copy_within ns a count (a + 1)) a x) ≡ insert (take count ns) a x
put_in ns count a x le lt =
    let m = count - a in
    let sum : count + 1 ≡ a + suc m = omega arith in
    let whole : a + m ≡ count = omega arith in
    let enough : suc m ≤ length (x ∷ drop a ns) = omega (arith, length-drop a ns) in
    let moved : take m (drop a ns) ≡ drop a (take count ns) = sym (drop-take a m ns) ∙ ap (λ (k : ℕ). drop a (take k ns)) whole in
    let front : take a ns ≡ take a (take count ns) = sym (take-take a count ns le) in
    ap (λ (l : List ℕ). take (count + 1) l) (moved_up ns a m x (omega arith))
    ∙ ap (λ (k : ℕ). take k (paste ns a (x ∷ drop a ns) (suc m))) sum
    ∙ take-paste ns a (x ∷ drop a ns) (suc m) (omega arith) enough
    ∙ ap (λ (l : List ℕ). l ++ x ∷ take m (drop a ns)) front
    ∙ ap (λ (l : List ℕ). take a (take count ns) ++ x ∷ l) moved
