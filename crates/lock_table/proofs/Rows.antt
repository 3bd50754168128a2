-- The locks of one table, slot by slot.
use Rattle.std.proofs.Common.{◌≡◌, ℕ, zero, suc, cond, length-append, ◌+◌, ◌<◌, ◌≤◌, Bool, true, false, not, ◌&&◌, ◌||◌, ◌==◌, nat_lt, List, [], ◌∷◌, ◌++◌, length, map, take, drop, get_or, Option, Some, None, refl, sym, ap, ◌∙◌, arith}
use Rattle.std.specs.List.{list_any, filter, find}
use Rattle.std.specs.Option.{option_or}
use Rattle.std.proofs.lemmas.List.Elements.{filter-append}
use Rattle.std.proofs.Math.Bool.{and-false, and-true, or-false}
use Rattle.std.proofs.lemmas.Bool.Decides.{nat_tests}
use Rattle.std.proofs.lemmas.List.Folds.{list_any-append, find-append}
use Rattle.std.proofs.lemmas.List.{take_more, append-nil, length-take, take-append-drop, take_all, get_or_read}
use Rattle.lock_table.specs.Locks.{Lock, lock_of, bars, lets_write, is_others}
use Rattle.lock_table.specs.Slots.{row_from}
use Rattle.lock_table.proofs.Numbered.{slot_locks-append}

-- the locks of a row's first slots
abbrev pub rowed : ℕ → List (List ℕ) → ℕ → List Lock
rowed t row i = row_from t 1 (take i row)

-- one slot more
pub rowed_more : (t : ℕ) (row : List (List ℕ)) (i : ℕ) → i < length row → rowed t row (i + 1) ≡ rowed t row i ++ map (lock_of t (i + 1)) (get_or row i [])
rowed_more t row i h =
    let at : 1 + length (take i row) ≡ i + 1 = omega (arith, length-take i row) in
    ap (row_from t 1) (take_more row i [] h)
    ∙ slot_locks-append (lock_of t) 1 (take i row) (get_or row i [] ∷ [])
    ∙ ap (λ (k : ℕ). rowed t row i ++ row_from t k (get_or row i [] ∷ [])) at
    ∙ ap (λ (z : List Lock). rowed t row i ++ z) (append-nil (map (lock_of t (i + 1)) (get_or row i [])))

-- the first slots and the others
pub rowed_rest : (t : ℕ) (row : List (List ℕ)) (i : ℕ) → row_from t 1 row ≡ rowed t row i ++ row_from t (1 + length (take i row)) (drop i row)
rowed_rest t row i =
    ap (λ (xs : List (List ℕ)). row_from t 1 xs) (sym (take-append-drop i row))
    ∙ slot_locks-append (lock_of t) 1 (take i row) (drop i row)

-- all slots
pub rowed_all : (t : ℕ) (row : List (List ℕ)) (i : ℕ) → length row ≤ i → rowed t row i ≡ row_from t 1 row
rowed_all t row i h = ap (λ (xs : List (List ℕ)). row_from t 1 xs) (take_all i row h)

-- a test of one slot more
pub any_more : (p : Lock → Bool) (t : ℕ) (row : List (List ℕ)) (i : ℕ) → i < length row → list_any p (rowed t row (i + 1)) ≡ (list_any p (rowed t row i) || list_any p (map (lock_of t (i + 1)) (get_or row i [])))
any_more p t row i h = ap (list_any p) (rowed_more t row i h) ∙ list_any-append p (rowed t row i) (map (lock_of t (i + 1)) (get_or row i []))

-- what a slot passes, its row does
pub any_kept : (p : Lock → Bool) (t : ℕ) (row : List (List ℕ)) (i : ℕ) → list_any p (rowed t row i) ≡ true → list_any p (row_from t 1 row) ≡ true
any_kept p t row i e =
    ap (list_any p) (rowed_rest t row i) ∙ list_any-append p (rowed t row i) (row_from t (1 + length (take i row)) (drop i row))
    ∙ ap (λ (b : Bool). b || list_any p (row_from t (1 + length (take i row)) (drop i row))) e

both_or : (a b c : Bool) → (a && b || a && c) ≡ (a && (b || c))
both_or true b c = refl
both_or false b c = refl

-- a test of a slot's owner and of its numbers, for the locks of a slot
any_both : (a : Bool) (p : ℕ → Bool) (q : Lock → Bool) (f : ℕ → Lock) (ns : List ℕ) → ((n : ℕ) → q (f n) ≡ (a && p n)) → list_any q (map f ns) ≡ (a && list_any p ns)
any_both a p q f [] h = sym (and-false a)
any_both a p q f (n ∷ ns) h =
    ap (λ (b : Bool). b || list_any q (map f ns)) (h n)
    ∙ ap (λ (b : Bool). (a && p n) || b) (any_both a p q f ns h)
    ∙ both_or a (p n) (list_any p ns)

-- the tests of a lock, for the locks of a slot
pub other_covers : (t k s number : ℕ) (slot : List ℕ) → list_any (bars s number) (map (lock_of t k) slot) ≡ (not (k == s) && list_any (λ n. n == number || n == 0) slot)
other_covers t k s number slot = any_both (not (k == s)) (λ n. n == number || n == 0) (bars s number) (lock_of t k) slot (λ n. refl)

pub own_covers : (t k s number : ℕ) (slot : List ℕ) → list_any (lets_write s number) (map (lock_of t k) slot) ≡ (k == s && list_any (λ n. n == number || n == 0) slot)
own_covers t k s number slot = any_both (k == s) (λ n. n == number || n == 0) (lets_write s number) (lock_of t k) slot (λ n. refl)

not_empty : (n : ℕ) (ns : List ℕ) → not (length (n ∷ ns) == 0) ≡ true
not_empty n ns = grind (arith, nat_tests)

or_same : (a : Bool) → (a || a) ≡ a
or_same true = refl
or_same false = refl

holds_more : (a : Bool) (rest : Bool) (b : Bool) → rest ≡ (a && b) → (a || rest) ≡ a
holds_more true rest b e = refl
holds_more false rest b e = e

pub other_holds : (t k s : ℕ) (slot : List ℕ) → list_any (is_others s) (map (lock_of t k) slot) ≡ (not (k == s) && not (length slot == 0))
other_holds t k s [] = sym (and-false (not (k == s)))
other_holds t k s (n ∷ ns) =
    holds_more (not (k == s)) (list_any (is_others s) (map (lock_of t k) ns)) (not (length ns == 0)) (other_holds t k s ns)
    ∙ sym (and-true (not (k == s)))
    ∙ ap (λ (b : Bool). not (k == s) && b) (sym (not_empty n ns))

-- one slot more that keeps no station away, or keeps the station away
pub free_step : (t s number i : ℕ) (row : List (List ℕ)) (slot : List ℕ) (b : Bool) → i < length row → slot ≡ get_or row i slot
    → b ≡ (not (i + 1 == s) && list_any (λ n. n == number || n == 0) slot)
    → list_any (bars s number) (rowed t row i) ≡ false
    → list_any (bars s number) (rowed t row (i + 1)) ≡ b
free_step t s number i row slot b h read e so_far =
    let p : Lock → Bool = bars s number in
    let at : slot ≡ get_or row i [] = get_or_read row i slot h read [] in
    any_more p t row i h
    ∙ ap (λ (x : Bool). x || list_any p (map (lock_of t (i + 1)) (get_or row i []))) so_far
    ∙ other_covers t (i + 1) s number (get_or row i [])
    ∙ sym (e ∙ ap (λ (ns : List ℕ). not (i + 1 == s) && list_any (λ n. n == number || n == 0) ns) at)

pub whole_step : (t s i : ℕ) (row : List (List ℕ)) (slot : List ℕ) (b : Bool) → i < length row → slot ≡ get_or row i slot
    → b ≡ (not (i + 1 == s) && not (length slot == 0))
    → list_any (is_others s) (rowed t row i) ≡ false
    → list_any (is_others s) (rowed t row (i + 1)) ≡ b
whole_step t s i row slot b h read e so_far =
    let p : Lock → Bool = is_others s in
    let at : slot ≡ get_or row i [] = get_or_read row i slot h read [] in
    any_more p t row i h
    ∙ ap (λ (x : Bool). x || list_any p (map (lock_of t (i + 1)) (get_or row i []))) so_far
    ∙ other_holds t (i + 1) s (get_or row i [])
    ∙ sym (e ∙ ap (λ (ns : List ℕ). not (i + 1 == s) && not (length ns == 0)) at)

found_cond : (t k number n : ℕ) (b : Bool) (rest : Option Lock) (more : Bool) → (n == number) ≡ b → rest ≡ cond more (Some (lock_of t k number)) None
    → cond b (Some (lock_of t k n)) rest ≡ cond (b || more) (Some (lock_of t k number)) None
found_cond t k number n true rest more e h = let same : n ≡ number = grind (arith, nat_tests) in ap (λ (m : ℕ). Some (lock_of t k m)) same
found_cond t k number n false rest more e h = h

-- a lock of the number in a slot
found_in : (t k number : ℕ) (slot : List ℕ) → find (λ l. l.number == number) (map (lock_of t k) slot) ≡ cond (list_any (λ n. n == number) slot) (Some (lock_of t k number)) None
found_in t k number [] = refl
found_in t k number (n ∷ ns) =
    found_cond t k number n (n == number) (find (λ l. l.number == number) (map (lock_of t k) ns)) (list_any (λ n. n == number) ns) refl (found_in t k number ns)

pub find_step : (t number i : ℕ) (row : List (List ℕ)) (slot : List ℕ) (b : Bool) → i < length row → slot ≡ get_or row i slot
    → b ≡ list_any (λ n. n == number) slot
    → find (λ l. l.number == number) (rowed t row i) ≡ None
    → find (λ l. l.number == number) (rowed t row (i + 1)) ≡ cond b (Some (lock_of t (i + 1) number)) None
find_step t number i row slot b h read e so_far =
    let p : Lock → Bool = λ l. l.number == number in
    let there = get_or row i [] in
    let at : slot ≡ there = get_or_read row i slot h read [] in
    ap (find p) (rowed_more t row i h) ∙ find-append p (rowed t row i) (map (lock_of t (i + 1)) there)
    ∙ ap (λ (x : Option Lock). option_or x (find p (map (lock_of t (i + 1)) there))) so_far
    ∙ found_in t (i + 1) number there
    ∙ ap (λ (x : Bool). cond x (Some (lock_of t (i + 1) number)) None) (sym (e ∙ ap (list_any (λ n. n == number)) at))

-- what is found among the first slots is found in the row
pub find_kept : (p : Lock → Bool) (t : ℕ) (row : List (List ℕ)) (i : ℕ) (l : Lock) → find p (rowed t row i) ≡ Some l → find p (row_from t 1 row) ≡ Some l
find_kept p t row i l e =
    let rest = row_from t (1 + length (take i row)) (drop i row) in
    ap (find p) (rowed_rest t row i) ∙ find-append p (rowed t row i) rest ∙ ap (λ (x : Option Lock). option_or x (find p rest)) e

counted_cond : (l : Lock) (n : ℕ) (b : Bool) (ls : List Lock) (ns : List ℕ) → length ls ≡ length ns → length (cond b (l ∷ ls) ls) ≡ length (cond b (n ∷ ns) ns)
counted_cond l n true ls ns e = ap suc e
counted_cond l n false ls ns e = e

-- how many records are locked in one slot more
counted_in : (t k : ℕ) (slot : List ℕ) → length (filter (λ l. nat_lt 0 l.number) (map (lock_of t k) slot)) ≡ length (filter (λ n. nat_lt 0 n) slot)
counted_in t k [] = refl
counted_in t k (n ∷ ns) =
    counted_cond (lock_of t k n) n (nat_lt 0 n) (filter (λ l. nat_lt 0 l.number) (map (lock_of t k) ns)) (filter (λ n. nat_lt 0 n) ns) (counted_in t k ns)

pub count_step : (t i : ℕ) (row : List (List ℕ)) → i < length row
    → length (filter (λ l. nat_lt 0 l.number) (rowed t row (i + 1))) ≡ length (filter (λ l. nat_lt 0 l.number) (rowed t row i)) + length (filter (λ n. nat_lt 0 n) (get_or row i []))
count_step t i row h =
    let p : Lock → Bool = λ l. nat_lt 0 l.number in
    let more = map (lock_of t (i + 1)) (get_or row i []) in
    let parts : filter p (rowed t row (i + 1)) ≡ filter p (rowed t row i) ++ filter p more = ap (filter p) (rowed_more t row i h) ∙ filter-append p (rowed t row i) more in
    ap (λ (ls : List Lock). length ls) parts ∙ length-append (filter p (rowed t row i)) (filter p more)
    ∙ ap (λ (n : ℕ). length (filter p (rowed t row i)) + n) (counted_in t (i + 1) (get_or row i []))

-- the station's own locks stand in its own slot
own_none : (t s number k : ℕ) (row : List (List ℕ)) → s < k → list_any (lets_write s number) (row_from t k row) ≡ false
own_none t s number k [] h = refl
own_none t s number k (x ∷ xs) h =
    let p : Lock → Bool = lets_write s number in
    let other : (k == s) ≡ false = grind (arith, nat_tests) in
    list_any-append p (map (lock_of t k) x) (row_from t (k + 1) xs)
    ∙ ap (λ (b : Bool). b || list_any p (row_from t (k + 1) xs)) (own_covers t k s number x ∙ ap (λ (b : Bool). b && list_any (λ n. n == number || n == 0) x) other)
    ∙ own_none t s number (k + 1) xs (omega arith)

pub own_row : (t s number k j : ℕ) (row : List (List ℕ)) → k + j ≡ s → j < length row
    → list_any (lets_write s number) (row_from t k row) ≡ list_any (λ n. n == number || n == 0) (get_or row j [])
own_row t s number k j [] e h = absurd (omega arith)
own_row t s number k zero (x ∷ xs) e h =
    let p : Lock → Bool = lets_write s number in
    let same : (k == s) ≡ true = grind (arith, nat_tests) in
    list_any-append p (map (lock_of t k) x) (row_from t (k + 1) xs)
    ∙ ap (λ (b : Bool). list_any p (map (lock_of t k) x) || b) (own_none t s number (k + 1) xs (omega arith))
    ∙ or-false (list_any p (map (lock_of t k) x))
    ∙ own_covers t k s number x ∙ ap (λ (b : Bool). b && list_any (λ n. n == number || n == 0) x) same
own_row t s number k (suc j) (x ∷ xs) e h =
    let p : Lock → Bool = lets_write s number in
    let other : (k == s) ≡ false = grind (arith, nat_tests) in
    list_any-append p (map (lock_of t k) x) (row_from t (k + 1) xs)
    ∙ ap (λ (b : Bool). b || list_any p (row_from t (k + 1) xs)) (own_covers t k s number x ∙ ap (λ (b : Bool). b && list_any (λ n. n == number || n == 0) x) other)
    ∙ own_row t s number (k + 1) j xs (omega arith) (omega arith)
