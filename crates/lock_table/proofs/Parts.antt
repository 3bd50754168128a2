-- The list of locks by parts of the slots: what a filter keeps, and what another slot makes of it.
use Rattle.std.proofs.Common.{◌≡◌, ℕ, zero, suc, ◌+◌, ◌-◌, ◌*◌, ◌<◌, ◌≤◌, Bool, true, false, not, ◌==◌, List, [], ◌∷◌, ◌++◌, length, map, take, drop, replicate, get_or, slice_set, slice_range, refl, sym, ap, ◌∙◌, arith, length-drop}
use Rattle.std.specs.List.{filter}
use Rattle.std.proofs.lemmas.List.{append-nil, nil_from_length, set_split, set-get_or, length-take, take-append-drop}
use Rattle.std.proofs.lemmas.List.Edits.{get_or-between}
use Rattle.std.proofs.lemmas.List.Elements.{filter-append}
use Rattle.std.proofs.lemmas.Bool.Decides.{nat_tests}
use Rattle.lock_table.specs.Locks.{Lock, lock_of, in_table, is_before, is_after, is_own, with_locks, without, own_numbers}
use Rattle.lock_table.specs.Slots.{slot_index_of, lock_at, locks_from, locks_of, row_from}
use Rattle.lock_table.proofs.Numbered.{slot_locks-append}
use Rattle.lock_table.proofs.Indexes.{before_index, after_index, own_index, table_index, rows_rise, lock_in_row, lock_at_index}

filter_all : (test : Lock → Bool) (f : ℕ → Lock) (xs : List ℕ) → ((r : ℕ) → test (f r) ≡ true) → filter test (map f xs) ≡ map f xs
filter_all test f [] h = refl
filter_all test f (x ∷ xs) h = rw (h x) (ap (λ (z : List Lock). f x ∷ z) (filter_all test f xs h))

filter_none : (test : Lock → Bool) (f : ℕ → Lock) (xs : List ℕ) → ((r : ℕ) → test (f r) ≡ false) → filter test (map f xs) ≡ []
filter_none test f [] h = refl
filter_none test f (x ∷ xs) h = rw (h x) (filter_none test f xs h)

-- slots whose locks all pass a test, or none of them
pub kept_all : (n p : ℕ) (test : Lock → Bool) (xs : List (List ℕ)) → ((q r : ℕ) → p ≤ q → q < p + length xs → test (lock_at n q r) ≡ true) → filter test (locks_from n p xs) ≡ locks_from n p xs
kept_all n p test [] h = refl
kept_all n p test (x ∷ xs) h =
    filter-append test (map (lock_at n p) x) (locks_from n (p + 1) xs)
    ∙ ap (λ (z : List Lock). z ++ filter test (locks_from n (p + 1) xs)) (filter_all test (lock_at n p) x (λ r. h p r (omega arith) (omega arith)))
    ∙ ap (λ (z : List Lock). map (lock_at n p) x ++ z) (kept_all n (p + 1) test xs (λ q r a b. h q r (omega arith) (omega arith)))

pub kept_none : (n p : ℕ) (test : Lock → Bool) (xs : List (List ℕ)) → ((q r : ℕ) → p ≤ q → q < p + length xs → test (lock_at n q r) ≡ false) → filter test (locks_from n p xs) ≡ []
kept_none n p test [] h = refl
kept_none n p test (x ∷ xs) h =
    filter-append test (map (lock_at n p) x) (locks_from n (p + 1) xs)
    ∙ ap (λ (z : List Lock). z ++ filter test (locks_from n (p + 1) xs)) (filter_none test (lock_at n p) x (λ r. h p r (omega arith) (omega arith)))
    ∙ kept_none n (p + 1) test xs (λ q r a b. h q r (omega arith) (omega arith))

-- the slots before an index, its own, and those after it
split_slots : (n p : ℕ) (a : List (List ℕ)) (x : List ℕ) (b : List (List ℕ)) → length a ≡ p → locks_from n 0 (a ++ x ∷ b) ≡ locks_from n 0 a ++ (map (lock_at n p) x ++ locks_from n (p + 1) b)
split_slots n p a x b e =
    let at : 0 + length a ≡ p = omega arith in
    slot_locks-append (lock_at n) 0 a (x ∷ b) ∙ ap (λ (k : ℕ). locks_from n 0 a ++ (map (lock_at n k) x ++ locks_from n (k + 1) b)) at

-- what a filter keeps of three parts
three_kept : (test : Lock → Bool) (xs ys zs us vs ws : List Lock) → filter test xs ≡ us → filter test ys ≡ vs → filter test zs ≡ ws → filter test (xs ++ (ys ++ zs)) ≡ us ++ (vs ++ ws)
three_kept test xs ys zs us vs ws e f g =
    filter-append test xs (ys ++ zs) ∙ ap (λ (z : List Lock). filter test xs ++ z) (filter-append test ys zs)
    ∙ ap (λ (z : List Lock). z ++ (filter test ys ++ filter test zs)) e
    ∙ ap (λ (z : List Lock). us ++ (z ++ filter test zs)) f
    ∙ ap (λ (z : List Lock). us ++ (vs ++ z)) g

-- what a filter keeps of the slots before an index, of its own, and of those after it
slots_kept : (n p : ℕ) (test : Lock → Bool) (a : List (List ℕ)) (x : List ℕ) (b : List (List ℕ)) (us vs ws : List Lock) → length a ≡ p
    → filter test (locks_from n 0 a) ≡ us → filter test (map (lock_at n p) x) ≡ vs → filter test (locks_from n (p + 1) b) ≡ ws
    → filter test (locks_from n 0 (a ++ x ∷ b)) ≡ us ++ (vs ++ ws)
slots_kept n p test a x b us vs ws h e f g =
    ap (filter test) (split_slots n p a x b h) ∙ three_kept test (locks_from n 0 a) (map (lock_at n p) x) (locks_from n (p + 1) b) us vs ws e f g

map_same : (f g : ℕ → Lock) (xs : List ℕ) → ((r : ℕ) → f r ≡ g r) → map f xs ≡ map g xs
map_same f g [] h = refl
map_same f g (x ∷ xs) h = rw (h x) (ap (λ (z : List Lock). g x ∷ z) (map_same f g xs h))

-- other records in the slot of a station and a table
pub slot_replaced : (n s t : ℕ) (a : List (List ℕ)) (x v : List ℕ) (b : List (List ℕ)) → 1 ≤ t → 1 ≤ s → s ≤ n → length a ≡ slot_index_of n s t
    → locks_from n 0 (a ++ v ∷ b) ≡ with_locks (locks_from n 0 (a ++ x ∷ b)) s t v
slot_replaced n s t a x v b h i j e =
    let p = slot_index_of n s t in
    let front : filter (is_before s t) (locks_from n 0 (a ++ x ∷ b)) ≡ locks_from n 0 a =
    slots_kept n p (is_before s t) a x b (locks_from n 0 a) [] [] e
    (kept_all n 0 (is_before s t) a (λ q r c d. before_index n s t q r h i j ∙ grind (arith, nat_tests)))
    (filter_none (is_before s t) (lock_at n p) x (λ r. before_index n s t p r h i j ∙ grind (arith, nat_tests)))
    (kept_none n (p + 1) (is_before s t) b (λ q r c d. before_index n s t q r h i j ∙ grind (arith, nat_tests)))
    ∙ append-nil (locks_from n 0 a) in
    let back : filter (is_after s t) (locks_from n 0 (a ++ x ∷ b)) ≡ locks_from n (p + 1) b =
    slots_kept n p (is_after s t) a x b [] [] (locks_from n (p + 1) b) e
    (kept_none n 0 (is_after s t) a (λ q r c d. after_index n s t q r h i j ∙ grind (arith, nat_tests)))
    (filter_none (is_after s t) (lock_at n p) x (λ r. after_index n s t p r h i j ∙ grind (arith, nat_tests)))
    (kept_all n (p + 1) (is_after s t) b (λ q r c d. after_index n s t q r h i j ∙ grind (arith, nat_tests))) in
    split_slots n p a v b e
    ∙ ap (λ (z : List Lock). locks_from n 0 a ++ (z ++ locks_from n (p + 1) b)) (map_same (lock_at n p) (lock_of t s) v (λ r. lock_at_index n s t r h i j))
    ∙ ap (λ (z : List Lock). z ++ (map (lock_of t s) v ++ locks_from n (p + 1) b)) (sym front)
    ∙ ap (λ (z : List Lock). filter (is_before s t) (locks_from n 0 (a ++ x ∷ b)) ++ (map (lock_of t s) v ++ z)) (sym back)

-- no record in the slot of a station and a table
pub slot_emptied : (n s t : ℕ) (a : List (List ℕ)) (x : List ℕ) (b : List (List ℕ)) → 1 ≤ t → 1 ≤ s → s ≤ n → length a ≡ slot_index_of n s t
    → locks_from n 0 (a ++ [] ∷ b) ≡ without (locks_from n 0 (a ++ x ∷ b)) s t
slot_emptied n s t a x b h i j e =
    let p = slot_index_of n s t in
    let test : Lock → Bool = λ l. not (is_own s t l) in
    split_slots n p a [] b e
    ∙ sym (slots_kept n p test a x b (locks_from n 0 a) [] (locks_from n (p + 1) b) e
    (kept_all n 0 test a (λ q r c d. ap not (own_index n s t q r h i j) ∙ grind (arith, nat_tests)))
    (filter_none test (lock_at n p) x (λ r. ap not (own_index n s t p r h i j) ∙ grind (arith, nat_tests)))
    (kept_all n (p + 1) test b (λ q r c d. ap not (own_index n s t q r h i j) ∙ grind (arith, nat_tests))))

-- the slots of one table
row_is : (n t i : ℕ) (xs : List (List ℕ)) → 1 ≤ t → i + length xs ≤ n → locks_from n ((t - 1) * n + i) xs ≡ row_from t (i + 1) xs
row_is n t i [] h k = refl
row_is n t i (x ∷ xs) h k =
    let next : (t - 1) * n + i + 1 ≡ (t - 1) * n + (i + 1) = omega arith in
    ap (λ (z : List Lock). z ++ locks_from n ((t - 1) * n + i + 1) xs) (map_same (lock_at n ((t - 1) * n + i)) (lock_of t (i + 1)) x (λ r. lock_in_row n t i r h (omega arith)))
    ∙ ap (λ (q : ℕ). map (lock_of t (i + 1)) x ++ locks_from n q xs) next
    ∙ ap (λ (z : List Lock). map (lock_of t (i + 1)) x ++ z) (row_is n t (i + 1) xs h (omega arith))

-- the locks in a table are those of its row
pub row_of_table : (n t : ℕ) (a row b : List (List ℕ)) → 0 < n → 1 ≤ t → length a ≡ (t - 1) * n → length row ≡ n
    → in_table (locks_from n 0 (a ++ (row ++ b))) t ≡ row_from t 1 row
row_of_table n t a row b h i e f =
    let test : Lock → Bool = λ l. l.table == t in
    let at : 0 + length a ≡ (t - 1) * n + 0 = omega arith in
    let after : (t - 1) * n + 0 + length row ≡ (t - 1) * n + n = omega arith in
    let parts : locks_from n 0 (a ++ (row ++ b)) ≡ locks_from n 0 a ++ (locks_from n ((t - 1) * n + 0) row ++ locks_from n ((t - 1) * n + n) b) =
    slot_locks-append (lock_at n) 0 a (row ++ b)
    ∙ ap (λ (k : ℕ). locks_from n 0 a ++ locks_from n k (row ++ b)) at
    ∙ ap (λ (z : List Lock). locks_from n 0 a ++ z) (slot_locks-append (lock_at n) ((t - 1) * n + 0) row b)
    ∙ ap (λ (k : ℕ). locks_from n 0 a ++ (locks_from n ((t - 1) * n + 0) row ++ locks_from n k b)) after in
    ap (filter test) parts
    ∙ three_kept test (locks_from n 0 a) (locks_from n ((t - 1) * n + 0) row) (locks_from n ((t - 1) * n + n) b) [] (locks_from n ((t - 1) * n + 0) row) []
    (kept_none n 0 test a (λ q r c d. table_index n t q r h i ∙ grind (arith, nat_tests)))
    (kept_all n ((t - 1) * n + 0) test row (λ q r c d. table_index n t q r h i ∙ grind (arith, nat_tests)))
    (kept_none n ((t - 1) * n + n) test b (λ q r c d. table_index n t q r h i ∙ grind (arith, nat_tests)))
    ∙ append-nil (locks_from n ((t - 1) * n + 0) row)
    ∙ row_is n t 0 row i (omega arith)

-- the station's locks in the table are those of its slot
own_slot : (n s t : ℕ) (a : List (List ℕ)) (x : List ℕ) (b : List (List ℕ)) → 1 ≤ t → 1 ≤ s → s ≤ n → length a ≡ slot_index_of n s t
    → filter (is_own s t) (locks_from n 0 (a ++ x ∷ b)) ≡ map (lock_of t s) x
own_slot n s t a x b h i j e =
    let p = slot_index_of n s t in
    slots_kept n p (is_own s t) a x b [] (map (lock_at n p) x) [] e
    (kept_none n 0 (is_own s t) a (λ q r c d. own_index n s t q r h i j ∙ grind (arith, nat_tests)))
    (filter_all (is_own s t) (lock_at n p) x (λ r. own_index n s t p r h i j ∙ grind (arith, nat_tests)))
    (kept_none n (p + 1) (is_own s t) b (λ q r c d. own_index n s t q r h i j ∙ grind (arith, nat_tests)))
    ∙ append-nil (map (lock_at n p) x)
    ∙ map_same (lock_at n p) (lock_of t s) x (λ r. lock_at_index n s t r h i j)

numbers_back : (t s : ℕ) (ns : List ℕ) → map (λ (l : Lock). l.number) (map (lock_of t s) ns) ≡ ns
numbers_back t s [] = refl
numbers_back t s (n ∷ ns) = ap (λ (z : List ℕ). n ∷ z) (numbers_back t s ns)

-- no slot has a lock
pub no_locks : (n p k : ℕ) → locks_from n p (replicate k []) ≡ []
no_locks n p zero = refl
no_locks n p (suc k) = no_locks n (p + 1) k

length-before : (slots : List (List ℕ)) (p : ℕ) → p < length slots → length (take p slots) ≡ p
length-before slots p h = omega (arith, length-take p slots)

slot_there : (slots : List (List ℕ)) (p : ℕ) → p < length slots → slots ≡ take p slots ++ get_or slots p [] ∷ drop (suc p) slots
slot_there slots p h = sym (set-get_or slots p []) ∙ set_split slots p (get_or slots p []) h

-- what other records in one slot make of the locks
slot_changed : (n p : ℕ) (slots : List (List ℕ)) (v : List ℕ) (change : List Lock → List Lock) → p < length slots
    → ((a : List (List ℕ)) (x : List ℕ) (b : List (List ℕ)) → length a ≡ p → locks_from n 0 (a ++ v ∷ b) ≡ change (locks_from n 0 (a ++ x ∷ b)))
    → locks_of n (slice_set slots p v) ≡ change (locks_of n slots)
slot_changed n p slots v change k changes =
    let old = get_or slots p [] in
    ap (locks_from n 0) (set_split slots p v k)
    ∙ changes (take p slots) old (drop (suc p) slots) (length-before slots p k)
    ∙ ap (λ (xs : List (List ℕ)). change (locks_from n 0 xs)) (sym (slot_there slots p k))

-- a write into the slot of a station and a table
pub set_slot : (n s t : ℕ) (slots : List (List ℕ)) (v : List ℕ) → 1 ≤ t → 1 ≤ s → s ≤ n → slot_index_of n s t < length slots
    → locks_of n (slice_set slots (slot_index_of n s t) v) ≡ with_locks (locks_of n slots) s t v
set_slot n s t slots v h i j k = slot_changed n (slot_index_of n s t) slots v (λ ls. with_locks ls s t v) k (λ a x b e. slot_replaced n s t a x v b h i j e)

-- a slot is emptied
pub clear_slot : (n s t : ℕ) (slots : List (List ℕ)) → 1 ≤ t → 1 ≤ s → s ≤ n → slot_index_of n s t < length slots
    → locks_of n (slice_set slots (slot_index_of n s t) []) ≡ without (locks_of n slots) s t
clear_slot n s t slots h i j k = slot_changed n (slot_index_of n s t) slots [] (λ ls. without ls s t) k (λ a x b e. slot_emptied n s t a x b h i j e)

-- the slot of a station and a table tells what the station has locked there
own_slot_numbers : (n s t : ℕ) (slots : List (List ℕ)) → 1 ≤ t → 1 ≤ s → s ≤ n → slot_index_of n s t < length slots
    → own_numbers (locks_of n slots) s t ≡ get_or slots (slot_index_of n s t) []
own_slot_numbers n s t slots h i j k =
    let p = slot_index_of n s t in
    let x = get_or slots p [] in
    ap (λ (xs : List (List ℕ)). own_numbers (locks_from n 0 xs) s t) (slot_there slots p k)
    ∙ ap (λ (ls : List Lock). map (λ (l : Lock). l.number) ls) (own_slot n s t (take p slots) x (drop (suc p) slots) h i j (length-before slots p k))
    ∙ numbers_back t s x

-- and so does its row
pub own_in_row : (n s t tables : ℕ) (slots : List (List ℕ)) → 1 ≤ t → t ≤ tables → 1 ≤ s → s ≤ n → length slots ≡ tables * n
    → own_numbers (locks_of n slots) s t ≡ get_or (slice_range slots ((t - 1) * n) ((t - 1) * n + n)) (s - 1) []
own_in_row n s t tables slots h i j k e =
    let inside : slot_index_of n s t < length slots = omega (arith, rows_rise (t - 1) tables n (omega arith)) in
    let there : get_or (slice_range slots ((t - 1) * n) ((t - 1) * n + n)) (s - 1) [] ≡ get_or slots (slot_index_of n s t) [] =
    get_or-between slots ((t - 1) * n) ((t - 1) * n + n) (s - 1) [] (omega arith) in
    own_slot_numbers n s t slots h j k inside ∙ sym there

-- the slots of a table tell its locks
pub table_slots : (n t tables : ℕ) (slots : List (List ℕ)) → 1 ≤ t → t ≤ tables → length slots ≡ tables * n
    → in_table (locks_of n slots) t ≡ row_from t 1 (slice_range slots ((t - 1) * n) ((t - 1) * n + n))
table_slots zero t tables slots h i e =
    let none : length slots ≡ 0 = omega arith in
    let row = slice_range slots ((t - 1) * 0) ((t - 1) * 0 + 0) in
    let count_bounded : length row ≡ 0 = omega (arith, length-take ((t - 1) * 0 + 0 - (t - 1) * 0) (drop ((t - 1) * 0) slots), length-drop ((t - 1) * 0) slots) in
    ap (λ (xs : List (List ℕ)). in_table (locks_of 0 xs) t) (nil_from_length slots none) ∙ sym (ap (λ (xs : List (List ℕ)). row_from t 1 xs) (nil_from_length row count_bounded))
table_slots (suc m) t tables slots h i e =
    let n = suc m in
    let start = (t - 1) * n in
    let rise : (t - 1) * n + n ≤ tables * n = rows_rise (t - 1) tables n (omega arith) in
    let width : start + n - start ≡ n = omega arith in
    let row = take n (drop start slots) in
    let parts : slots ≡ take start slots ++ (row ++ drop n (drop start slots)) =
    sym (take-append-drop start slots) ∙ ap (λ (xs : List (List ℕ)). take start slots ++ xs) (sym (take-append-drop n (drop start slots))) in
    let before : length (take start slots) ≡ start = omega (arith, length-take start slots) in
    let wide : length row ≡ n = omega (arith, length-take n (drop start slots), length-drop start slots) in
    ap (λ (xs : List (List ℕ)). in_table (locks_from n 0 xs) t) parts
    ∙ row_of_table n t (take start slots) row (drop n (drop start slots)) (omega arith) h before wide
    ∙ ap (λ (k : ℕ). row_from t 1 (take k (drop start slots))) (sym width)
