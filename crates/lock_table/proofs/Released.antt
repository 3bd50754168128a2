-- A station lets go of all its locks, table by table.
use Rattle.std.proofs.Common.{◌≡◌, zero, suc, inl, inr, ℕ, ◌+◌, ◌*◌, ◌/◌, ◌<◌, ◌≤◌, Bool, true, false, not, cond, ◌&&◌, ◌==◌, nat_le, List, [], ◌∷◌, length, map, refl, ap, subst, ◌∙◌, arith}
use Rattle.std.specs.List.{filter}
use Rattle.std.proofs.Math.Nat.{div-lt_iff_lt-mul}
use Rattle.std.proofs.lemmas.Bool.Decides.{nat_tests}
use Rattle.lock_table.specs.Locks.{Lock, HeldLocks, held, is_own, without, without_all, IsHeld, is_others}
use Rattle.lock_table.specs.Slots.{lock_at, locks_from, locks_of, AreSlots}
use Rattle.lock_table.specs.Laws.{held_append}

filter_same : (p q : Lock → Bool) (xs : List Lock) → ((l : Lock) → IsHeld xs l → p l ≡ q l) → filter p xs ≡ filter q xs
filter_same p q [] h = refl
filter_same p q (x ∷ xs) h =
    ap (λ (b : Bool). cond b (x ∷ filter p xs) (filter p xs)) (h x (inl refl))
    ∙ ap (λ (ls : List Lock). cond (q x) (x ∷ ls) ls) (filter_same p q xs (λ l i. h l (inr i)))

filter_true : (p : Lock → Bool) (xs : List Lock) → ((l : Lock) → IsHeld xs l → p l ≡ true) → filter p xs ≡ xs
filter_true p [] h = refl
filter_true p (x ∷ xs) h =
    ap (λ (b : Bool). cond b (x ∷ filter p xs) (filter p xs)) (h x (inl refl))
    ∙ ap (λ (ls : List Lock). x ∷ ls) (filter_true p xs (λ l i. h l (inr i)))

both_cond : (p q : Lock → Bool) (x : Lock) (xs ys : List Lock) (b : Bool) → filter p xs ≡ ys → filter p (cond b (x ∷ xs) xs) ≡ cond (b && p x) (x ∷ ys) ys
both_cond p q x xs ys true e = ap (λ (ls : List Lock). cond (p x) (x ∷ ls) ls) e
both_cond p q x xs ys false e = e

filter_both : (p q : Lock → Bool) (xs : List Lock) → filter p (filter q xs) ≡ filter (λ l. q l && p l) xs
filter_both p q [] = refl
filter_both p q (x ∷ xs) = both_cond p q x (filter q xs) (filter (λ l. q l && p l) xs) (q x) (filter_both p q xs)

held_map : (f : ℕ → Lock) (ns : List ℕ) (l : Lock) → IsHeld (map f ns) l → (n : ℕ) × (l ≡ f n)
held_map f [] l h = absurd h
held_map f (n ∷ ns) l (inl e) = (n, e)
held_map f (n ∷ ns) l (inr h) = held_map f ns l h

row_inside : (n p tables : ℕ) → p < tables * n → p / n < tables
row_inside zero p tables h = absurd (omega arith)
row_inside (suc m) p tables h = (div-lt_iff_lt-mul {k = suc m} {x = p} {y = tables} (omega arith)).1 h

-- the locks of the slots are in the tables that there are
inside_from : (n p tables : ℕ) (xs : List (List ℕ)) (l : Lock) → p + length xs ≤ tables * n → IsHeld (locks_from n p xs) l → (1 ≤ l.table) × (l.table ≤ tables)
inside_from n p tables [] l h i = absurd i
inside_from n p tables (x ∷ xs) l h i =
    elim (held_append (map (lock_at n p) x) (locks_from n (p + 1) xs) l i) [
      | inl j ↦
          let e : l.table ≡ p / n + 1 = ap (λ (m : Lock). m.table) (held_map (lock_at n p) x l j).1 in
          let below : p / n < tables = row_inside n p tables (omega arith) in
          (omega arith, omega arith)
      | inr j ↦ inside_from n (p + 1) tables xs l (omega arith) j
    ]

pub inside_tables : (n tables : ℕ) (slots : List (List ℕ)) (h : HeldLocks) → held n tables (locks_of n slots) ≡ h → AreSlots n tables slots → (l : Lock) → IsHeld h.locks l → (1 ≤ l.table) × (l.table ≤ h.tables)
inside_tables n tables slots h e ok =
    let P : HeldLocks → Type 0 = λ h. (l : Lock) → IsHeld h.locks l → (1 ≤ l.table) × (l.table ≤ h.tables) in
    let here : P (held n tables (locks_of n slots)) = λ l i. inside_from n 0 tables slots l (omega (arith, ok.whole)) i in
    subst P e here

-- the locks without those of a station in the first tables
abbrev pub without_first : List Lock → ℕ → ℕ → List Lock
without_first locks station tables = filter (λ l. not (nat_le l.table tables && l.station == station)) locks

none_yet : (t : ℕ) (b : Bool) → 1 ≤ t → not (nat_le t 0 && b) ≡ true
none_yet t b h = let e : nat_le t 0 ≡ false = grind (arith, nat_tests) in ap (λ (x : Bool). not (x && b)) e

one_more : (t i : ℕ) (b : Bool) → (not (nat_le t i && b) && not (t == i + 1 && b)) ≡ not (nat_le t (i + 1) && b)
one_more t i true = grind (arith, nat_tests)
one_more t i false = grind (arith, nat_tests)

all_gone : (t tables : ℕ) (b : Bool) → t ≤ tables → not (nat_le t tables && b) ≡ not b
all_gone t tables b h = let e : nat_le t tables ≡ true = grind (arith, nat_tests) in ap (λ (x : Bool). not (x && b)) e

pub without_first-none : (locks : List Lock) (station tables : ℕ) → ((l : Lock) → IsHeld locks l → (1 ≤ l.table) × (l.table ≤ tables)) → without_first locks station 0 ≡ locks
without_first-none locks station tables inside = filter_true (λ l. not (nat_le l.table 0 && l.station == station)) locks (λ l i. none_yet l.table (l.station == station) (inside l i).0)

pub without_first-more : (locks : List Lock) (station i : ℕ) → without (without_first locks station i) station (i + 1) ≡ without_first locks station (i + 1)
without_first-more locks station i =
    filter_both (λ l. not (is_own station (i + 1) l)) (λ l. not (nat_le l.table i && l.station == station)) locks
    ∙ filter_same (λ l. not (nat_le l.table i && l.station == station) && not (is_own station (i + 1) l)) (λ l. not (nat_le l.table (i + 1) && l.station == station)) locks (λ l _. one_more l.table i (l.station == station))

pub without_first-all : (locks : List Lock) (station tables : ℕ) → ((l : Lock) → IsHeld locks l → (1 ≤ l.table) × (l.table ≤ tables)) → without_first locks station tables ≡ without_all locks station
without_first-all locks station tables inside = filter_same (λ l. not (nat_le l.table tables && l.station == station)) (is_others station) locks (λ l i. all_gone l.table tables (l.station == station) (inside l i).1)
