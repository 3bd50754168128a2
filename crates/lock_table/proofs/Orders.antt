-- The locks of the slots are in order.
use Rattle.std.proofs.Common.{◌≡◌, inl, inr, ℕ, zero, suc, ◌+◌, ◌-◌, ◌*◌, ◌/◌, ◌%◌, ◌<◌, ◌≤◌, Bool, true, ◌&&◌, ◌||◌, ◌==◌, nat_lt, List, [], ◌∷◌, ◌++◌, length, map, sym, ap, subst, ◌∙◌, arith}
use Rattle.std.proofs.Math.Nat.{mod-lt, div-add-mod'}
use Rattle.std.proofs.lemmas.Bool.Decides.{nat_tests}
use Rattle.std.proofs.lemmas.List.{nil_from_length}
use Rattle.lock_table.specs.Numbers.{AreAscending}
use Rattle.lock_table.specs.NumberLaws.{below_listed}
use Rattle.lock_table.specs.Locks.{Lock, HeldLocks, held, IsHeld, is_before, is_own, is_earlier, AreLocksInOrder}
use Rattle.lock_table.specs.Laws.{held_append, held_listed}
use Rattle.lock_table.specs.Slots.{slot_index_of, lock_at, locks_from, locks_of, EachSlot, AreSlots}
use Rattle.lock_table.proofs.Indexes.{before_index}

-- a lock of the slots from an index on is of one of these indexes
held_from : (n p : ℕ) (slots : List (List ℕ)) (m : Lock) → IsHeld (locks_from n p slots) m → (q : ℕ) × (r : ℕ) × (p ≤ q) × (m ≡ lock_at n q r)
held_from n p [] m h = absurd h
held_from n p (x ∷ xs) m h =
    elim (held_append (map (lock_at n p) x) (locks_from n (p + 1) xs) m h) [
      | inl i ↦ let j = held_listed (p % n + 1) (p / n + 1) x m i in (p, j.0, omega arith, j.2)
      | inr i ↦ let j = held_from n (p + 1) xs m i in (j.0, j.1, omega (arith, j.2), j.3)
    ]

same_index : (t s n : ℕ) → (t + 1 - 1) * n + (s + 1 - 1) ≡ t * n + s
same_index t s n =
    let a : t + 1 - 1 ≡ t = omega arith in
    let b : s + 1 - 1 ≡ s = omega arith in
    ap (λ (x : ℕ). x * n + (s + 1 - 1)) a ∙ ap (λ (x : ℕ). t * n + x) b

-- the lock of an earlier index stands before that of a later one
earlier : (n p q r : ℕ) → 0 < n → p < q → is_before (q % n + 1) (q / n + 1) (lock_at n p r) ≡ true
earlier n p q r h i =
    let at : slot_index_of n (q % n + 1) (q / n + 1) ≡ q = same_index (q / n) (q % n) n ∙ div-add-mod' q n in
    before_index n (q % n + 1) (q / n + 1) p r (omega arith) (omega arith) (omega (arith, mod-lt q h)) ∙ ap (λ (x : ℕ). nat_lt p x) at ∙ grind (arith, nat_tests)

other_index : (n p q r o : ℕ) → 0 < n → p < q → is_earlier (lock_at n p r) (lock_at n q o) ≡ true
other_index n p q r o h i =
    ap (λ (b : Bool). b || (is_own (q % n + 1) (q / n + 1) (lock_at n p r) && nat_lt r o)) (earlier n p q r h i)

same_slot : (t s r o : ℕ) → r < o → ((nat_lt t t || (t == t && nat_lt s s)) || ((t == t && s == s) && nat_lt r o)) ≡ true
same_slot t s r o h = grind (arith, nat_tests)

-- a slot's locks, and those after it
slot_in_order : (n p : ℕ) (x : List ℕ) (rest : List Lock) → AreAscending x → AreLocksInOrder rest → ((r : ℕ) (m : Lock) → IsHeld rest m → is_earlier (lock_at n p r) m ≡ true) → AreLocksInOrder (map (lock_at n p) x ++ rest)
slot_in_order n p [] rest up order first = order
slot_in_order n p (r ∷ rs) rest up order first = (
  λ m held. elim (held_append (map (lock_at n p) rs) rest m held) [
    | inl i ↦
        let j = held_listed (p % n + 1) (p / n + 1) rs m i in
        let P : Lock → Type 0 = λ l. is_earlier (lock_at n p r) l ≡ true in
        subst P (sym j.2) (same_slot (p / n + 1) (p % n + 1) r j.0 (below_listed r rs j.0 up.0 j.1))
    | inr i ↦ first r m i
  ],
  slot_in_order n p rs rest up.1 order first,
)

in_order_from : (n p : ℕ) (slots : List (List ℕ)) → 0 < n → EachSlot slots → AreLocksInOrder (locks_from n p slots)
in_order_from n p [] h each = tt
in_order_from n p (x ∷ xs) h each =
    slot_in_order n p x (locks_from n (p + 1) xs) each.0.ascending (in_order_from n (p + 1) xs h each.1)
    (λ r m held.
    let i = held_from n (p + 1) xs m held in
    let P : Lock → Type 0 = λ l. is_earlier (lock_at n p r) l ≡ true in
    subst P (sym i.3) (other_index n p i.0 r i.1 h (omega (arith, i.2))))

in_order_slots : (n tables : ℕ) (slots : List (List ℕ)) → length slots ≡ tables * n → EachSlot slots → AreLocksInOrder (locks_of n slots)
in_order_slots zero tables slots e each =
    let none : length slots ≡ 0 = omega arith in
    let P : List (List ℕ) → Type 0 = λ xs. AreLocksInOrder (locks_of 0 xs) in
    subst P (sym (nil_from_length slots none)) tt
in_order_slots (suc m) tables slots e each = in_order_from (suc m) 0 slots (omega arith) each

pub in_order : (n tables : ℕ) (slots : List (List ℕ)) (h : HeldLocks) → held n tables (locks_of n slots) ≡ h → AreSlots n tables slots → AreLocksInOrder h.locks
in_order n tables slots h e ok = let P : HeldLocks → Type 0 = λ h. AreLocksInOrder h.locks in subst P e (in_order_slots n tables slots ok.whole ok.each)
