-- What a write into a slot makes of the locks.
use Rattle.std.proofs.Common.{◌≡◌, ℕ, ◌*◌, ◌<◌, ◌≤◌, List, [], length, replicate, slice_set, sym, ap, subst, ◌∙◌, arith, length-set}
use Rattle.std.proofs.lemmas.List.{length-replicate}
use Rattle.lock_table.specs.Locks.{Lock, HeldLocks, held, with_locks, without, AreApart}
use Rattle.lock_table.specs.Slots.{slot_index_of, locks_of, IsSlot, EachSlot, AreSlots}
use Rattle.lock_table.proofs.Parts.{set_slot, clear_slot, no_locks}
use Rattle.lock_table.proofs.Each.{each_set, each_empty, slot_empty}
use Rattle.lock_table.specs.Laws.{apart_without}

-- slots that have no locks yet
pub new_slots : (n tables : ℕ) (slots : List (List ℕ)) → slots ≡ replicate (tables * n) [] → locks_of n slots ≡ []
new_slots n tables slots h = ap (locks_of n) h ∙ no_locks n 0 (tables * n)

pub new_whole : (n tables : ℕ) (slots : List (List ℕ)) → slots ≡ replicate (tables * n) [] → AreSlots n tables slots
new_whole n tables slots h =
    let P : List Lock → Type 0 = AreApart in
    let Q : List (List ℕ) → Type 0 = EachSlot in
    record {
      whole = ap (λ (ys : List (List ℕ)). length ys) h ∙ length-replicate (tables * n) [];
      apart = subst P (sym (new_slots n tables slots h)) (λ a b i j. absurd i);
      each = subst Q (sym h) (each_empty (tables * n));
    }

-- a slot is written, which changes the locks
written : (n tables s t index : ℕ) (slots : List (List ℕ)) (v : List ℕ) (change : List Lock → List Lock) (h : HeldLocks) → held n tables (locks_of n slots) ≡ h → length slots ≡ tables * n
    → (s ≤ n → slot_index_of n s t < length slots → locks_of n (slice_set slots (slot_index_of n s t) v) ≡ change (locks_of n slots))
    → s ≤ h.stations → index ≡ slot_index_of h.stations s t → index < h.tables * h.stations
    → held n tables (locks_of n (slice_set slots index v)) ≡ held h.stations h.tables (change h.locks)
written n tables s t index slots v change h e whole changes =
    let P : HeldLocks → Type 0 = λ h. s ≤ h.stations → index ≡ slot_index_of h.stations s t → index < h.tables * h.stations
    → held n tables (locks_of n (slice_set slots index v)) ≡ held h.stations h.tables (change h.locks) in
    let here : P (held n tables (locks_of n slots)) = λ k at inside.
    ap (held n tables) (ap (λ (p : ℕ). locks_of n (slice_set slots p v)) at ∙ changes k (omega arith)) in
    subst P e here

-- and keeps stations apart
slots_written : (n tables index : ℕ) (slots : List (List ℕ)) (v : List ℕ) (h : HeldLocks) (locks : List Lock) → held n tables (locks_of n slots) ≡ h → AreSlots n tables slots
    → IsSlot v → held n tables (locks_of n (slice_set slots index v)) ≡ held h.stations h.tables locks → (AreApart h.locks → AreApart locks) → AreSlots n tables (slice_set slots index v)
slots_written n tables index slots v h locks e ok slot is keeps =
    let P : List Lock → Type 0 = AreApart in
    let apart : AreApart h.locks = subst P (ap (λ (g : HeldLocks). g.locks) e) ok.apart in
    record {
      whole = length-set slots index v ∙ ok.whole;
      apart = subst P (sym (ap (λ (g : HeldLocks). g.locks) is)) (keeps apart);
      each = each_set slots index v ok.each slot;
    }

-- a slot is emptied
pub cleared : (n tables s t index : ℕ) (slots : List (List ℕ)) (v : List ℕ) (h : HeldLocks) → held n tables (locks_of n slots) ≡ h → length slots ≡ tables * n → v ≡ []
    → 1 ≤ t → 1 ≤ s → s ≤ h.stations → index ≡ slot_index_of h.stations s t → index < h.tables * h.stations
    → held n tables (locks_of n (slice_set slots index v)) ≡ held h.stations h.tables (without h.locks s t)
cleared n tables s t index slots v h e whole empty i j =
    let P : List ℕ → Type 0 = λ v. s ≤ h.stations → index ≡ slot_index_of h.stations s t → index < h.tables * h.stations
    → held n tables (locks_of n (slice_set slots index v)) ≡ held h.stations h.tables (without h.locks s t) in
    subst P (sym empty) (written n tables s t index slots [] (λ ls. without ls s t) h e whole (clear_slot n s t slots i j))

pub slots_cleared : (n tables s t index : ℕ) (slots : List (List ℕ)) (v : List ℕ) (h : HeldLocks) → held n tables (locks_of n slots) ≡ h → AreSlots n tables slots → v ≡ []
    → held n tables (locks_of n (slice_set slots index v)) ≡ held h.stations h.tables (without h.locks s t) → AreSlots n tables (slice_set slots index v)
slots_cleared n tables s t index slots v h e ok empty is =
    let P : List ℕ → Type 0 = IsSlot in
    slots_written n tables index slots v h (without h.locks s t) e ok (subst P (sym empty) slot_empty) is (apart_without h.locks s t)

-- a slot is taken
pub taken : (n tables s t index : ℕ) (slots : List (List ℕ)) (v w : List ℕ) (h : HeldLocks) → held n tables (locks_of n slots) ≡ h → length slots ≡ tables * n → v ≡ w
    → 1 ≤ t → 1 ≤ s → s ≤ h.stations → index ≡ slot_index_of h.stations s t → index < h.tables * h.stations
    → held n tables (locks_of n (slice_set slots index v)) ≡ held h.stations h.tables (with_locks h.locks s t w)
taken n tables s t index slots v w h e whole is i j =
    let P : List ℕ → Type 0 = λ w. s ≤ h.stations → index ≡ slot_index_of h.stations s t → index < h.tables * h.stations
    → held n tables (locks_of n (slice_set slots index v)) ≡ held h.stations h.tables (with_locks h.locks s t w) in
    subst P is (written n tables s t index slots v (λ ls. with_locks ls s t v) h e whole (set_slot n s t slots v i j))

pub slots_taken : (n tables s t index : ℕ) (slots : List (List ℕ)) (v w : List ℕ) (h : HeldLocks) → held n tables (locks_of n slots) ≡ h → AreSlots n tables slots → v ≡ w → IsSlot w
    → held n tables (locks_of n (slice_set slots index v)) ≡ held h.stations h.tables (with_locks h.locks s t w)
    → (AreApart h.locks → AreApart (with_locks h.locks s t w)) → AreSlots n tables (slice_set slots index v)
slots_taken n tables s t index slots v w h e ok same slot is =
    let P : List ℕ → Type 0 = IsSlot in
    slots_written n tables index slots v h (with_locks h.locks s t w) e ok (subst P (sym same) slot) is
