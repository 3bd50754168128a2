-- What holds of each slot.
use Rattle.std.proofs.Common.{ℕ, zero, suc, inl, inr, ◌-◌, ◌<◌, ◌≤◌, List, [], ◌∷◌, length, take, drop, replicate, get_or, set, slice_range, refl, arith}
use Rattle.lock_table.specs.declared.TheConstants.{MAX_RECORD_LOCKS}
use Rattle.lock_table.specs.Numbers.{AreRecordNumbers, different}
use Rattle.lock_table.specs.NumberLaws.{ascending_different, records_different, length_different}
use Rattle.lock_table.specs.Slots.{IsSlot, EachSlot}

pub each_at : (slots : List (List ℕ)) (p : ℕ) → EachSlot slots → p < length slots → IsSlot (get_or slots p [])
each_at [] p each h = absurd (omega arith)
each_at (x ∷ xs) zero each h = each.0
each_at (x ∷ xs) (suc p) each h = each_at xs p each.1 (omega arith)

pub each_set : (slots : List (List ℕ)) (p : ℕ) (v : List ℕ) → EachSlot slots → IsSlot v → EachSlot (set slots p v)
each_set [] p v each ok = tt
each_set (x ∷ xs) zero v each ok = (ok, each.1)
each_set (x ∷ xs) (suc p) v each ok = (each.0, each_set xs p v each.1 ok)

each_take : (n : ℕ) (slots : List (List ℕ)) → EachSlot slots → EachSlot (take n slots)
each_take zero slots each = tt
each_take (suc n) [] each = tt
each_take (suc n) (x ∷ xs) each = (each.0, each_take n xs each.1)

each_drop : (n : ℕ) (slots : List (List ℕ)) → EachSlot slots → EachSlot (drop n slots)
each_drop zero slots each = each
each_drop (suc n) [] each = tt
each_drop (suc n) (x ∷ xs) each = each_drop n xs each.1

pub each_range : (slots : List (List ℕ)) (i j : ℕ) → EachSlot slots → EachSlot (slice_range slots i j)
each_range slots i j each = each_take (j - i) (drop i slots) (each_drop i slots each)

-- a slot without locks
pub slot_empty : IsSlot []
slot_empty = record { ascending = tt; allowed = inr (tt, omega arith) }

-- a slot with a lock on the whole table
pub slot_table : IsSlot (0 ∷ [])
slot_table = record { ascending = (tt, tt); allowed = inl refl }

-- a slot with locks on the different records of a list
pub slot_records : (ns : List ℕ) → AreRecordNumbers ns → length ns ≤ MAX_RECORD_LOCKS → IsSlot (different ns)
slot_records ns are few = record { ascending = ascending_different ns; allowed = inr (records_different ns are, omega (arith, length_different ns)) }

pub each_empty : (k : ℕ) → EachSlot (replicate k [])
each_empty zero = tt
each_empty (suc k) = (slot_empty, each_empty k)
