-- The locks of slots that stand one after the other.
use Rattle.std.proofs.Common.{◌≡◌, ℕ, ◌+◌, List, [], ◌∷◌, ◌++◌, length, map, sym, ap, ◌∙◌, arith, append_assoc}
use Rattle.lock_table.specs.Locks.{Lock}
use Rattle.lock_table.specs.Slots.{slot_locks}

pub slot_locks-append : (lock : ℕ → ℕ → Lock) (first : ℕ) (xs ys : List (List ℕ)) → slot_locks lock first (xs ++ ys) ≡ slot_locks lock first xs ++ slot_locks lock (first + length xs) ys
slot_locks-append lock first [] ys = let e : first + 0 ≡ first = omega arith in ap (λ (k : ℕ). slot_locks lock k ys) (sym e)
slot_locks-append lock first (x ∷ xs) ys =
    let e : first + 1 + length xs ≡ first + length (x ∷ xs) = omega arith in
    ap (λ (z : List Lock). map (lock first) x ++ z) (slot_locks-append lock (first + 1) xs ys)
    ∙ sym (append_assoc (map (lock first) x) (slot_locks lock (first + 1) xs) (slot_locks lock (first + 1 + length xs) ys))
    ∙ ap (λ (k : ℕ). (map (lock first) x ++ slot_locks lock (first + 1) xs) ++ slot_locks lock k ys) e
