-- What the different numbers of a list are: each of them once, ascending, and no others.
use Rattle.std.proofs.Common.{◌≡◌, ◌⊎◌, inl, inr, ℕ, ◌+◌, ◌<◌, ◌≤◌, Bool, true, false, cond, ◌==◌, nat_lt, List, [], ◌∷◌, ◌++◌, length, refl, sym, ap, subst, ◌∙◌, arith}
use Rattle.std.proofs.lemmas.Bool.Decides.{nat_tests}
use Rattle.lock_table.specs.Numbers.{AreRecordNumbers, IsListed, IsBelowAll, AreAscending, HasAll, with_number, different}

-- a number below all of a list is below each that is listed
pub below_listed : (n : ℕ) (ns : List ℕ) (m : ℕ) → IsBelowAll n ns → IsListed ns m → n < m
below_listed n [] m below h = absurd h
below_listed n (k ∷ ks) m below (inl e) = omega arith
below_listed n (k ∷ ks) m below (inr h) = below_listed n ks m below.1 h

below_less : (n m : ℕ) (ns : List ℕ) → n < m → IsBelowAll m ns → IsBelowAll n ns
below_less n m [] h below = tt
below_less n m (k ∷ ks) h below = (omega (arith, below.0), below_less n m ks h below.1)

below_put : (k n m : ℕ) (ms rest : List ℕ) (b c : Bool) → k < n → IsBelowAll k (m ∷ ms) → IsBelowAll k rest → IsBelowAll k (cond b (m ∷ ms) (cond c (n ∷ m ∷ ms) (m ∷ rest)))
below_put k n m ms rest true c h below next = below
below_put k n m ms rest false true h below next = (h, below)
below_put k n m ms rest false false h below next = (below.0, next)

below_with : (k n : ℕ) (ns : List ℕ) → k < n → IsBelowAll k ns → IsBelowAll k (with_number n ns)
below_with k n [] h below = (h, tt)
below_with k n (m ∷ ms) h below = below_put k n m ms (with_number n ms) (n == m) (nat_lt n m) h below (below_with k n ms h below.1)

ascending_put : (n m : ℕ) (ms rest : List ℕ) (b c : Bool) → (n == m) ≡ b → nat_lt n m ≡ c → AreAscending (m ∷ ms) → (m < n → IsBelowAll m rest) → AreAscending rest → AreAscending (cond b (m ∷ ms) (cond c (n ∷ m ∷ ms) (m ∷ rest)))
ascending_put n m ms rest true c e f up below next = up
ascending_put n m ms rest false true e f up below next = let less : n < m = grind (arith, nat_tests) in ((less, below_less n m ms less up.0), up)
ascending_put n m ms rest false false e f up below next = (below (grind (arith, nat_tests)), next)

ascending_with : (n : ℕ) (ns : List ℕ) → AreAscending ns → AreAscending (with_number n ns)
ascending_with n [] up = (tt, tt)
ascending_with n (m ∷ ms) up = ascending_put n m ms (with_number n ms) (n == m) (nat_lt n m) refl refl up (λ h. below_with m n ms h up.0) (ascending_with n ms up.1)

-- the different numbers of a list are ascending
pub ascending_different : (ns : List ℕ) → AreAscending (different ns)
ascending_different [] = tt
ascending_different (n ∷ ns) = ascending_with n (different ns) (ascending_different ns)

new_put : (n m : ℕ) (ms rest : List ℕ) (b c : Bool) → (n == m) ≡ b → IsListed rest n → IsListed (cond b (m ∷ ms) (cond c (n ∷ m ∷ ms) (m ∷ rest))) n
new_put n m ms rest true c e next = inl (grind (arith, nat_tests))
new_put n m ms rest false true e next = inl refl
new_put n m ms rest false false e next = inr next

new_with : (n : ℕ) (ns : List ℕ) → IsListed (with_number n ns) n
new_with n [] = inl refl
new_with n (m ∷ ms) = new_put n m ms (with_number n ms) (n == m) (nat_lt n m) refl (new_with n ms)

old_put : (n m k : ℕ) (ms rest : List ℕ) (b c : Bool) → IsListed (m ∷ ms) k → (IsListed ms k → IsListed rest k) → IsListed (cond b (m ∷ ms) (cond c (n ∷ m ∷ ms) (m ∷ rest))) k
old_put n m k ms rest true c h next = h
old_put n m k ms rest false true h next = inr h
old_put n m k ms rest false false (inl e) next = inl e
old_put n m k ms rest false false (inr h) next = inr (next h)

old_with : (n k : ℕ) (ns : List ℕ) → IsListed ns k → IsListed (with_number n ns) k
old_with n k [] h = absurd h
old_with n k (m ∷ ms) h = old_put n m k ms (with_number n ms) (n == m) (nat_lt n m) h (old_with n k ms)

from_put : (n m k : ℕ) (ms rest : List ℕ) (b c : Bool) → IsListed (cond b (m ∷ ms) (cond c (n ∷ m ∷ ms) (m ∷ rest))) k → (IsListed rest k → (k ≡ n) ⊎ IsListed ms k) → (k ≡ n) ⊎ IsListed (m ∷ ms) k
from_put n m k ms rest true c h next = inr h
from_put n m k ms rest false true h next = h
from_put n m k ms rest false false (inl e) next = inr (inl e)
from_put n m k ms rest false false (inr h) next = elim (next h) [ inl e ↦ inl e | inr i ↦ inr (inr i) ]

from_with : (n k : ℕ) (ns : List ℕ) → IsListed (with_number n ns) k → (k ≡ n) ⊎ IsListed ns k
from_with n k [] h = h
from_with n k (m ∷ ms) h = from_put n m k ms (with_number n ms) (n == m) (nat_lt n m) h (from_with n k ms)

-- each number of a list is one of the different ones
pub all_different : (ns : List ℕ) → HasAll ns (different ns)
all_different [] k h = h
all_different (n ∷ ns) k (inl e) = let P : ℕ → Type 0 = λ m. IsListed (with_number n (different ns)) m in subst P (sym e) (new_with n (different ns))
all_different (n ∷ ns) k (inr h) = old_with n k (different ns) (all_different ns k h)

-- and they are no others
pub only_different : (ns : List ℕ) → HasAll (different ns) ns
only_different [] k h = h
only_different (n ∷ ns) k h = elim (from_with n k (different ns) h) [ inl e ↦ inl e | inr i ↦ inr (only_different ns k i) ]

-- two ascending lists of the same numbers begin alike
same_first : (x y : ℕ) (xs ys : List ℕ) → AreAscending (x ∷ xs) → AreAscending (y ∷ ys) → HasAll (x ∷ xs) (y ∷ ys) → HasAll (y ∷ ys) (x ∷ xs) → x ≡ y
same_first x y xs ys up rise there back =
    elim (there x (inl refl)) [
      | inl e ↦ e
      | inr i ↦ elim (back y (inl refl)) [ inl f ↦ sym f | inr j ↦ let a : y < x = below_listed y ys x rise.0 i in let b : x < y = below_listed x xs y up.0 j in absurd (omega arith) ]
    ]

-- and go on alike
same_rest : (x y : ℕ) (xs ys : List ℕ) → x ≡ y → AreAscending (x ∷ xs) → HasAll (x ∷ xs) (y ∷ ys) → HasAll xs ys
same_rest x y xs ys e up there k h =
    elim (there k (inr h)) [ inl f ↦ let a : x < k = below_listed x xs k up.0 h in absurd (omega arith) | inr i ↦ i ]

-- only one ascending list has these numbers
pub one_ascending : (xs ys : List ℕ) → AreAscending xs → AreAscending ys → HasAll xs ys → HasAll ys xs → xs ≡ ys
one_ascending [] [] up rise there back = refl
one_ascending [] (y ∷ ys) up rise there back = absurd (back y (inl refl))
one_ascending (x ∷ xs) [] up rise there back = absurd (there x (inl refl))
one_ascending (x ∷ xs) (y ∷ ys) up rise there back =
    let e = same_first x y xs ys up rise there back in
    ap (λ (n : ℕ). n ∷ xs) e ∙ ap (λ (ns : List ℕ). y ∷ ns) (one_ascending xs ys up.1 rise.1 (same_rest x y xs ys e up there) (same_rest y x ys xs (sym e) rise back))

records_put : (n m : ℕ) (ms rest : List ℕ) (b c : Bool) → 1 ≤ n → AreRecordNumbers (m ∷ ms) → AreRecordNumbers rest → AreRecordNumbers (cond b (m ∷ ms) (cond c (n ∷ m ∷ ms) (m ∷ rest)))
records_put n m ms rest true c h are next = are
records_put n m ms rest false true h are next = (h, are)
records_put n m ms rest false false h are next = (are.0, next)

records_with : (n : ℕ) (ns : List ℕ) → 1 ≤ n → AreRecordNumbers ns → AreRecordNumbers (with_number n ns)
records_with n [] h are = (h, tt)
records_with n (m ∷ ms) h are = records_put n m ms (with_number n ms) (n == m) (nat_lt n m) h are (records_with n ms h are.1)

-- the different ones of record numbers are record numbers
pub records_different : (ns : List ℕ) → AreRecordNumbers ns → AreRecordNumbers (different ns)
records_different [] are = tt
records_different (n ∷ ns) are = records_with n (different ns) are.0 (records_different ns are.1)

length_put : (n m : ℕ) (ms rest : List ℕ) (b c : Bool) → length rest ≤ length ms + 1 → length (cond b (m ∷ ms) (cond c (n ∷ m ∷ ms) (m ∷ rest))) ≤ length (m ∷ ms) + 1
length_put n m ms rest true c h = omega arith
length_put n m ms rest false true h = omega arith
length_put n m ms rest false false h = omega arith

length_with : (n : ℕ) (ns : List ℕ) → length (with_number n ns) ≤ length ns + 1
length_with n [] = omega arith
length_with n (m ∷ ms) = length_put n m ms (with_number n ms) (n == m) (nat_lt n m) (length_with n ms)

-- the different numbers are no more than are listed
pub length_different : (ns : List ℕ) → length (different ns) ≤ length ns
length_different [] = omega arith
length_different (n ∷ ns) = omega (arith, length_with n (different ns), length_different ns)

-- record numbers and one more at the end
pub records_push : (ns : List ℕ) (n : ℕ) → AreRecordNumbers ns → 1 ≤ n → AreRecordNumbers (ns ++ n ∷ [])
records_push [] n are h = (h, tt)
records_push (m ∷ ms) n are h = (are.0, records_push ms n are.1 h)
