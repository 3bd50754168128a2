-- Where the lock of a slot stands, by the slot's index: before those of a station in a table, after
-- them, or among them.
use Rattle.std.proofs.Common.{◌≡◌, ℕ, ◌+◌, ◌-◌, ◌*◌, ◌/◌, ◌%◌, ◌<◌, ◌≤◌, ◌&&◌, ◌||◌, ◌==◌, nat_lt, nat_le, ap, ◌∙◌, arith}
use Rattle.std.proofs.Math.Nat.{mul-le-mul_right, mod-lt, div-add-mod'}
use Rattle.std.proofs.lemmas.Nat.{div-mul-add, mod-mul-add}
use Rattle.std.proofs.lemmas.Bool.Decides.{nat_tests}
use Rattle.lock_table.specs.Locks.{lock_of, is_before, is_after, is_own}
use Rattle.lock_table.specs.Slots.{slot_index_of, lock_at}

-- a row before another one ends before it begins
pub rows_rise : (q t n : ℕ) → q < t → q * n + n ≤ t * n
rows_rise q t n h = omega (arith, mul-le-mul_right {m = q + 1} {n = t} n (omega arith))

-- rows of a number of columns, one after the other, that count from 1
before_pair : (q r t s n : ℕ) → r < n → 1 ≤ t → 1 ≤ s → s ≤ n → (nat_lt (q + 1) t || (q + 1 == t && nat_lt (r + 1) s)) ≡ nat_lt (q * n + r) ((t - 1) * n + (s - 1))
before_pair q r t s n a b c d = grind (arith, nat_tests, rows_rise q (t - 1) n, rows_rise (t - 1) q n)

after_pair : (q r t s n : ℕ) → r < n → 1 ≤ t → 1 ≤ s → s ≤ n → (nat_lt t (q + 1) || (q + 1 == t && nat_lt s (r + 1))) ≡ nat_lt ((t - 1) * n + (s - 1)) (q * n + r)
after_pair q r t s n a b c d = grind (arith, nat_tests, rows_rise q (t - 1) n, rows_rise (t - 1) q n)

own_pair : (q r t s n : ℕ) → r < n → 1 ≤ t → 1 ≤ s → s ≤ n → (q + 1 == t && r + 1 == s) ≡ (q * n + r == (t - 1) * n + (s - 1))
own_pair q r t s n a b c d = grind (arith, nat_tests, rows_rise q (t - 1) n, rows_rise (t - 1) q n)

row_pair : (q r t n : ℕ) → r < n → 1 ≤ t → (q + 1 == t) ≡ (nat_le ((t - 1) * n) (q * n + r) && nat_lt (q * n + r) ((t - 1) * n + n))
row_pair q r t n a b = grind (arith, nat_tests, rows_rise q (t - 1) n, rows_rise (t - 1) q n)

pub before_index : (n s t q r : ℕ) → 1 ≤ t → 1 ≤ s → s ≤ n → is_before s t (lock_at n q r) ≡ nat_lt q (slot_index_of n s t)
before_index n s t q r b c d =
    before_pair (q / n) (q % n) t s n (mod-lt q (omega arith)) b c d ∙ ap (λ (x : ℕ). nat_lt x (slot_index_of n s t)) (div-add-mod' q n)

pub after_index : (n s t q r : ℕ) → 1 ≤ t → 1 ≤ s → s ≤ n → is_after s t (lock_at n q r) ≡ nat_lt (slot_index_of n s t) q
after_index n s t q r b c d =
    after_pair (q / n) (q % n) t s n (mod-lt q (omega arith)) b c d ∙ ap (λ (x : ℕ). nat_lt (slot_index_of n s t) x) (div-add-mod' q n)

pub own_index : (n s t q r : ℕ) → 1 ≤ t → 1 ≤ s → s ≤ n → is_own s t (lock_at n q r) ≡ (q == slot_index_of n s t)
own_index n s t q r b c d =
    own_pair (q / n) (q % n) t s n (mod-lt q (omega arith)) b c d ∙ ap (λ (x : ℕ). x == slot_index_of n s t) (div-add-mod' q n)

pub table_index : (n t q r : ℕ) → 0 < n → 1 ≤ t → ((lock_at n q r).table == t) ≡ (nat_le ((t - 1) * n) q && nat_lt q ((t - 1) * n + n))
table_index n t q r b c =
    row_pair (q / n) (q % n) t n (mod-lt q b) c ∙ ap (λ (x : ℕ). nat_le ((t - 1) * n) x && nat_lt x ((t - 1) * n + n)) (div-add-mod' q n)

-- the lock of a slot that is a number of stations into a row
pub lock_in_row : (n t i r : ℕ) → 1 ≤ t → i < n → lock_at n ((t - 1) * n + i) r ≡ lock_of t (i + 1) r
lock_in_row n t i r b h =
    let table : ((t - 1) * n + i) / n + 1 ≡ t = omega (arith, div-mul-add (t - 1) n i h) in
    let station : ((t - 1) * n + i) % n + 1 ≡ i + 1 = omega (arith, mod-mul-add (t - 1) n i h) in
    ap (λ (x : ℕ). lock_of x (((t - 1) * n + i) % n + 1) r) table ∙ ap (λ (x : ℕ). lock_of t x r) station

pub lock_at_index : (n s t r : ℕ) → 1 ≤ t → 1 ≤ s → s ≤ n → lock_at n (slot_index_of n s t) r ≡ lock_of t s r
lock_at_index n s t r b c d =
    let station : s - 1 + 1 ≡ s = omega arith in
    lock_in_row n t (s - 1) r b (omega arith) ∙ ap (λ (x : ℕ). lock_of t x r) station
