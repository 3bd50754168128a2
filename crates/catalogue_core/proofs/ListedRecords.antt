-- The numbers of a table's records, as a command lists them.
use Rattle.std.proofs.Common.{◌≡◌, ℕ, ◌<◌, ◌≤◌, ◌^◌, true, not, ◌==◌, nat_lt, List, [], ◌∷◌, length, refl, arith}
use Rattle.std.specs.Int.{is_in_range}
use Rattle.std.specs.List.{list_all}
use Rattle.std.proofs.lemmas.Bool.{and_parts, and_from}
use Rattle.std.proofs.lemmas.Bool.Decides.{nat_tests}
use Rattle.lock_table.specs.Numbers.{AreRecordNumbers}
use Rattle.catalogue_core.specs.Step.{are_records}

pub in_range : (n number : ℕ) → is_in_range 1 n number ≡ true → (1 ≤ number) × (number ≤ n)
in_range n number e = (grind (arith, nat_tests), grind (arith, nat_tests))

counted_in : (count : ℕ) (numbers : List ℕ) → list_all (is_in_range 1 count) numbers ≡ true → AreRecordNumbers numbers
counted_in count [] all = tt
counted_in count (n ∷ ns) all =
    let both = and_parts (is_in_range 1 count n) (list_all (is_in_range 1 count) ns) all in
    ((in_range count n both.0).0, counted_in count ns both.1)

-- they count from 1
pub listed_counted : (count : ℕ) (numbers : List ℕ) → are_records count numbers ≡ true → AreRecordNumbers numbers
listed_counted count numbers there = counted_in count numbers (and_parts (not (length numbers == 0)) (list_all (is_in_range 1 count) numbers) there).1

some_length : (n : ℕ) → not (n == 0) ≡ true → 1 ≤ n
some_length n e = grind (arith, nat_tests)

-- there is one
pub listed_some : (count : ℕ) (numbers : List ℕ) → are_records count numbers ≡ true → 1 ≤ length numbers
listed_some count numbers there = some_length (length numbers) (and_parts (not (length numbers == 0)) (list_all (is_in_range 1 count) numbers) there).0

small : (n : ℕ) → n < 2 ^ 32 → nat_lt n (2 ^ 32) ≡ true
small n h = grind (arith, nat_tests)

fit_in : (count : ℕ) (numbers : List ℕ) → count < 2 ^ 32 → list_all (is_in_range 1 count) numbers ≡ true → list_all (λ n. nat_lt n (2 ^ 32)) numbers ≡ true
fit_in count [] short all = refl
fit_in count (n ∷ ns) short all =
    let both = and_parts (is_in_range 1 count n) (list_all (is_in_range 1 count) ns) all in
    let most = (in_range count n both.0).1 in
    and_from (nat_lt n (2 ^ 32)) (list_all (λ m. nat_lt m (2 ^ 32)) ns) (small n (omega (arith, short, most))) (fit_in count ns short both.1)

-- each has 32 bits, as the number of the table's records has
pub listed_fit : (count : ℕ) (numbers : List ℕ) → count < 2 ^ 32 → are_records count numbers ≡ true → list_all (λ n. nat_lt n (2 ^ 32)) numbers ≡ true
listed_fit count numbers short there = fit_in count numbers short (and_parts (not (length numbers == 0)) (list_all (is_in_range 1 count) numbers) there).1
