-- Lists of record numbers.
use Rattle.std.specs.Prelude.{◌≡◌, ◌⊎◌, ℕ, ◌<◌, ◌≤◌, if◌then◌else◌, ◌==◌, nat_lt, List, [], ◌∷◌, length}

-- numbers of records: none is 0
abbrev pub AreRecordNumbers : List ℕ → Type 0
AreRecordNumbers [] = Unit {0}
AreRecordNumbers (n ∷ ns) = (1 ≤ n) × AreRecordNumbers ns

-- the number is one of the list
abbrev pub IsListed : List ℕ → ℕ → Type 0
IsListed [] number = ⊥
IsListed (n ∷ ns) number = (number ≡ n) ⊎ IsListed ns number

-- no number of the list is above the greatest
abbrev pub AreAtMost : ℕ → List ℕ → Type 0
AreAtMost greatest numbers = (n : ℕ) → IsListed numbers n → n ≤ greatest

-- the number is below each of the list
abbrev pub IsBelowAll : ℕ → List ℕ → Type 0
IsBelowAll number [] = Unit {0}
IsBelowAll number (n ∷ ns) = (number < n) × IsBelowAll number ns

-- each number is below all that come after it
abbrev pub AreAscending : List ℕ → Type 0
AreAscending [] = Unit {0}
AreAscending (n ∷ ns) = IsBelowAll n ns × AreAscending ns

-- each number of the first list is in the second
abbrev pub HasAll : List ℕ → List ℕ → Type 0
HasAll numbers others = (n : ℕ) → IsListed numbers n → IsListed others n

-- ascending numbers and one more, unless it is one of them
abbrev pub with_number : ℕ → List ℕ → List ℕ
with_number number [] = number ∷ []
with_number number (n ∷ ns) = if number == n then n ∷ ns else (if nat_lt number n then number ∷ n ∷ ns else n ∷ with_number number ns)

-- the different numbers of a list, ascending
abbrev pub different : List ℕ → List ℕ
different [] = []
different (n ∷ ns) = with_number n (different ns)

-- what a station may have locked in a table: by 0 the whole table alone, or at most the given number of records
abbrev pub IsTableOrRecords : ℕ → List ℕ → Type 0
IsTableOrRecords most numbers = (numbers ≡ 0 ∷ []) ⊎ (AreRecordNumbers numbers × (length numbers ≤ most))
