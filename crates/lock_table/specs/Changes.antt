-- What stays and what changes from one list of locks to another.
use Rattle.std.specs.Prelude.{◌≡◌, ◌⊎◌, ℕ, ◌≤◌, true, false, List}
use Rattle.lock_table.specs.Numbers.{AreRecordNumbers, IsListed}
use Rattle.lock_table.specs.Locks.{Lock, lock_of, free_record, free_records, free_whole, is_own, with_records, IsHeld, AreApart}

-- where stations are apart in the first list, they are in the second
abbrev pub StayApart : List Lock → List Lock → Type 0
StayApart before after = AreApart before → AreApart after

-- where the record is free for the station in the first list, stations stay apart
abbrev pub StayApartAtRecord : List Lock → List Lock → ℕ → ℕ → ℕ → Type 0
StayApartAtRecord before after station table number = 1 ≤ number → free_record before station table number ≡ true → StayApart before after

-- where the whole table is free for the station in the first list, stations stay apart
abbrev pub StayApartAtTable : List Lock → List Lock → ℕ → ℕ → Type 0
StayApartAtTable before after station table = free_whole before station table ≡ true → StayApart before after

-- each lock that the station has in the table is the one of that number
abbrev pub HasOnly : List Lock → ℕ → ℕ → ℕ → Type 0
HasOnly locks station table number = (l : Lock) → IsHeld locks l → is_own station table l ≡ true → l ≡ lock_of table station number

-- each lock of the first list that isn't the station's in the table is in the second
abbrev pub KeepsOthers : List Lock → List Lock → ℕ → ℕ → Type 0
KeepsOthers before after station table = (l : Lock) → IsHeld before l → is_own station table l ≡ false → IsHeld after l

-- each lock of the second list is the new one, or is in the first
abbrev pub AddsOnly : List Lock → List Lock → Lock → Type 0
AddsOnly before after new_lock = (l : Lock) → IsHeld after l → (l ≡ new_lock) ⊎ IsHeld before l

-- each lock of the second list is in the first, and isn't the station's in the table
abbrev pub LeavesOutOwn : List Lock → List Lock → ℕ → ℕ → Type 0
LeavesOutOwn before after station table = (l : Lock) → IsHeld after l → IsHeld before l × (is_own station table l ≡ false)

-- the lock is the station's on a record of the list
abbrev pub IsOnListed : ℕ → ℕ → List ℕ → Lock → Type 0
IsOnListed station table numbers l = (n : ℕ) × IsListed numbers n × (l ≡ lock_of table station n)

-- when the station takes the records of a list, each of which is free for it, stations stay apart
abbrev pub TakingKeepsApart : List Lock → ℕ → ℕ → List ℕ → Type 0
TakingKeepsApart locks station table numbers =
    AreRecordNumbers numbers → free_records locks station table numbers ≡ true → StayApart locks (with_records locks station table numbers)

-- when the station has taken the records of a list, its lock on each of them is held
abbrev pub TakingHoldsEach : List Lock → ℕ → ℕ → List ℕ → Type 0
TakingHoldsEach locks station table numbers = (n : ℕ) → IsListed numbers n → IsHeld (with_records locks station table numbers) (lock_of table station n)

-- when the station has taken the records of a list, each of its locks in the table is on one of them
abbrev pub TakingHoldsOnly : List Lock → ℕ → ℕ → List ℕ → Type 0
TakingHoldsOnly locks station table numbers =
    (l : Lock) → IsHeld (with_records locks station table numbers) l → is_own station table l ≡ true → IsOnListed station table numbers l

-- when the station takes the records of a list, each lock that isn't its own in the table stays
abbrev pub TakingKeepsOthers : List Lock → ℕ → ℕ → List ℕ → Type 0
TakingKeepsOthers locks station table numbers = KeepsOthers locks (with_records locks station table numbers) station table

-- when the station has taken the records of a list, each lock is its own on one of them, or was held before
abbrev pub TakingAddsOnly : List Lock → ℕ → ℕ → List ℕ → Type 0
TakingAddsOnly locks station table numbers =
    (l : Lock) → IsHeld (with_records locks station table numbers) l → IsOnListed station table numbers l ⊎ IsHeld locks l
