-- The locks that are held, as a list, and which further ones a station may get. Tables, stations and
-- records count from 1.
use Rattle.std.specs.Prelude.{◌≡◌, ◌≢◌, ◌⊎◌, ℕ, ◌<◌, Bool, true, not, ◌&&◌, ◌||◌, ◌==◌, nat_lt, List, [], ◌∷◌, ◌++◌, length, map, Option, Some, None}
use Rattle.std.specs.List.{list_any, filter, find}
use Rattle.lock_table.specs.Numbers.{different}

-- a station's lock in a table: on the record of a number, or by the number 0 on the whole table
pub record Lock : Type 0 where
  pub table : ℕ
  pub station : ℕ
  pub number : ℕ

-- how many stations and tables there are, and the locks that are held, in order of table, station and
-- record number
pub record HeldLocks : Type 0 where
  pub stations : ℕ
  pub tables : ℕ
  pub locks : List Lock

abbrev pub lock_of : ℕ → ℕ → ℕ → Lock
lock_of table station number = record { table = table; station = station; number = number }

abbrev pub held : ℕ → ℕ → List Lock → HeldLocks
held stations tables locks = record { stations = stations; tables = tables; locks = locks }

-- the locks in a table
abbrev pub in_table : List Lock → ℕ → List Lock
in_table locks table = filter (λ l. l.table == table) locks

-- the lock is on the record or on the whole table
abbrev pub covers : ℕ → Lock → Bool
covers number l = l.number == number || l.number == 0

-- the lock is another station's
abbrev pub is_others : ℕ → Lock → Bool
is_others station l = not (l.station == station)

-- another station's lock is on the record or on the whole table
abbrev pub bars : ℕ → ℕ → Lock → Bool
bars station number l = is_others station l && covers number l

-- the station's own lock is on the record or on the whole table
abbrev pub lets_write : ℕ → ℕ → Lock → Bool
lets_write station number l = l.station == station && covers number l

-- no other station's lock in the table is on the record or on the whole table
abbrev pub free_record : List Lock → ℕ → ℕ → ℕ → Bool
free_record locks station table number = not (list_any (bars station number) (in_table locks table))

-- each of the records is free
abbrev pub free_records : List Lock → ℕ → ℕ → List ℕ → Bool
free_records locks station table [] = true
free_records locks station table (n ∷ ns) = free_record locks station table n && free_records locks station table ns

-- no other station has a lock in the table
abbrev pub free_whole : List Lock → ℕ → ℕ → Bool
free_whole locks station table = not (list_any (is_others station) (in_table locks table))

-- the station has a lock in the table that is on the record or on the whole table
abbrev pub may_write : List Lock → ℕ → ℕ → ℕ → Bool
may_write locks station table number = list_any (lets_write station number) (in_table locks table)

abbrev pub station_of : Option Lock → ℕ
station_of None = 0
station_of (Some l) = l.station

-- the station whose lock is on just that record of the table, or on the whole table where the number is
-- 0; and 0 where there is none
abbrev pub holder : List Lock → ℕ → ℕ → ℕ
holder locks table number = station_of (find (λ l. l.number == number) (in_table locks table))

-- how many records of the table are locked
abbrev pub record_locks : List Lock → ℕ → ℕ
record_locks locks table = length (filter (λ l. nat_lt 0 l.number) (in_table locks table))

-- the lock stands in the list before those that the station has in the table
abbrev pub is_before : ℕ → ℕ → Lock → Bool
is_before station table l = nat_lt l.table table || (l.table == table && nat_lt l.station station)

-- the lock stands in the list after those that the station has in the table
abbrev pub is_after : ℕ → ℕ → Lock → Bool
is_after station table l = nat_lt table l.table || (l.table == table && nat_lt station l.station)

-- the lock is one of those that the station has in the table
abbrev pub is_own : ℕ → ℕ → Lock → Bool
is_own station table l = l.table == table && l.station == station

-- the numbers that the station has locked in the table
abbrev pub own_numbers : List Lock → ℕ → ℕ → List ℕ
own_numbers locks station table = map (λ (l : Lock). l.number) (filter (is_own station table) locks)

-- the station's locks in the table are on these records instead, and all others as they were
abbrev pub with_locks : List Lock → ℕ → ℕ → List ℕ → List Lock
with_locks locks station table numbers =
    filter (is_before station table) locks ++ (map (lock_of table station) numbers ++ filter (is_after station table) locks)

-- the station's lock in the table is on this record, or by 0 on the whole table
abbrev pub with_lock : List Lock → ℕ → ℕ → ℕ → List Lock
with_lock locks station table number = with_locks locks station table (number ∷ [])

-- the station's locks in the table are on the different records of a list
abbrev pub with_records : List Lock → ℕ → ℕ → List ℕ → List Lock
with_records locks station table numbers = with_locks locks station table (different numbers)

-- the station has no lock in the table
abbrev pub without : List Lock → ℕ → ℕ → List Lock
without locks station table = filter (λ l. not (is_own station table l)) locks

-- the station has no lock at all
abbrev pub without_all : List Lock → ℕ → List Lock
without_all locks station = filter (is_others station) locks

-- the lock is one of the list
abbrev pub IsHeld : List Lock → Lock → Type 0
IsHeld [] lock = ⊥
IsHeld (l ∷ ls) lock = (lock ≡ l) ⊎ IsHeld ls lock

-- locks of two stations in one table are on records, and on different ones
abbrev pub IsApart : Lock → Lock → Type 0
IsApart a b = a.table ≡ b.table → a.station ≢ b.station → (0 < a.number) × (0 < b.number) × (a.number ≢ b.number)

-- no record is locked by two stations, and no table in which another station has a lock
abbrev pub AreApart : List Lock → Type 0
AreApart locks = (a b : Lock) → IsHeld locks a → IsHeld locks b → IsApart a b

-- one lock stands before another: by its table, then by its station, then by its record number
abbrev pub is_earlier : Lock → Lock → Bool
is_earlier l m = is_before m.station m.table l || (is_own m.station m.table l && nat_lt l.number m.number)

-- the locks are in order of table, station and record number, and no two are the same
abbrev pub AreLocksInOrder : List Lock → Type 0
AreLocksInOrder [] = Unit {0}
AreLocksInOrder (l ∷ ls) = ((m : Lock) → IsHeld ls m → is_earlier l m ≡ true) × AreLocksInOrder ls
