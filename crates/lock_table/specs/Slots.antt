-- How the locks are kept: a slot for each table and station, table by table. A slot is seen as the list of
-- the numbers that the station has locked in the table.
use Rattle.std.specs.Prelude.{◌≡◌, ℕ, ◌≤◌, ◌+◌, ◌-◌, ◌*◌, ◌/◌, ◌%◌, List, [], ◌∷◌, ◌++◌, length, map, slice_index_or}
use Rattle.lock_table.specs.declared.TheConstants.{MAX_RECORD_LOCKS}
use Rattle.lock_table.specs.Numbers.{AreAscending, IsTableOrRecords}
use Rattle.lock_table.specs.Locks.{Lock, lock_of, own_numbers, AreApart}

-- the index of the slot of a station and a table, for a number of stations
abbrev pub slot_index_of : ℕ → ℕ → ℕ → ℕ
slot_index_of stations station table = (table - 1) * stations + (station - 1)

-- a lock of the slot of an index
abbrev pub lock_at : ℕ → ℕ → ℕ → Lock
lock_at stations index number = lock_of (index / stations + 1) (index % stations + 1) number

-- the locks on the records of slots that are numbered from one on, by a slot's number and a record
abbrev pub slot_locks : (ℕ → ℕ → Lock) → ℕ → List (List ℕ) → List Lock
slot_locks lock first [] = []
slot_locks lock first (records ∷ rest) = map (lock first) records ++ slot_locks lock (first + 1) rest

-- the locks of the slots from an index on
abbrev pub locks_from : ℕ → ℕ → List (List ℕ) → List Lock
locks_from stations index slots = slot_locks (lock_at stations) index slots

-- the locks of a table's slots from a station on
abbrev pub row_from : ℕ → ℕ → List (List ℕ) → List Lock
row_from table station slots = slot_locks (lock_of table) station slots

-- the locks of all slots
abbrev pub locks_of : ℕ → List (List ℕ) → List Lock
locks_of stations slots = locks_from stations 0 slots

-- what a slot may be: the whole table alone or records, few enough and ascending
pub record IsSlot (numbers : List ℕ) : Type 0 where
  pub ascending : AreAscending numbers
  pub allowed : IsTableOrRecords MAX_RECORD_LOCKS numbers

-- each slot is one
abbrev pub EachSlot : List (List ℕ) → Type 0
EachSlot [] = Unit {0}
EachSlot (numbers ∷ slots) = IsSlot numbers × EachSlot slots

-- a table's row of slots tells what each of a number of stations has locked there
abbrev pub IsSlotRow : List Lock → ℕ → ℕ → List (List ℕ) → Type 0
IsSlotRow locks stations table row = (station : ℕ) → 1 ≤ station → station ≤ stations → own_numbers locks station table ≡ slice_index_or row (station - 1) []

-- there is a slot for each table and station, and no two stations are in each other's way
pub record AreSlots (stations tables : ℕ) (slots : List (List ℕ)) : Type 0 where
  pub whole : length slots ≡ tables * stations
  pub apart : AreApart (locks_of stations slots)
  pub each : EachSlot slots
