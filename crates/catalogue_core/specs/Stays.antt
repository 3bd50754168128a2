-- What a lock is for: what a station has locked stays as it is in the steps of all others.
use Rattle.std.specs.Prelude.{◌≡◌, ◌≢◌, ◌⊎◌, ℕ, ◌-◌, ◌≤◌, true, List, ◌++◌, length, slice_get, Option, Some}
use Rattle.std.specs.List.{AllByRecursion}
use Rattle.dbf_image.specs.Table.{Row, Table}
use Rattle.lock_table.specs.Locks.{lock_of, IsHeld}
use Rattle.lock_table.specs.Numbers.{IsListed}
use Rattle.catalogue_core.specs.declared.answer.Answer.TheVariants.{Truth}
use Rattle.catalogue_core.specs.declared.area.Area.{Area}
use Rattle.catalogue_core.specs.declared.command.Command.{Command}
use Rattle.catalogue_core.specs.declared.command.Command.TheVariants.{FileLock, RecordLock, RecordLocks}
use Rattle.catalogue_core.specs.declared.entry.Entry.{Entry}
use Rattle.catalogue_core.specs.declared.opening.TheConstants.{MAX_TABLES}
use Rattle.catalogue_core.specs.Replay.{Opened, replay, AreOfStations, IsLegal}
use Rattle.catalogue_core.specs.State.{State, area_at, area_of, table_at}
use Rattle.catalogue_core.specs.Step.{step}

-- a table of a number: its fields and its records
abbrev pub table_now : State → ℕ → Table
table_now s table = (table_at s.tables table).table

-- a record by its table and its number, where it is there: its mark, its cells, and the texts of its memos
abbrev pub record_at : State → ℕ → ℕ → Option Row
record_at s table number = slice_get (table_now s table).rows (number - 1)

-- the station has locked the whole table
abbrev pub HasTableLocked : State → ℕ → ℕ → Type 0
HasTableLocked s station table = IsHeld s.locks.locks (lock_of table station 0)

-- the station has locked the record, or the whole table
abbrev pub HasRecordLocked : State → ℕ → ℕ → ℕ → Type 0
HasRecordLocked s station table number = IsHeld s.locks.locks (lock_of table station number) ⊎ HasTableLocked s station table

-- the station has the table open exclusively
abbrev pub IsExclusiveAt : State → ℕ → ℕ → Type 0
IsExclusiveAt s station table =
    (1 ≤ station) × (k : ℕ) × (area : Area) × (area_at s (station - 1) k ≡ Some area) × (area.table ≡ table) × (area.exclusive ≡ true)

-- a legal history: of ten tables at most, of its stations, and each answer is the one that its command has at its place
pub record IsLegalHistory (opened : Opened) (journal : List Entry) : Type 0 where
  pub few : length opened.tables ≤ MAX_TABLES
  pub legal : IsLegal opened journal
  pub of_stations : AreOfStations opened journal

-- each entry is another station's
abbrev pub AreOfOthers : ℕ → List Entry → Type 0
AreOfOthers station entries = AllByRecursion (λ e. e.station ≢ station) entries

-- the command asks for a lock on the record: RLOCK() on the one at the cursor, with a list on each of the list, FLOCK() on all
abbrev pub LocksRecord : Option ℕ → Command → ℕ → Type 0
LocksRecord at RecordLock number = at ≡ Some number
LocksRecord at (RecordLocks numbers) number = IsListed numbers number
LocksRecord at FileLock number = Unit {0}
LocksRecord at command number = ⊥

-- What a lock is for. A station that is answered .T. has locked the records that it asked for.
abbrev pub TakesTheLock : State → ℕ → Command → Type 0
TakesTheLock s station command =
    (area : Area) (number : ℕ) → area_of s station ≡ Some area → LocksRecord area.cursor.at command number
    → (step s station command).1 ≡ Truth true → HasRecordLocked (step s station command).0 station area.table number

-- A record that a station has locked stays as it is in a step of another.
abbrev pub LeavesTheRecord : State → ℕ → Command → Type 0
LeavesTheRecord s other command =
    (station table number : ℕ) (row : Row) → other ≢ station → HasRecordLocked s station table number → record_at s table number ≡ Some row
    → record_at (step s other command).0 table number ≡ Some row

-- A lock that a station has on a record stays in a step of another.
abbrev pub LeavesTheLock : State → ℕ → Command → Type 0
LeavesTheLock s other command =
    (station table number : ℕ) → other ≢ station → HasRecordLocked s station table number → HasRecordLocked (step s other command).0 station table number

-- A table that a station has locked, or has open exclusively, stays as it is in a step of another: it gets no record either.
abbrev pub LeavesTheTable : State → ℕ → Command → Type 0
LeavesTheTable s other command =
    (station table : ℕ) → other ≢ station → HasTableLocked s station table ⊎ IsExclusiveAt s station table
    → table_now (step s other command).0 table ≡ table_now s table

-- A station that has a lock in a table does not meet it in exclusive use of another.
abbrev pub MeetsNoExclusiveUse : State → ℕ → Type 0
MeetsNoExclusiveUse s other =
    (station table number : ℕ) → other ≢ station → HasRecordLocked s station table number → IsExclusiveAt s other table → ⊥

-- In a legal history a record that a station has locked at some moment is at a later one as it was, and locked still, where no
-- entry between the two is the station's own.
abbrev pub StaysWhileLocked : Opened → List Entry → List Entry → Type 0
StaysWhileLocked opened before between =
    (station table number : ℕ) (row : Row) → IsLegalHistory opened (before ++ between) → AreOfOthers station between
    → HasRecordLocked (replay opened before) station table number → record_at (replay opened before) table number ≡ Some row
    → (record_at (replay opened (before ++ between)) table number ≡ Some row)
    × HasRecordLocked (replay opened (before ++ between)) station table number
