-- What one command of a station does: its outcome, which is a state and an answer or the first refusal, and the
-- step, in which a refused command leaves the state as it is.
use Rattle.std.specs.Prelude.{ℕ, ◌+◌, Bool, true, false, not, ◌&&◌, ◌||◌, ◌==◌, nat_le, if◌then◌else◌, List, length, Option, Some, None, Result, Ok, Err, is_none}
use Rattle.std.specs.Int.{is_in_range}
use Rattle.std.specs.List.{list_all}
use Rattle.lock_table.specs.declared.TheConstants.{MAX_RECORD_LOCKS}
use Rattle.lock_table.specs.Locks.{Lock, free_record, free_records, free_whole, may_write, holder, with_lock, with_records, without_all}
use Rattle.key_expr.specs.Expression.{expression_in}
use Rattle.table_core.specs.declared.cursor.Cursor.{Cursor}
use Rattle.table_core.specs.EditValue.{EditValue}
use Rattle.table_core.specs.EditValue as edit_of
use Rattle.table_core.specs.declared.refusal.Refusal.{Refusal}
use Rattle.table_core.specs.declared.refusal.Refusal.TheVariants.{NoTable, NoTableInUse, TableInUse, NeedsExclusive, NotLocked, OutOfRange, EndOfFile, BadArea, AlreadyOpen, BadCommand, TooManyLocks, BadExpression}
use Rattle.table_core.specs.Content.{Content, record_count}
use Rattle.table_core.specs.Edits.{edited, with_made_index}
use Rattle.table_core.specs.Moves.{top, bottom, go, skip, seek, set_order}
use Rattle.table_core.specs.Outcomes.{found, granted, passed}
use Rattle.table_core.specs.Shown.{show as shown, is_deleted}
use Rattle.catalogue_core.specs.declared.answer.Answer.{Answer}
use Rattle.catalogue_core.specs.declared.answer.Answer.TheVariants.{Done, Number, Truth, Text, Refused}
use Rattle.catalogue_core.specs.declared.area.Area.{Area}
use Rattle.catalogue_core.specs.declared.area.TheConstants.{MAX_AREAS}
use Rattle.catalogue_core.specs.declared.command.Command.{Command}
use Rattle.catalogue_core.specs.declared.command.Command.TheVariants.{Select, UseTable, CloseTable, Go, Top, Bottom, Skip, Seek, Order, AppendBlank, Replace, Memo, Delete, Recall, Pack, IndexOn, Unlock, UnlockAll, Show, RecordLock, RecordLocks, FileLock, Ask, Bad}
use Rattle.catalogue_core.specs.declared.command.Question.{Question}
use Rattle.catalogue_core.specs.declared.command.Question.TheVariants.{Eof, Bof, Found, Deleted, Recno, Reccount}
use Rattle.catalogue_core.specs.IndexOn.{index_early, index_target, new_index}
use Rattle.catalogue_core.specs.Names.{index_named}
use Rattle.catalogue_core.specs.State.{State, area_of, table_of, table_at, is_open_beside, is_in_use, with_table_at, with_held, with_area, with_current, with_cursor, without_lock, closed}

-- what a command leads to: a state and an answer, or a refusal
abbrev pub Outcome : Type 0
Outcome = Result (State × Answer) Refusal

-- an index from 0 as a number from 1
abbrev pub numbered : Option ℕ → Option ℕ
numbered None = None
numbered (Some index) = Some (index + 1)

-- the number of the table of a name
abbrev pub table_named : State → List ℕ → Option ℕ
table_named s name = numbered (index_named s.names name)

-- the cursor with which a table is opened: its first index is the order, where it has one
abbrev pub new_cursor : Content → Cursor
new_cursor content = record { at = None; bof = false; found = false; order = if length content.indexes == 0 then 0 else 1 }

-- a table of a number is open in the station's current area, which releases the one that was open there
abbrev pub opened : State → ℕ → ℕ → Bool → Cursor → State
opened s station number exclusive cursor = with_area (closed s station) station (Some (record { table = number; exclusive = exclusive; cursor = cursor }))

-- an edited table, and the cursor that goes with it
abbrev pub with_edit : State → ℕ → Area → Content × Cursor → State
with_edit s station area e = with_cursor (with_table_at s area.table e.0) station area e.1

-- the station may write the record: it has the table exclusively, or a lock on the record or the table
abbrev pub can_write : State → ℕ → Area → ℕ → Bool
can_write s station area number = area.exclusive || may_write s.locks.locks station area.table number

-- no other station has locked the whole table
abbrev pub can_append : State → ℕ → Area → Bool
can_append s station area = holder s.locks.locks area.table 0 == 0 || holder s.locks.locks area.table 0 == station

-- SELECT: the area of the number is the current one
abbrev pub select : State → ℕ → ℕ → Outcome
select s station number = granted (is_in_range 1 MAX_AREAS number) BadArea (Ok (with_current s station number, Done))

-- USE: the table of the name is open in the current area, with the cursor at the top, in place of the one that
-- was open there
abbrev pub use_table : State → ℕ → List ℕ → Bool → Outcome
use_table s station name exclusive =
    found (table_named s name) NoTable (λ number.
    granted (not (is_open_beside s.stations station number)) AlreadyOpen (
    granted (not (is_in_use s.stations station number exclusive)) TableInUse (
    passed (top (table_at s.tables number) (new_cursor (table_at s.tables number))) (λ cursor.
    Ok (opened s station number exclusive cursor, Done)))))

-- GO, SKIP, SEEK, SET ORDER: the cursor moves
abbrev pub move : State → ℕ → (Content → Cursor → Result Cursor Refusal) → Outcome
move s station to =
    found (area_of s station) NoTableInUse (λ area.
    passed (to (table_of s area) area.cursor) (λ cursor. Ok (with_cursor s station area cursor, Done)))

-- APPEND BLANK: a new last record, with the cursor at it
abbrev pub append_record : State → ℕ → Outcome
append_record s station =
    found (area_of s station) NoTableInUse (λ area.
    granted (can_append s station area) TableInUse (
    passed (edited (table_of s area) area.cursor edit_of.AppendBlank) (λ e. Ok (with_edit s station area e, Done))))

-- the current area, where its cursor is at a record that the station may write
abbrev pub writable_area : State → ℕ → Result Area Refusal
writable_area s station =
    found (area_of s station) NoTableInUse (λ area.
    found area.cursor.at EndOfFile (λ number.
    granted (can_write s station area number) NotLocked (Ok area)))

-- REPLACE, MEMO, DELETE, RECALL: the record at the cursor changes
abbrev pub change_record : State → ℕ → EditValue → Outcome
change_record s station by =
    passed (writable_area s station) (λ area.
    passed (edited (table_of s area) area.cursor by) (λ e. Ok (with_edit s station area e, Done)))

-- PACK: the marked records are removed, and the station's locks in the table are released
abbrev pub pack_table : State → ℕ → Outcome
pack_table s station =
    found (area_of s station) NoTableInUse (λ area.
    granted area.exclusive NeedsExclusive (
    passed (edited (table_of s area) area.cursor edit_of.Pack) (λ e.
    Ok (without_lock (with_edit s station area e) station (Some area), Done))))

-- INDEX ON: the table has one more index, which is the order, and the cursor is at its top
abbrev pub index_on : State → ℕ → List ℕ → List ℕ → Outcome
index_on s station text name =
    passed (index_target s station name) (λ area.
    found (expression_in (table_of s area).table.schema text) BadExpression (λ e.
    passed (new_index s area name e) (λ index.
    Ok (with_edit s station area (with_made_index (table_of s area) area.cursor index), Done))))

-- UNLOCK: the station's locks in the current area's table are released
abbrev pub unlock : State → ℕ → Outcome
unlock s station = found (area_of s station) NoTableInUse (λ area. Ok (without_lock s station (Some area), Done))

-- UNLOCK ALL: all locks of the station are released
abbrev pub unlock_all : State → ℕ → Outcome
unlock_all s station = Ok (with_held s (without_all s.locks.locks station), Done)

-- locks that are asked for, and whether they are given
abbrev pub lock : Bool → State → List Lock → State × Answer
lock free s locks = if free then (with_held s locks, Truth true) else (s, Truth false)

-- ? RLOCK(): the record at the cursor
abbrev pub lock_record : State → ℕ → Outcome
lock_record s station =
    found (area_of s station) NoTableInUse (λ area.
    found area.cursor.at EndOfFile (λ number.
    Ok (lock (free_record s.locks.locks station area.table number) s (with_lock s.locks.locks station area.table number))))

-- each is the number of a record, and there is one
abbrev pub are_records : ℕ → List ℕ → Bool
are_records count numbers = not (length numbers == 0) && list_all (is_in_range 1 count) numbers

-- ? RLOCK(n,n,..): the records of a list, all or none
abbrev pub lock_records : State → ℕ → List ℕ → Outcome
lock_records s station numbers =
    found (area_of s station) NoTableInUse (λ area.
    granted (nat_le (length numbers) MAX_RECORD_LOCKS) TooManyLocks (
    granted (are_records (record_count (table_of s area)) numbers) OutOfRange (
    Ok (lock (free_records s.locks.locks station area.table numbers) s (with_records s.locks.locks station area.table numbers)))))

-- ? FLOCK(): the whole table
abbrev pub lock_file : State → ℕ → Outcome
lock_file s station =
    found (area_of s station) NoTableInUse (λ area.
    Ok (lock (free_whole s.locks.locks station area.table) s (with_lock s.locks.locks station area.table 0)))

-- ?: the field's value in the record at the cursor
abbrev pub show_field : State → ℕ → List ℕ → Outcome
show_field s station name =
    found (area_of s station) NoTableInUse (λ area.
    passed (shown (table_of s area) area.cursor name) (λ text. Ok (s, Text text)))

-- RECNO(): the record at the cursor, and one more than there are at the end
abbrev pub record_number : Content → Option ℕ → ℕ
record_number content None = record_count content + 1
record_number content (Some number) = number

-- what a question about the cursor is answered
abbrev pub reply : Question → Content → Cursor → Answer
reply Eof content cursor = Truth (is_none cursor.at)
reply Bof content cursor = Truth cursor.bof
reply Found content cursor = Truth cursor.found
reply Deleted content cursor = Truth (is_deleted content cursor)
reply Recno content cursor = Number (record_number content cursor.at)
reply Reccount content cursor = Number (record_count content)

-- ? EOF(), BOF(), FOUND(), DELETED(), RECNO(), RECCOUNT()
abbrev pub ask : State → ℕ → Question → Outcome
ask s station question = found (area_of s station) NoTableInUse (λ area. Ok (s, reply question (table_of s area) area.cursor))

-- what a station's command leads to: a new state and an answer, or the first refusal in its order
abbrev pub outcome : State → ℕ → Command → Outcome
outcome s station (Select number) = select s station number
outcome s station (UseTable name exclusive) = use_table s station name exclusive
outcome s station CloseTable = Ok (closed s station, Done)
outcome s station (Go number) = move s station (λ content cursor. go content cursor number)
outcome s station Top = move s station top
outcome s station Bottom = move s station bottom
outcome s station (Skip steps) = move s station (λ content cursor. skip content cursor steps)
outcome s station (Seek text) = move s station (λ content cursor. seek content cursor text)
outcome s station (Order number) = move s station (λ content cursor. set_order content cursor number)
outcome s station AppendBlank = append_record s station
outcome s station (Replace field value) = change_record s station (edit_of.Replace field value)
outcome s station (Memo field text) = change_record s station (edit_of.Memo field text)
outcome s station Delete = change_record s station edit_of.Delete
outcome s station Recall = change_record s station edit_of.Recall
outcome s station Pack = pack_table s station
outcome s station (IndexOn text name) = index_on s station text name
outcome s station Unlock = unlock s station
outcome s station UnlockAll = unlock_all s station
outcome s station (Show field) = show_field s station field
outcome s station RecordLock = lock_record s station
outcome s station (RecordLocks numbers) = lock_records s station numbers
outcome s station FileLock = lock_file s station
outcome s station (Ask question) = ask s station question
outcome s station Bad = Err BadCommand

-- what is tested of a command before it asks for memory: all, but of INDEX ON no more than its name, its table, and how
-- long its text is, since the expression is read in memory
abbrev pub early_outcome : State → ℕ → Command → Outcome
early_outcome s station (IndexOn text name) = passed (index_early s station text name) (λ _. Ok (s, Done))
early_outcome s station command = outcome s station command

-- an outcome as a step from a state: a refusal is the answer, and leaves the state
abbrev pub settled : State → Outcome → State × Answer
settled s (Ok end) = end
settled s (Err refusal) = (s, Refused refusal)

-- the state and the answer after a station's command: those of the outcome, or the old state with the refusal
abbrev pub step : State → ℕ → Command → State × Answer
step s station command = settled s (outcome s station command)
