-- What a plan makes of a state, and when it can be carried out.
use Rattle.std.specs.Prelude.{◌≡◌, ℕ, ◌≤◌, true, List, length, Some, Result, Ok, Err, IsOk}
use Rattle.lock_table.specs.declared.TheConstants.{MAX_RECORD_LOCKS}
use Rattle.lock_table.specs.Numbers.{AreRecordNumbers}
use Rattle.lock_table.specs.Locks.{free_record, free_records, free_whole, with_lock, with_records, without_all}
use Rattle.key_expr.specs.Expression.{Expression}
use Rattle.table_core.specs.declared.cursor.Cursor.{Cursor}
use Rattle.table_core.specs.declared.refusal.Refusal.{Refusal}
use Rattle.table_core.specs.declared.edits.planned.Planned.{Planned}
use Rattle.table_core.specs.declared.fault.TableFault.{TableFault}
use Rattle.table_core.specs.declared.fault.TableFault.TheVariants.{Refused, NoMemory}
use Rattle.table_core.specs.Content.{Content}
use Rattle.table_core.specs.EditValue.{EditValue}
use Rattle.table_core.specs.Moves.{top, bottom, go, skip, seek, set_order}
use Rattle.table_core.specs.Edits.{edited, with_made_index}
use Rattle.table_core.specs.Planned.{changed as table_changed, cursor_after, carried_out, IsPlanned}
use Rattle.catalogue_core.specs.declared.answer.Answer.{Answer}
use Rattle.catalogue_core.specs.declared.answer.Answer.TheVariants.{Done}
use Rattle.catalogue_core.specs.declared.area.Area.{Area}
use Rattle.catalogue_core.specs.declared.command.Command.{Command}
use Rattle.catalogue_core.specs.declared.change.Change.{Change}
use Rattle.catalogue_core.specs.declared.change.Change.TheVariants.{Nothing, Select, Close, Open, Move, Edit, Pack, RecordLock, RecordLocks, FileLock, Unlock, UnlockAll}
use Rattle.catalogue_core.specs.declared.change.Plan.{Plan}
use Rattle.catalogue_core.specs.declared.plan.moves.Move.{Move as MoveTo}
use Rattle.catalogue_core.specs.declared.plan.moves.Move.TheVariants as move_to
use Rattle.catalogue_core.specs.Rooms.{WithRoom, seen, held_at}
use Rattle.catalogue_core.specs.State.{State, table_of, with_current, with_area, with_held, without_lock, closed, IsArea}
use Rattle.catalogue_core.specs.IndexOn.{index_early}
use Rattle.catalogue_core.specs.Step.{Outcome, with_edit, early_outcome, outcome, index_on}

-- what a move makes of a table's cursor
abbrev pub after_move : MoveTo → Content → Cursor → Result Cursor Refusal
after_move (move_to.Go number) = λ content cursor. go content cursor number
after_move move_to.Top = top
after_move move_to.Bottom = bottom
after_move (move_to.Skip steps) = λ content cursor. skip content cursor steps
after_move (move_to.Seek text) = λ content cursor. seek content cursor text.now
after_move (move_to.Order number) = λ content cursor. set_order content cursor number

-- what an edit makes of the area's table and cursor, and what its plan does
abbrev pub edited_at : State → Area → EditValue → Result (Content × Cursor) Refusal
edited_at s area edit = edited (table_of s area) area.cursor edit

abbrev pub carried_at : State → Area → Planned → Result (Content × Cursor) Refusal
carried_at s area planned = carried_out (table_of s area) area.cursor planned

-- the area's table and cursor after a planned edit
abbrev pub with_planned : State → ℕ → Area → Planned → State
with_planned s station area planned = with_edit s station area (table_changed (table_of s area) planned, cursor_after (table_of s area) area.cursor planned)

-- the state after a station's change
abbrev pub state_after : State → ℕ → Change → State
state_after s station Nothing = s
state_after s station (Select number) = with_current s station number
state_after s station Close = closed s station
state_after s station (Open area) = with_area (closed s station) station (Some area)
state_after s station (Move area) = with_area s station (Some area)
state_after s station (Edit area planned) = with_planned s station area planned
state_after s station (Pack area planned) = without_lock (with_planned s station area planned) station (Some area)
state_after s station (RecordLock area number) = with_held s (with_lock s.locks.locks station area.table number)
state_after s station (RecordLocks area records) = with_held s (with_records s.locks.locks station area.table records.items)
state_after s station (FileLock area) = with_held s (with_lock s.locks.locks station area.table 0)
state_after s station (Unlock area) = without_lock s station (Some area)
state_after s station UnlockAll = with_held s (without_all s.locks.locks station)

-- the state and the answer of a plan
abbrev pub planned : State → ℕ → Plan → State × Answer
planned s station plan = (state_after s station plan.change, plan.answer)

-- the outcome of a plan or a refusal
abbrev pub outcome_of : State → ℕ → Result Plan Refusal → Outcome
outcome_of s station (Ok plan) = Ok (planned s station plan)
outcome_of s station (Err refusal) = Err refusal

-- a fault is the refusal of the outcome, and out of memory comes only where the first tests pass
abbrev pub IsFaultAfter : {X Y : Type 0} → TableFault → Result X Refusal → Result Y Refusal → Type 0
IsFaultAfter (Refused refusal) first outcome = outcome ≡ Err refusal
IsFaultAfter NoMemory first outcome = IsOk first

-- a fault of the plan of a command
abbrev pub IsPlanFault : State → ℕ → Command → TableFault → Type 0
IsPlanFault s station command fault = IsFaultAfter fault (early_outcome s station command) (outcome s station command)

-- a fault of the plan of an INDEX ON of a text and a name
abbrev pub IsIndexOnFault : State → ℕ → List ℕ → List ℕ → TableFault → Type 0
IsIndexOnFault s station text name fault = IsFaultAfter fault (index_early s station text name) (index_on s station text name)

-- an INDEX ON of a text and a name that is not refused makes the index of the name and this expression in this area
abbrev pub IsNewIndex : State → ℕ → List ℕ → List ℕ → Area × Expression → Type 0
IsNewIndex s station text name made =
    index_on s station text name ≡ Ok (with_edit s station made.0 (with_made_index (table_of s made.0) made.0.cursor (record { name = name; expr = made.1 })), Done)

-- the area's table has the room that the edit is planned for
abbrev pub CanEdit : WithRoom → Area → Planned → Type 0
CanEdit w area planned = IsArea (seen w).tables area × IsPlanned (held_at w.tables area.table) planned

-- there is a record to be locked, and there are no more than may be, each with a number from 1
abbrev pub AreLockable : List ℕ → Type 0
AreLockable records = (1 ≤ length records) × (length records ≤ MAX_RECORD_LOCKS) × AreRecordNumbers records

-- the change can be made of the state
abbrev pub CanChange : WithRoom → ℕ → Change → Type 0
CanChange w station (Edit area planned) = CanEdit w area planned
CanChange w station (Pack area planned) = CanEdit w area planned
CanChange w station (RecordLock area number) = IsArea (seen w).tables area × (1 ≤ number) × (free_record w.locks.locks station area.table number ≡ true)
CanChange w station (RecordLocks area records) = IsArea (seen w).tables area × AreLockable records.items × (free_records w.locks.locks station area.table records.items ≡ true)
CanChange w station (FileLock area) = IsArea (seen w).tables area × (free_whole w.locks.locks station area.table ≡ true)
CanChange w station (Unlock area) = IsArea (seen w).tables area
CanChange w station _ = Unit {0}
