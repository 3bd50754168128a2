-- What a command does to the tables: most leave all as they are, and an edit puts another in the place of the one that is open in the
-- station's current area.
use Rattle.std.proofs.Common.{◌≡◌, ◌≢◌, ◌⊎◌, inl, inr, ℕ, ◌-◌, ◌≤◌, Bool, true, false, List, length, slice_set, slice_index_or, Option, Some, None, Result, Ok, refl, ap, ◌∙◌, arith}
use Rattle.std.specs.Prelude.{IfOk, not, nat_le}
use Rattle.std.specs.Int.{is_in_range}
use Rattle.std.proofs.lemmas.Bool.{cases_eq}
use Rattle.std.proofs.lemmas.List.{get_or-set_same, get_or-set_other}
use Rattle.key_expr.specs.Expression.{expression_in}
use Rattle.lock_table.specs.declared.TheConstants.{MAX_RECORD_LOCKS}
use Rattle.lock_table.specs.Locks.{Lock, free_record, free_records, free_whole, with_lock, with_records}
use Rattle.table_core.specs.declared.cursor.Cursor.{Cursor}
use Rattle.table_core.specs.EditValue.{EditValue}
use Rattle.table_core.specs.EditValue as edit_of
use Rattle.table_core.specs.declared.refusal.Refusal.{Refusal}
use Rattle.table_core.specs.declared.refusal.Refusal.TheVariants.{NoTable, NoTableInUse, TableInUse, NeedsExclusive, NotLocked, OutOfRange, EndOfFile, BadArea, AlreadyOpen, BadCommand, TooManyLocks, BadExpression}
use Rattle.table_core.specs.Content.{Content, Indexed, record_count}
use Rattle.table_core.specs.Edits.{edited, with_made_index}
use Rattle.table_core.specs.Moves.{top, bottom, go, skip, seek, set_order}
use Rattle.table_core.specs.Shown.{show as shown}
use Rattle.table_core.specs.Laws.Outcomes.{of_found, of_granted, of_passed}
use Rattle.catalogue_core.specs.declared.answer.Answer.{Answer}
use Rattle.catalogue_core.specs.declared.answer.Answer.TheVariants.{Done}
use Rattle.catalogue_core.specs.declared.area.Area.{Area}
use Rattle.catalogue_core.specs.declared.area.TheConstants.{MAX_AREAS}
use Rattle.catalogue_core.specs.declared.command.Command.{Command}
use Rattle.catalogue_core.specs.declared.command.Command.TheVariants.{Select, UseTable, CloseTable, Go, Top, Bottom, Skip, Seek, Order, AppendBlank, Replace, Memo, Delete, Recall, Pack, IndexOn, Unlock, UnlockAll, Show, RecordLock, RecordLocks, FileLock, Ask, Bad}
use Rattle.catalogue_core.specs.declared.command.Question.{Question}
use Rattle.catalogue_core.specs.IndexOn.{index_target, is_index_name, new_index}
use Rattle.catalogue_core.specs.State.{State, no_content, area_of, table_at, table_of, is_open_beside, is_in_use, without_lock, closed}
use Rattle.catalogue_core.specs.Step.{table_named, new_cursor, opened, with_edit, can_write, can_append, select, use_table, move, append_record, writable_area, change_record, pack_table, index_on, unlock, lock, lock_record, lock_records, are_records, lock_file, show_field, ask, outcome}
use Rattle.catalogue_core.proofs.Cases.{when_ok}

-- ---- the commands that edit nothing

abbrev pub SameTables : State → State × Answer → Type 0
SameTables s end = end.0.tables ≡ s.tables

unlocked_tables : (s : State) (station : ℕ) (area : Option Area) → (without_lock s station area).tables ≡ s.tables
unlocked_tables s station None = refl
unlocked_tables s station (Some area) = refl

closed_tables : (s : State) (station : ℕ) → (closed s station).tables ≡ s.tables
closed_tables s station = unlocked_tables s station (area_of s station)

select_same : (s : State) (station number : ℕ) → IfOk (select s station number) (SameTables s)
select_same s station number = of_granted (SameTables s) (is_in_range 1 MAX_AREAS number) BadArea _ (λ _. refl)

use_same : (s : State) (station : ℕ) (name : List ℕ) (exclusive : Bool) → IfOk (use_table s station name exclusive) (SameTables s)
use_same s station name exclusive =
    of_found (SameTables s) (table_named s name) NoTable _ (λ number _.
    of_granted (SameTables s) (not (is_open_beside s.stations station number)) AlreadyOpen _ (λ _.
    of_granted (SameTables s) (not (is_in_use s.stations station number exclusive)) TableInUse _ (λ _.
    of_passed (SameTables s) (top (table_at s.tables number) (new_cursor (table_at s.tables number))) (λ cursor. Ok (opened s station number exclusive cursor, Done)) (λ _ _. closed_tables s station))))

move_same : (s : State) (station : ℕ) (to : Content → Cursor → Result Cursor Refusal) → IfOk (move s station to) (SameTables s)
move_same s station to =
    of_found (SameTables s) (area_of s station) NoTableInUse _ (λ area _. of_passed (SameTables s) (to (table_of s area) area.cursor) _ (λ _ _. refl))

unlock_same : (s : State) (station : ℕ) → IfOk (unlock s station) (SameTables s)
unlock_same s station = of_found (SameTables s) (area_of s station) NoTableInUse _ (λ _ _. refl)

locked_same : (free : Bool) (s : State) (locks : List Lock) → SameTables s (lock free s locks)
locked_same true s locks = refl
locked_same false s locks = refl

lock_record_same : (s : State) (station : ℕ) → IfOk (lock_record s station) (SameTables s)
lock_record_same s station =
    of_found (SameTables s) (area_of s station) NoTableInUse _ (λ area _.
    of_found (SameTables s) area.cursor.at EndOfFile _ (λ number _.
    locked_same (free_record s.locks.locks station area.table number) s (with_lock s.locks.locks station area.table number)))

lock_records_same : (s : State) (station : ℕ) (numbers : List ℕ) → IfOk (lock_records s station numbers) (SameTables s)
lock_records_same s station numbers =
    of_found (SameTables s) (area_of s station) NoTableInUse _ (λ area _.
    of_granted (SameTables s) (nat_le (length numbers) MAX_RECORD_LOCKS) TooManyLocks _ (λ _.
    of_granted (SameTables s) (are_records (record_count (table_of s area)) numbers) OutOfRange _ (λ _.
    locked_same (free_records s.locks.locks station area.table numbers) s (with_records s.locks.locks station area.table numbers))))

lock_file_same : (s : State) (station : ℕ) → IfOk (lock_file s station) (SameTables s)
lock_file_same s station =
    of_found (SameTables s) (area_of s station) NoTableInUse _ (λ area _. locked_same (free_whole s.locks.locks station area.table) s (with_lock s.locks.locks station area.table 0))

show_same : (s : State) (station : ℕ) (name : List ℕ) → IfOk (show_field s station name) (SameTables s)
show_same s station name =
    of_found (SameTables s) (area_of s station) NoTableInUse _ (λ area _. of_passed (SameTables s) (shown (table_of s area) area.cursor name) _ (λ _ _. refl))

ask_same : (s : State) (station : ℕ) (question : Question) → IfOk (ask s station question) (SameTables s)
ask_same s station question = of_found (SameTables s) (area_of s station) NoTableInUse _ (λ _ _. refl)

-- ---- the commands that edit

-- an edit of the table that is open in the station's current area, which it may make, and that made this of it
pub record IsEdit (s : State) (station : ℕ) (May : Area → Type 0) (Makes : Area → Content × Cursor → Type 0) (end : State × Answer) : Type 0 where
  pub area : Area
  pub here : area_of s station ≡ Some area
  pub may : May area
  pub made : Content × Cursor
  pub edit : Makes area made
  pub tables : end.0.tables ≡ slice_set s.tables (area.table - 1) made.0
  pub answer : end.1 ≡ Done

-- the edit of a table and its cursor makes this of the table
abbrev pub MakesBy : State → EditValue → Area → Content × Cursor → Type 0
MakesBy s by area made = edited (table_of s area) area.cursor by ≡ Ok made

-- the cursor is at a record that the station may write
abbrev pub MayWriteAt : State → ℕ → Area → Type 0
MayWriteAt s station area = (number : ℕ) × (area.cursor.at ≡ Some number) × (can_write s station area number ≡ true)

record IsWritable (s : State) (station : ℕ) (area : Area) : Type 0 where
  here : area_of s station ≡ Some area
  may : MayWriteAt s station area

writable : (s : State) (station : ℕ) → IfOk (writable_area s station) (IsWritable s station)
writable s station =
    of_found (IsWritable s station) (area_of s station) NoTableInUse _ (λ area is.
    of_found (IsWritable s station) area.cursor.at EndOfFile _ (λ number at.
    of_granted (IsWritable s station) (can_write s station area number) NotLocked (Ok area) (λ may. record { here = is; may = (number, at, may) })))

-- REPLACE, MEMO, DELETE, RECALL
is_change : (s : State) (station : ℕ) (by : EditValue) → IfOk (change_record s station by) (IsEdit s station (MayWriteAt s station) (MakesBy s by))
is_change s station by =
    let P : State × Answer → Type 0 = IsEdit s station (MayWriteAt s station) (MakesBy s by) in
    of_passed P (writable_area s station) _ (λ area there.
    let w = when_ok (IsWritable s station) (writable_area s station) area (writable s station) there in
    of_passed P (edited (table_of s area) area.cursor by) _ (λ e f.
    record { area = area; here = w.here; may = w.may; made = e; edit = f; tables = refl; answer = refl }))

-- no other station has locked the whole table
abbrev pub MayAppend : State → ℕ → Area → Type 0
MayAppend s station area = can_append s station area ≡ true

-- APPEND BLANK
is_append : (s : State) (station : ℕ) → IfOk (append_record s station) (IsEdit s station (MayAppend s station) (MakesBy s edit_of.AppendBlank))
is_append s station =
    let P : State × Answer → Type 0 = IsEdit s station (MayAppend s station) (MakesBy s edit_of.AppendBlank) in
    of_found P (area_of s station) NoTableInUse _ (λ area is.
    of_granted P (can_append s station area) TableInUse _ (λ may.
    of_passed P (edited (table_of s area) area.cursor edit_of.AppendBlank) _ (λ e f.
    record { area = area; here = is; may = may; made = e; edit = f; tables = refl; answer = refl })))

abbrev pub IsOnly : Area → Type 0
IsOnly area = area.exclusive ≡ true

-- PACK
is_pack : (s : State) (station : ℕ) → IfOk (pack_table s station) (IsEdit s station IsOnly (MakesBy s edit_of.Pack))
is_pack s station =
    let P : State × Answer → Type 0 = IsEdit s station IsOnly (MakesBy s edit_of.Pack) in
    of_found P (area_of s station) NoTableInUse _ (λ area is.
    of_granted P area.exclusive NeedsExclusive _ (λ may.
    of_passed P (edited (table_of s area) area.cursor edit_of.Pack) (λ e. Ok (without_lock (with_edit s station area e) station (Some area), Done)) (λ e f.
    record { area = area; here = is; may = may; made = e; edit = f; tables = refl; answer = refl })))

-- the same fields and records
abbrev pub SameTable : State → Area → Content × Cursor → Type 0
SameTable s area made = made.0.table ≡ (table_of s area).table

record IsTarget (s : State) (station : ℕ) (area : Area) : Type 0 where
  here : area_of s station ≡ Some area
  may : IsOnly area

targeted : (s : State) (station : ℕ) (name : List ℕ) → IfOk (index_target s station name) (IsTarget s station)
targeted s station name =
    of_granted (IsTarget s station) (is_index_name name) BadCommand _ (λ _.
    of_found (IsTarget s station) (area_of s station) NoTableInUse _ (λ area is.
    of_granted (IsTarget s station) area.exclusive NeedsExclusive (Ok area) (λ may. record { here = is; may = may })))

-- INDEX ON
is_index_on : (s : State) (station : ℕ) (text name : List ℕ) → IfOk (index_on s station text name) (IsEdit s station IsOnly (SameTable s))
is_index_on s station text name =
    let P : State × Answer → Type 0 = IsEdit s station IsOnly (SameTable s) in
    of_passed P (index_target s station name) _ (λ area there.
    let t = when_ok (IsTarget s station) (index_target s station name) area (targeted s station name) there in
    of_found P (expression_in (table_of s area).table.schema text) BadExpression _ (λ e _.
    of_passed P (new_index s area name e) (λ (index : Indexed). Ok (with_edit s station area (with_made_index (table_of s area) area.cursor index), Done)) (λ index _.
    record { area = area; here = t.here; may = t.may; made = with_made_index (table_of s area) area.cursor index; edit = refl; tables = refl; answer = refl })))

-- ---- each command

-- what a command does to the tables, where it is not refused
abbrev pub DoesTo : State → ℕ → Command → State × Answer → Type 0
DoesTo s station AppendBlank = IsEdit s station (MayAppend s station) (MakesBy s edit_of.AppendBlank)
DoesTo s station (Replace name value) = IsEdit s station (MayWriteAt s station) (MakesBy s (edit_of.Replace name value))
DoesTo s station (Memo name text) = IsEdit s station (MayWriteAt s station) (MakesBy s (edit_of.Memo name text))
DoesTo s station Delete = IsEdit s station (MayWriteAt s station) (MakesBy s edit_of.Delete)
DoesTo s station Recall = IsEdit s station (MayWriteAt s station) (MakesBy s edit_of.Recall)
DoesTo s station Pack = IsEdit s station IsOnly (MakesBy s edit_of.Pack)
DoesTo s station (IndexOn text name) = IsEdit s station IsOnly (SameTable s)
DoesTo s station _ = SameTables s

pub does_to : (s : State) (station : ℕ) (command : Command) → IfOk (outcome s station command) (DoesTo s station command)
does_to s station (Select number) = select_same s station number
does_to s station (UseTable name exclusive) = use_same s station name exclusive
does_to s station CloseTable = closed_tables s station
does_to s station (Go number) = move_same s station (λ content cursor. go content cursor number)
does_to s station Top = move_same s station top
does_to s station Bottom = move_same s station bottom
does_to s station (Skip steps) = move_same s station (λ content cursor. skip content cursor steps)
does_to s station (Seek text) = move_same s station (λ content cursor. seek content cursor text)
does_to s station (Order number) = move_same s station (λ content cursor. set_order content cursor number)
does_to s station AppendBlank = is_append s station
does_to s station (Replace name value) = is_change s station (edit_of.Replace name value)
does_to s station (Memo name text) = is_change s station (edit_of.Memo name text)
does_to s station Delete = is_change s station edit_of.Delete
does_to s station Recall = is_change s station edit_of.Recall
does_to s station Pack = is_pack s station
does_to s station (IndexOn text name) = is_index_on s station text name
does_to s station Unlock = unlock_same s station
does_to s station UnlockAll = refl
does_to s station (Show field) = show_same s station field
does_to s station RecordLock = lock_record_same s station
does_to s station (RecordLocks numbers) = lock_records_same s station numbers
does_to s station FileLock = lock_file_same s station
does_to s station (Ask question) = ask_same s station question
does_to s station Bad = tt

-- ---- the tables after an edit

-- the table of a number is the one that was put, or it is as it was
pub put_cases : (tables : List Content) (here table : ℕ) (made : Content) → 1 ≤ here → here ≤ length tables
    → ((table - 1 ≡ here - 1) × (table_at (slice_set tables (here - 1) made) table ≡ made)) ⊎ ((table - 1 ≢ here - 1) × (table_at (slice_set tables (here - 1) made) table ≡ table_at tables table))
put_cases tables here table made counted inside =
    elim (cases_eq (table - 1) (here - 1)) [
      | inl same ↦ inl (same, ap (λ (i : ℕ). slice_index_or (slice_set tables (here - 1) made) i no_content) same ∙ get_or-set_same tables (here - 1) made no_content (omega (arith, counted, inside)))
      | inr other ↦ inr (other, get_or-set_other tables (here - 1) (table - 1) made no_content other)
    ]
