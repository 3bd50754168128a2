-- No command releases another station's lock; so what is locked stays so, and as it is, until the station itself has an entry.
use Rattle.std.proofs.Common.{◌≡◌, ◌≢◌, inl, inr, ℕ, Bool, true, false, not, ◌&&◌, ◌==◌, List, [], ◌∷◌, ◌++◌, length, Option, Some, None, Result, Ok, refl, sym, subst, ◌∙◌, arith}
use Rattle.std.specs.Prelude.{IfOk, nat_le}
use Rattle.std.specs.Int.{is_in_range}
use Rattle.std.specs.List.{AllByRecursion}
use Rattle.std.proofs.lemmas.Bool.Decides.{nat_tests}
use Rattle.std.proofs.lemmas.List.{length-replicate}
use Rattle.dbf_image.specs.Table.{Row}
use Rattle.key_expr.specs.Expression.{expression_in}
use Rattle.lock_table.specs.declared.TheConstants.{MAX_RECORD_LOCKS}
use Rattle.lock_table.specs.Locks.{Lock, lock_of, free_record, free_records, free_whole, is_own, with_lock, with_records, IsHeld}
use Rattle.lock_table.specs.Laws.{held_others, others_with_records, left_without, left_without_all}
use Rattle.table_core.specs.declared.cursor.Cursor.{Cursor}
use Rattle.table_core.specs.declared.refusal.Refusal.{Refusal}
use Rattle.table_core.specs.declared.refusal.Refusal.TheVariants.{NoTable, NoTableInUse, TableInUse, NeedsExclusive, OutOfRange, EndOfFile, BadArea, AlreadyOpen, TooManyLocks, BadExpression}
use Rattle.table_core.specs.Content.{Content, Indexed, record_count}
use Rattle.table_core.specs.EditValue.{EditValue}
use Rattle.table_core.specs.EditValue as edit_of
use Rattle.table_core.specs.Edits.{edited, with_made_index}
use Rattle.table_core.specs.Laws.Outcomes.{of_found, of_granted, of_passed}
use Rattle.table_core.specs.Moves.{top, bottom, go, skip, seek, set_order}
use Rattle.table_core.specs.Shown.{show as shown}
use Rattle.catalogue_core.specs.declared.answer.Answer.{Answer}
use Rattle.catalogue_core.specs.declared.answer.Answer.TheVariants.{Done}
use Rattle.catalogue_core.specs.declared.area.Area.{Area}
use Rattle.catalogue_core.specs.declared.area.TheConstants.{MAX_AREAS}
use Rattle.catalogue_core.specs.declared.command.Command.{Command}
use Rattle.catalogue_core.specs.declared.command.Command.TheVariants.{Select, UseTable, CloseTable, Go, Top, Bottom, Skip, Seek, Order, AppendBlank, Replace, Memo, Delete, Recall, Pack, IndexOn, Unlock, UnlockAll, Show, RecordLock, RecordLocks, FileLock, Ask, Bad}
use Rattle.catalogue_core.specs.declared.entry.Entry.{Entry}
use Rattle.catalogue_core.specs.IndexOn.{index_target, new_index}
use Rattle.catalogue_core.specs.Replay.{Opened, after, replay, start, IsOfStation}
use Rattle.catalogue_core.specs.State.{State, new_station, area_of, table_at, table_of, is_open_beside, is_in_use, without_lock, HasStation, IsState}
use Rattle.catalogue_core.specs.Stays.{record_at, HasRecordLocked, IsLegalHistory, AreOfOthers, LeavesTheLock, StaysWhileLocked}
use Rattle.catalogue_core.specs.Step.{table_named, new_cursor, opened, with_edit, can_append, move, writable_area, change_record, lock, are_records, outcome, step}
use Rattle.catalogue_core.proofs.LeftLaws.{settled_as, leaves_the_record}
use Rattle.catalogue_core.proofs.ReplayLaws.{has_station, is_stepped}
use Rattle.catalogue_core.proofs.StartLaws.{start_is}

-- the lock is held still
abbrev Holds : Lock → State × Answer → Type 0
Holds l end = IsHeld end.0.locks.locks l

not_own : (l : Lock) (other table : ℕ) → l.station ≢ other → is_own other table l ≡ false
not_own l other table differ = by l.table l.station differ
  where
    by : (a b : ℕ) → b ≢ other → (a == table && b == other) ≡ false
    by a b n = grind (arith, nat_tests)

released : (s : State) (other : ℕ) (area : Option Area) (l : Lock) → l.station ≢ other → IsHeld s.locks.locks l → IsHeld (without_lock s other area).locks.locks l
released s other None l differ held = held
released s other (Some area) l differ held = left_without s.locks.locks other area.table l held (not_own l other area.table differ)

moved : (s : State) (other : ℕ) (to : Content → Cursor → Result Cursor Refusal) (l : Lock) → IsHeld s.locks.locks l → IfOk (move s other to) (Holds l)
moved s other to l held = of_found (Holds l) (area_of s other) NoTableInUse _ (λ area _. of_passed (Holds l) (to (table_of s area) area.cursor) _ (λ _ _. held))

changed : (s : State) (other : ℕ) (by : EditValue) (l : Lock) → IsHeld s.locks.locks l → IfOk (change_record s other by) (Holds l)
changed s other by l held = of_passed (Holds l) (writable_area s other) _ (λ area _. of_passed (Holds l) (edited (table_of s area) area.cursor by) _ (λ _ _. held))

locked : (free : Bool) (s : State) (locks : List Lock) (l : Lock) → IsHeld s.locks.locks l → IsHeld locks l → Holds l (lock free s locks)
locked true s locks l was now = now
locked false s locks l was now = was

-- each command of another station than the lock's
lock_left : (s : State) (other : ℕ) (command : Command) (l : Lock) → l.station ≢ other → IsHeld s.locks.locks l → IfOk (outcome s other command) (Holds l)
lock_left s other (Select number) l differ held = of_granted (Holds l) (is_in_range 1 MAX_AREAS number) BadArea _ (λ _. held)
lock_left s other (UseTable name exclusive) l differ held =
    of_found (Holds l) (table_named s name) NoTable _ (λ number _.
    of_granted (Holds l) (not (is_open_beside s.stations other number)) AlreadyOpen _ (λ _.
    of_granted (Holds l) (not (is_in_use s.stations other number exclusive)) TableInUse _ (λ _.
    of_passed (Holds l) (top (table_at s.tables number) (new_cursor (table_at s.tables number))) (λ cursor. Ok (opened s other number exclusive cursor, Done)) (λ _ _.
    released s other (area_of s other) l differ held))))
lock_left s other CloseTable l differ held = released s other (area_of s other) l differ held
lock_left s other (Go number) l differ held = moved s other (λ content cursor. go content cursor number) l held
lock_left s other Top l differ held = moved s other top l held
lock_left s other Bottom l differ held = moved s other bottom l held
lock_left s other (Skip steps) l differ held = moved s other (λ content cursor. skip content cursor steps) l held
lock_left s other (Seek text) l differ held = moved s other (λ content cursor. seek content cursor text) l held
lock_left s other (Order number) l differ held = moved s other (λ content cursor. set_order content cursor number) l held
lock_left s other AppendBlank l differ held =
    of_found (Holds l) (area_of s other) NoTableInUse _ (λ area _.
    of_granted (Holds l) (can_append s other area) TableInUse _ (λ _. of_passed (Holds l) (edited (table_of s area) area.cursor edit_of.AppendBlank) _ (λ _ _. held)))
lock_left s other (Replace field value) l differ held = changed s other (edit_of.Replace field value) l held
lock_left s other (Memo field text) l differ held = changed s other (edit_of.Memo field text) l held
lock_left s other Delete l differ held = changed s other edit_of.Delete l held
lock_left s other Recall l differ held = changed s other edit_of.Recall l held
lock_left s other Pack l differ held =
    of_found (Holds l) (area_of s other) NoTableInUse _ (λ area _.
    of_granted (Holds l) area.exclusive NeedsExclusive _ (λ _.
    of_passed (Holds l) (edited (table_of s area) area.cursor edit_of.Pack) (λ e. Ok (without_lock (with_edit s other area e) other (Some area), Done)) (λ e _.
    left_without s.locks.locks other area.table l held (not_own l other area.table differ))))
lock_left s other (IndexOn text name) l differ held =
    of_passed (Holds l) (index_target s other name) _ (λ area _.
    of_found (Holds l) (expression_in (table_of s area).table.schema text) BadExpression _ (λ e _.
    of_passed (Holds l) (new_index s area name e) (λ (index : Indexed). Ok (with_edit s other area (with_made_index (table_of s area) area.cursor index), Done)) (λ _ _. held)))
lock_left s other Unlock l differ held =
    of_found (Holds l) (area_of s other) NoTableInUse _ (λ area _. left_without s.locks.locks other area.table l held (not_own l other area.table differ))
lock_left s other UnlockAll l differ held = left_without_all s.locks.locks other l held differ
lock_left s other (Show field) l differ held =
    of_found (Holds l) (area_of s other) NoTableInUse _ (λ area _. of_passed (Holds l) (shown (table_of s area) area.cursor field) _ (λ _ _. held))
lock_left s other RecordLock l differ held =
    of_found (Holds l) (area_of s other) NoTableInUse _ (λ area _.
    of_found (Holds l) area.cursor.at EndOfFile _ (λ number _.
    locked (free_record s.locks.locks other area.table number) s (with_lock s.locks.locks other area.table number) l held
    (held_others s.locks.locks other area.table number l held (not_own l other area.table differ))))
lock_left s other (RecordLocks numbers) l differ held =
    of_found (Holds l) (area_of s other) NoTableInUse _ (λ area _.
    of_granted (Holds l) (nat_le (length numbers) MAX_RECORD_LOCKS) TooManyLocks _ (λ _.
    of_granted (Holds l) (are_records (record_count (table_of s area)) numbers) OutOfRange _ (λ _.
    locked (free_records s.locks.locks other area.table numbers) s (with_records s.locks.locks other area.table numbers) l held
    (others_with_records s.locks.locks other area.table numbers l held (not_own l other area.table differ)))))
lock_left s other FileLock l differ held =
    of_found (Holds l) (area_of s other) NoTableInUse _ (λ area _.
    locked (free_whole s.locks.locks other area.table) s (with_lock s.locks.locks other area.table 0) l held
    (held_others s.locks.locks other area.table 0 l held (not_own l other area.table differ)))
lock_left s other (Ask question) l differ held = of_found (Holds l) (area_of s other) NoTableInUse _ (λ _ _. held)
lock_left s other Bad l differ held = tt

pub leaves_the_lock : (s : State) (other : ℕ) (command : Command) → LeavesTheLock s other command
leaves_the_lock s other command station table number differ (inl held) =
    inl (settled_as (λ t. IsHeld t.locks.locks (lock_of table station number)) s (outcome s other command) held (lock_left s other command (lock_of table station number) (λ e. differ (sym e)) held))
leaves_the_lock s other command station table number differ (inr held) =
    inr (settled_as (λ t. IsHeld t.locks.locks (lock_of table station 0)) s (outcome s other command) held (lock_left s other command (lock_of table station 0) (λ e. differ (sym e)) held))

-- ---- over a history

pub after-append : (s : State) (xs ys : List Entry) → after s (xs ++ ys) ≡ after (after s xs) ys
after-append s [] ys = refl
after-append s (x ∷ xs) ys = after-append (step s x.station x.command).0 xs ys

pub all_first : {X : Type 0} (P : X → Type 0) (xs ys : List X) → AllByRecursion P (xs ++ ys) → AllByRecursion P xs
all_first P [] ys all = tt
all_first P (x ∷ xs) ys all = (all.0, all_first P xs ys all.1)

pub all_last : {X : Type 0} (P : X → Type 0) (xs ys : List X) → AllByRecursion P (xs ++ ys) → AllByRecursion P ys
all_last P [] ys all = all
all_last P (x ∷ xs) ys all = all_last P xs ys all.1

-- a state of the stations of what was opened
pub record IsStateOf (opened : Opened) (s : State) : Type 0 where
  pub state : IsState s
  pub stations : length s.stations ≡ opened.stations

pub has_each : (opened : Opened) (s : State) (e : Entry) → IsStateOf opened s → IsOfStation opened e → HasStation s e.station
has_each opened s e is of = has_station s e.station is.state of.0 (omega (arith, of.1, is.stations))

pub state_step : (opened : Opened) (s : State) (e : Entry) → IsStateOf opened s → IsOfStation opened e → IsStateOf opened (step s e.station e.command).0
state_step opened s e is of =
    let stepped = is_stepped s e.station e.command is.state (has_each opened s e is of) in
    record { state = stepped.state; stations = stepped.stations ∙ is.stations }

pub state_after : (opened : Opened) (s : State) (es : List Entry) → IsStateOf opened s → AllByRecursion (IsOfStation opened) es → IsStateOf opened (after s es)
state_after opened s [] is all = is
state_after opened s (e ∷ es) is all = state_after opened (step s e.station e.command).0 es (state_step opened s e is all.0) all.1

pub state_start : (opened : Opened) (journal : List Entry) → IsLegalHistory opened journal → IsStateOf opened (start opened)
state_start opened journal h = record { state = start_is opened h.few; stations = length-replicate opened.stations new_station }

stays_after : (opened : Opened) (s : State) (es : List Entry) (station table number : ℕ) (row : Row) → IsStateOf opened s → AllByRecursion (IsOfStation opened) es → AreOfOthers station es
    → HasRecordLocked s station table number → record_at s table number ≡ Some row → (record_at (after s es) table number ≡ Some row) × HasRecordLocked (after s es) station table number
stays_after opened s [] station table number row is all others has there = (there, has)
stays_after opened s (e ∷ es) station table number row is all others has there =
    stays_after opened (step s e.station e.command).0 es station table number row (state_step opened s e is all.0) all.1 others.1
    (leaves_the_lock s e.station e.command station table number others.0 has)
    (leaves_the_record s e.station e.command is.state (has_each opened s e is all.0) station table number row others.0 has there)

pub stays_while_locked : (opened : Opened) (before between : List Entry) → StaysWhileLocked opened before between
stays_while_locked opened before between station table number row h others has there =
    let all_before = all_first (IsOfStation opened) before between h.of_stations in
    let all_between = all_last (IsOfStation opened) before between h.of_stations in
    let now = state_after opened (start opened) before (state_start opened (before ++ between) h) all_before in
    let P : State → Type 0 = λ t. (record_at t table number ≡ Some row) × HasRecordLocked t station table number in
    subst P (sym (after-append (start opened) before between)) (stays_after opened (replay opened before) between station table number row now all_between others has there)
