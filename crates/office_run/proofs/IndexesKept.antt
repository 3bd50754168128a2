-- Only INDEX ON changes which indexes a table has, and the name of the one that it makes is new among all indexes.
use Rattle.std.proofs.Common.{◌≡◌, ℕ, ◌-◌, Bool, true, false, eqb, nat_lt, List, [], ◌∷◌, length, map, Option, Some, None, Result, Ok, Err, refl, sym, ap, subst, ◌∙◌, length-set}
use Rattle.std.specs.Prelude.{not}
use Rattle.std.proofs.Math.Seq.{map-set_same}
use Rattle.std.proofs.lemmas.List.{length-map}
use Rattle.key_expr.specs.Expression.{expression_in}
use Rattle.table_core.specs.declared.cursor.Cursor.{Cursor}
use Rattle.table_core.specs.EditValue.{EditValue}
use Rattle.table_core.specs.EditValue as edit_of
use Rattle.table_core.specs.declared.edits.planned.Target.{Target}
use Rattle.table_core.specs.declared.refusal.Refusal.{Refusal}
use Rattle.table_core.specs.CellFaults.{kept}
use Rattle.table_core.specs.Content.{Content, Indexed}
use Rattle.table_core.specs.Edits.{edited, field_at, with_value, with_made_index}
use Rattle.dbf_fields.specs.Cell.{stored}
use Rattle.dbf_fields.specs.declared.format.TheConstants.{MEMO}
use Rattle.dbf_image.specs.Table.{is_memo_text}
use Rattle.table_core.specs.declared.refusal.Refusal.TheVariants.{TypeMismatch, BadText, BadExpression, IndexNameUsed, TooManyIndexes}
use Rattle.table_core.specs.Edits as edits
use Rattle.table_core.specs.Outcomes.{found, granted, passed}
use Rattle.dbf_fields.specs.declared.cell.CellFault.{CellFault}
use Rattle.lock_table.specs.Locks.{Lock}
use Rattle.catalogue_core.specs.declared.answer.Answer.{Answer}
use Rattle.catalogue_core.specs.declared.answer.Answer.TheVariants.{Done}
use Rattle.catalogue_core.specs.declared.area.Area.{Area}
use Rattle.catalogue_core.specs.declared.command.Command.{Command}
use Rattle.catalogue_core.specs.declared.command.Command.TheVariants.{Select, UseTable, CloseTable, Go, Top, Bottom, Skip, Seek, Order, AppendBlank, Replace, Memo, Delete, Recall, Pack, IndexOn, Unlock, UnlockAll, Show, RecordLock, RecordLocks, FileLock, Ask, Bad}
use Rattle.catalogue_core.specs.declared.entry.Entry.{Entry}
use Rattle.catalogue_core.specs.declared.opening.TheConstants.{MAX_INDEXES}
use Rattle.catalogue_core.specs.IndexOn.{is_any_index, index_target}
use Rattle.catalogue_core.specs.Replay.{History, after, start, state_of, names_of}
use Rattle.catalogue_core.specs.State.{State, no_content, table_of, area_of, without_lock}
use Rattle.catalogue_core.specs.Step.{Outcome, outcome, step, settled, lock, with_edit, move, change_record, index_on}
use Rattle.catalogue_core.specs.Tables.{NamedTable}
use Rattle.office_run.proofs.Headings.{Heading, heading, headings, AreNewTables}
use Rattle.office_run.proofs.NewNames.{added}

-- ---- the outcomes of tests in a row

-- the value has the property, or it is refused
abbrev IfGranted : {Y : Type 0} → (Y → Type 0) → Result Y Refusal → Type 0
IfGranted P (Ok y) = P y
IfGranted P (Err refusal) = Unit {0}

if_found : {X Y : Type 0} (P : Y → Type 0) (o : Option X) (refusal : Refusal) (act : X → Result Y Refusal) → ((x : X) → IfGranted P (act x)) → IfGranted P (found o refusal act)
if_found P None refusal act h = tt
if_found P (Some x) refusal act h = h x

if_granted : {Y : Type 0} (P : Y → Type 0) (allowed : Bool) (refusal : Refusal) (outcome : Result Y Refusal) → IfGranted P outcome → IfGranted P (granted allowed refusal outcome)
if_granted P true refusal outcome h = h
if_granted P false refusal outcome h = tt

if_passed : {X Y : Type 0} (Q : X → Type 0) (P : Y → Type 0) (r : Result X Refusal) (act : X → Result Y Refusal) → IfGranted Q r → ((x : X) → Q x → IfGranted P (act x)) → IfGranted P (passed r act)
if_passed Q P (Ok x) act q h = h x q
if_passed Q P (Err refusal) act q h = tt

if_passed_any : {X Y : Type 0} (P : Y → Type 0) (r : Result X Refusal) (act : X → Result Y Refusal) → ((x : X) → IfGranted P (act x)) → IfGranted P (passed r act)
if_passed_any P (Ok x) act h = h x
if_passed_any P (Err refusal) act h = tt

always : {X : Type 0} (r : Result X Refusal) → IfGranted (λ _. Unit {0}) r
always (Ok x) = tt
always (Err refusal) = tt

if_kept : {Y : Type 0} (P : Y → Type 0) (cell : Result (List ℕ) CellFault) (act : List ℕ → Result Y Refusal) → ((bytes : List ℕ) → IfGranted P (act bytes)) → IfGranted P (kept cell act)
if_kept P cell act h = search (if_granted, if_found, h)

-- ---- an edit

-- it has the same indexes
abbrev HasIndexesOf : Content → Content × Cursor → Type 0
HasIndexesOf content e = e.0.indexes ≡ content.indexes

edit_keeps : (content : Content) (cursor : Cursor) (edit : EditValue) → IfGranted (HasIndexesOf content) (edited content cursor edit)
edit_keeps content cursor edit_of.AppendBlank = search (if_granted)
edit_keeps content cursor (edit_of.Replace name value) =
    if_passed (λ (t : Target). Unit {0}) (HasIndexesOf content) (edits.target content cursor name) (λ t. kept (stored (field_at content t.field) value) (λ cell. Ok (with_value content t cell, cursor)))
    (always (edits.target content cursor name)) (λ t _. if_kept (HasIndexesOf content) (stored (field_at content t.field) value) (λ cell. Ok (with_value content t cell, cursor)) (λ cell. refl))
edit_keeps content cursor (edit_of.Memo name text) =
    let act : Target → Result (Content × Cursor) Refusal = λ t. granted (eqb (field_at content t.field).kind MEMO) TypeMismatch (granted (is_memo_text text) BadText (Ok (with_value content t text, cursor))) in
    if_passed (λ (t : Target). Unit {0}) (HasIndexesOf content) (edits.target content cursor name) act (always (edits.target content cursor name)) (λ t _. search (if_granted))
edit_keeps content cursor edit_of.Delete = search (if_found)
edit_keeps content cursor edit_of.Recall = search (if_found)
edit_keeps content cursor edit_of.Pack = refl

-- ---- a command

-- the indexes of each table
abbrev pub indexes_of : List Content → List (List Indexed)
indexes_of tables = map (λ (c : Content). c.indexes) tables

abbrev Keeps : State → State × Answer → Type 0
Keeps s end = indexes_of end.0.tables ≡ indexes_of s.tables

unlock_keeps : (s : State) (station : ℕ) (o : Option Area) → (without_lock s station o).tables ≡ s.tables
unlock_keeps s station None = refl
unlock_keeps s station (Some area) = refl

with_edit_keeps : (s : State) (station : ℕ) (area : Area) (e : Content × Cursor) → HasIndexesOf (table_of s area) e → indexes_of (with_edit s station area e).tables ≡ indexes_of s.tables
with_edit_keeps s station area e h = map-set_same (λ (c : Content). c.indexes) s.tables (area.table - 1) e.0 no_content h

lock_keeps : (free : Bool) (s : State) (locks : List Lock) → Keeps s (lock free s locks)
lock_keeps true s locks = refl
lock_keeps false s locks = refl

close_keeps : (s : State) (station : ℕ) (o : Option Area) → indexes_of (without_lock s station o).tables ≡ indexes_of s.tables
close_keeps s station o = ap indexes_of (unlock_keeps s station o)

edited_keeps : (s : State) (station : ℕ) (area : Area) (by : EditValue) (act : Content × Cursor → Outcome)
    → ((e : Content × Cursor) → HasIndexesOf (table_of s area) e → IfGranted (Keeps s) (act e)) → IfGranted (Keeps s) (passed (edited (table_of s area) area.cursor by) act)
edited_keeps s station area by act h = if_passed (HasIndexesOf (table_of s area)) (Keeps s) (edited (table_of s area) area.cursor by) act (edit_keeps (table_of s area) area.cursor by) h

move_keeps : (s : State) (station : ℕ) (to : Content → Cursor → Result Cursor Refusal) → IfGranted (Keeps s) (move s station to)
move_keeps s station to = search (if_found, if_passed_any)

change_keeps : (s : State) (station : ℕ) (by : EditValue) → IfGranted (Keeps s) (change_record s station by)
change_keeps s station by = search (if_passed_any, edited_keeps, with_edit_keeps)

-- it is another command than INDEX ON
abbrev IsOther : Command → Type 0
IsOther (IndexOn text name) = ⊥
IsOther _ = Unit {0}

command_keeps : (s : State) (station : ℕ) (command : Command) → IsOther command → IfGranted (Keeps s) (outcome s station command)
command_keeps s station (Select number) other = search (if_granted)
command_keeps s station (UseTable name exclusive) other = search (if_found, if_granted, if_passed_any, close_keeps)
command_keeps s station CloseTable other = close_keeps s station (area_of s station)
command_keeps s station (Go number) other = search (move_keeps)
command_keeps s station Top other = search (move_keeps)
command_keeps s station Bottom other = search (move_keeps)
command_keeps s station (Skip steps) other = search (move_keeps)
command_keeps s station (Seek text) other = search (move_keeps)
command_keeps s station (Order number) other = search (move_keeps)
command_keeps s station AppendBlank other = search (if_found, if_granted, edited_keeps, with_edit_keeps)
command_keeps s station (Replace field value) other = change_keeps s station (edit_of.Replace field value)
command_keeps s station (Memo field text) other = change_keeps s station (edit_of.Memo field text)
command_keeps s station Delete other = change_keeps s station edit_of.Delete
command_keeps s station Recall other = change_keeps s station edit_of.Recall
command_keeps s station Pack other = search (if_found, if_granted, edited_keeps, with_edit_keeps)
command_keeps s station (IndexOn text name) other = absurd other
command_keeps s station Unlock other = search (if_found)
command_keeps s station UnlockAll other = refl
command_keeps s station (Show field) other = search (if_found, if_passed_any)
command_keeps s station RecordLock other = search (if_found, lock_keeps)
command_keeps s station (RecordLocks numbers) other = search (if_found, if_granted, lock_keeps)
command_keeps s station FileLock other = search (if_found, lock_keeps)
command_keeps s station (Ask question) other = search (if_found)
command_keeps s station Bad other = tt

-- ---- INDEX ON

-- there are as many tables, and where each name was new at its place, each is
record IsNewStill (s : State) (end : State × Answer) : Type 0 where
  count : length end.0.tables ≡ length s.tables
  new : (names : List (List ℕ)) → AreNewTables [] (headings names s.tables) → AreNewTables [] (headings names end.0.tables)

same_headings : (names : List (List ℕ)) (ts us : List Content) → indexes_of ts ≡ indexes_of us → headings names ts ≡ headings names us
same_headings [] ts us e = refl
same_headings (n ∷ ns) [] [] e = refl
same_headings (n ∷ ns) [] (u ∷ us) e = absurd cc
same_headings (n ∷ ns) (t ∷ ts) [] e = absurd cc
same_headings (n ∷ ns) (t ∷ ts) (u ∷ us) e =
    let first : t.indexes ≡ u.indexes = cc in
    let others : indexes_of ts ≡ indexes_of us = cc in
    let rest = same_headings ns ts us others in
    cc

same_still : (s : State) (o : Outcome) → IfGranted (Keeps s) o → IfGranted (IsNewStill s) o
same_still s (Err refusal) h = tt
same_still s (Ok end) h = record {
  count = sym (length-map end.0.tables (λ (c : Content). c.indexes)) ∙ ap length h ∙ length-map s.tables (λ (c : Content). c.indexes);
  new = λ names was. subst (λ (ts : List Heading). AreNewTables [] ts) (sym (same_headings names end.0.tables s.tables h)) was;
}

-- the name is that of no index, and the table can have one more
if_new : {Y : Type 0} (P : Y → Type 0) (used few : Bool) (index : Indexed) (act : Indexed → Result Y Refusal) → (used ≡ false → few ≡ true → IfGranted P (act index))
    → IfGranted P (passed (granted (not used) IndexNameUsed (granted few TooManyIndexes (Ok index))) act)
if_new P true few index act h = tt
if_new P false true index act h = h refl refl
if_new P false false index act h = tt

index_on_still : (s : State) (station : ℕ) (text name : List ℕ) → IfGranted (IsNewStill s) (index_on s station text name)
index_on_still s station text name =
    if_passed_any (IsNewStill s) (index_target s station name) _ (λ area.
    if_found (IsNewStill s) (expression_in (table_of s area).table.schema text) BadExpression _ (λ e.
    let index : Indexed = record { name = name; expr = e } in
    let act : Indexed → Outcome = λ i. Ok (with_edit s station area (with_made_index (table_of s area) area.cursor i), Done) in
    if_new (IsNewStill s) (is_any_index s.tables name) (nat_lt (length (table_of s area).indexes) MAX_INDEXES) index act (λ none few. record {
      count = length-set s.tables (area.table - 1) _;
      new = λ names was. added [] names s.tables (area.table - 1) index refl none few was;
    })))

outcome_still : (s : State) (station : ℕ) (command : Command) → IfGranted (IsNewStill s) (outcome s station command)
outcome_still s station (IndexOn text name) = index_on_still s station text name
outcome_still s station command = same_still s (outcome s station command) (command_keeps s station command tt)

settled_still : (s : State) (o : Outcome) → IfGranted (IsNewStill s) o → IsNewStill s (settled s o)
settled_still s (Ok end) h = h
settled_still s (Err refusal) h = record { count = refl; new = λ names was. was }

-- ---- a journal

pub after_count : (s : State) (journal : List Entry) → length (after s journal).tables ≡ length s.tables
after_count s [] = refl
after_count s (e ∷ es) = after_count (step s e.station e.command).0 es ∙ (settled_still s (outcome s e.station e.command) (outcome_still s e.station e.command)).count

after_new : (s : State) (journal : List Entry) (names : List (List ℕ)) → AreNewTables [] (headings names s.tables) → AreNewTables [] (headings names (after s journal).tables)
after_new s [] names was = was
after_new s (e ∷ es) names was = after_new (step s e.station e.command).0 es names ((settled_still s (outcome s e.station e.command) (outcome_still s e.station e.command)).new names was)

-- there are as many tables as were opened
pub replay_count : (h : History) → length (state_of h).tables ≡ length h.opened.tables
replay_count h = after_count (start h.opened) h.journal ∙ length-map h.opened.tables (λ (t : NamedTable). t.content)

opened_headings : (ts : List NamedTable) → headings (map (λ (t : NamedTable). t.name) ts) (map (λ (t : NamedTable). t.content) ts) ≡ map heading ts
opened_headings [] = refl
opened_headings (t ∷ ts) = ap (λ (l : List Heading). heading t ∷ l) (opened_headings ts)

-- where each name was new at its place at opening, so is each at the end
pub replay_new : (h : History) → AreNewTables [] (map heading h.opened.tables) → AreNewTables [] (headings (names_of h.opened) (state_of h).tables)
replay_new h opened = after_new (start h.opened) h.journal (names_of h.opened) (subst (λ (ts : List Heading). AreNewTables [] ts) (sym (opened_headings h.opened.tables)) opened)
