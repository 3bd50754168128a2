-- Each command of another station leaves a locked record, its lock, and a locked table.
use Rattle.std.proofs.Common.{◌≡◌, ◌≢◌, ◌⊎◌, inl, inr, ℕ, zero, suc, ◌+◌, ◌-◌, ◌≤◌, List, [], ◌∷◌, Option, Some, Result, Ok, Err, refl, sym, ap, subst, ◌∙◌, arith}
use Rattle.std.specs.Prelude.{IfOk, slice_get, nat_lt}
use Rattle.std.proofs.lemmas.Bool.{cases_eq}
use Rattle.std.proofs.lemmas.Option.{same_Some}
use Rattle.dbf_image.specs.declared.format.TheConstants.{MAX_RECORDS}
use Rattle.dbf_image.specs.Table.{Row, blank_row}
use Rattle.table_core.specs.declared.cursor.Cursor.{Cursor}
use Rattle.table_core.specs.declared.refusal.Refusal.{Refusal}
use Rattle.table_core.specs.declared.refusal.Refusal.TheVariants.{TableFull}
use Rattle.table_core.specs.Content.{Content, record_count}
use Rattle.table_core.specs.Cursors.{IsCursorPlace}
use Rattle.table_core.specs.EditValue.{EditValue}
use Rattle.table_core.specs.EditValue as edit_of
use Rattle.table_core.specs.Edits.{edited, with_blank}
use Rattle.table_core.specs.Laws.Outcomes.{of_granted}
use Rattle.table_core.specs.Moves.{at_record}
use Rattle.catalogue_core.specs.declared.answer.Answer.{Answer}
use Rattle.catalogue_core.specs.declared.area.Area.{Area}
use Rattle.catalogue_core.specs.declared.command.Command.{Command}
use Rattle.catalogue_core.specs.declared.command.Command.TheVariants.{AppendBlank, Replace, Memo, Delete, Recall, Pack, IndexOn}
use Rattle.catalogue_core.specs.State.{State, area_of, table_at, table_of, HasStation, IsState}
use Rattle.catalogue_core.specs.Stays.{table_now, record_at, HasRecordLocked, HasTableLocked, IsExclusiveAt, LeavesTheRecord, LeavesTheTable, MeetsNoExclusiveUse}
use Rattle.catalogue_core.specs.Step.{Outcome, outcome, settled}
use Rattle.catalogue_core.proofs.AreaLaws.{current_index}
use Rattle.catalogue_core.proofs.EditSteps.{SameTables, IsEdit, MakesBy, MayWriteAt, MayAppend, IsOnly, SameTable, DoesTo, does_to, put_cases}
use Rattle.catalogue_core.proofs.LockedLaws.{locked_open, no_exclusive, cannot_write, cannot_append}
use Rattle.catalogue_core.proofs.RecordLaws.{get_set_other, get_append, IsRowSet, replace_sets, memo_sets, delete_sets, recall_sets}
use Rattle.catalogue_core.proofs.KeptLaws.{true_false}

-- what follows for all that is not refused
pub ok_then : {Y : Type 0} (P Q : Y → Type 0) (r : Result Y Refusal) → IfOk r P → ((y : Y) → P y → Q y) → IfOk r Q
ok_then P Q (Ok y) holds does = does y holds
ok_then P Q (Err refusal) holds does = tt

pub ok_given : {Y : Type 0} (P : Y → Type 0) (r : Result Y Refusal) (y : Y) → r ≡ Ok y → IfOk r P → P y
ok_given {Y} P r y e holds = let R : Result Y Refusal → Type 0 = λ x. IfOk x P in subst R e holds

-- of an outcome where it settles
pub settled_as : (Q : State → Type 0) (s : State) (o : Outcome) → Q s → IfOk o (λ end. Q end.0) → Q (settled s o).0
settled_as Q s (Ok end) was now = now
settled_as Q s (Err refusal) was now = was

-- ---- the record

-- what is asked of a step: the record is there still
abbrev Stays : ℕ → ℕ → Row → State × Answer → Type 0
Stays table number row end = record_at end.0 table number ≡ Some row

same_stays : (s : State) (table number : ℕ) (row : Row) → record_at s table number ≡ Some row → (end : State × Answer) → SameTables s end → Stays table number row end
same_stays s table number row there end same = ap (λ (tables : List Content). slice_get (table_at tables table).table.rows (number - 1)) same ∙ there

-- an edit keeps the record, where it keeps it in the table that it edits
pub edit_stays : (s : State) (other table number : ℕ) (row : Row) (May : Area → Type 0) (Makes : Area → Content × Cursor → Type 0) → IsState s → 1 ≤ table → record_at s table number ≡ Some row
    → ((area : Area) (made : Content × Cursor) → area_of s other ≡ Some area → May area → Makes area made → area.table ≡ table → slice_get (table_of s area).table.rows (number - 1) ≡ Some row → slice_get made.0.table.rows (number - 1) ≡ Some row)
    → (end : State × Answer) → IsEdit s other May Makes end → Stays table number row end
edit_stays s other table number row May Makes ok counted there keeps end edit =
    let area_is = ok.areas (other - 1) (current_index s other) edit.area edit.here in
    let rows : List Content → Option Row = λ tables. slice_get (table_at tables table).table.rows (number - 1) in
    ap rows edit.tables ∙ (elim (put_cases s.tables edit.area.table table edit.made.0 area_is.counted area_is.inside) [
      | inl here ↦
          let same : edit.area.table ≡ table = omega (arith, here.0, counted, area_is.counted) in
          let was : slice_get (table_of s edit.area).table.rows (number - 1) ≡ Some row = ap (λ (t : ℕ). slice_get (table_at s.tables t).table.rows (number - 1)) same ∙ there in
          ap (λ (c : Content). slice_get c.table.rows (number - 1)) here.1 ∙ keeps edit.area edit.made edit.here edit.may edit.edit same was
      | inr away ↦ ap (λ (c : Content). slice_get c.table.rows (number - 1)) away.1 ∙ there
    ])

-- a lock on the record of this place, or on the table
place_locked : (s : State) (station table number n : ℕ) → 1 ≤ n → n - 1 ≡ number - 1 → HasRecordLocked s station table number → HasRecordLocked s station table n
place_locked s station table zero n counted same (inl held) = inr held
place_locked s station table zero n counted same (inr held) = inr held
place_locked s station table (suc number) n counted same locked =
    let e : suc number ≡ n = omega (arith, counted, same) in
    let P : ℕ → Type 0 = λ m. HasRecordLocked s station table m in
    subst P e locked

-- a cursor's record counts from 1
pub at_counted : (content : Content) (o : Option ℕ) (number : ℕ) → IsCursorPlace content o → o ≡ Some number → 1 ≤ number
at_counted content o number at e = let P : Option ℕ → Type 0 = IsCursorPlace content in (subst P e at).0

-- a change of one record
change_stays : (s : State) (other station table number : ℕ) (row : Row) (by : EditValue) → IsState s → HasStation s other → other ≢ station → HasRecordLocked s station table number → record_at s table number ≡ Some row
    → ((content : Content) (cursor : Cursor) → IfOk (edited content cursor by) (IsRowSet content cursor by))
    → (end : State × Answer) → IsEdit s other (MayWriteAt s other) (MakesBy s by) end → Stays table number row end
change_stays s other station table number row by ok has differ locked there sets end edit =
    let open_here = locked_open s station table number ok locked in
    let counted : 1 ≤ table = (let P : ℕ → Type 0 = λ t. 1 ≤ t in subst P open_here.1.3 (ok.areas (station - 1) open_here.1.0 open_here.1.1 open_here.1.2).counted) in
    edit_stays s other table number row (MayWriteAt s other) (MakesBy s by) ok counted there (λ area made is may makes same was.
    let set = ok_given (IsRowSet (table_of s area) area.cursor by) (edited (table_of s area) area.cursor by) made makes (sets (table_of s area) area.cursor) in
    let at : may.0 ≡ set.number = same_Some may.0 set.number (sym may.1 ∙ set.at) in
    let one : 1 ≤ may.0 = at_counted (table_of s area) area.cursor.at may.0 (ok.areas (other - 1) (current_index s other) area is).cursor.place may.1 in
    elim (cases_eq (number - 1) (may.0 - 1)) [
      | inl here ↦ absurd (cannot_write s other station table may.0 area ok has differ (place_locked s station table number may.0 one (sym here) locked) is same may.2)
      | inr away ↦
          ap (λ (rows : List Row). slice_get rows (number - 1)) set.rows
          ∙ get_set_other (table_of s area).table.rows (set.number - 1) (number - 1) set.row (λ e. away (e ∙ ap (λ (n : ℕ). n - 1) (sym at)))
          ∙ was
    ]) end edit

-- a last record more
pub append_keeps : (content : Content) (cursor : Cursor) (made : Content × Cursor) (i : ℕ) (row : Row) → edited content cursor edit_of.AppendBlank ≡ Ok made → slice_get content.table.rows i ≡ Some row → slice_get made.0.table.rows i ≡ Some row
append_keeps content cursor made i row makes was =
    let P : Content × Cursor → Type 0 = λ e. slice_get e.0.table.rows i ≡ Some row in
    ok_given P (edited content cursor edit_of.AppendBlank) made makes
    (of_granted P (nat_lt (record_count content) MAX_RECORDS) TableFull (Ok (with_blank content, at_record cursor (record_count content + 1))) (λ _. get_append content.table.rows (blank_row content.table.schema ∷ []) i row was))

-- the station has the table open: it counts from 1, and no other has it open exclusively
table_counted : (s : State) (station table number : ℕ) → IsState s → HasRecordLocked s station table number → 1 ≤ table
table_counted s station table number ok locked =
    let open_here = locked_open s station table number ok locked in
    let P : ℕ → Type 0 = λ t. 1 ≤ t in
    subst P open_here.1.3 (ok.areas (station - 1) open_here.1.0 open_here.1.1 open_here.1.2).counted

not_only : (s : State) (other station table number : ℕ) → IsState s → HasStation s other → other ≢ station → HasRecordLocked s station table number
    → (area : Area) → area_of s other ≡ Some area → IsOnly area → area.table ≡ table → ⊥
not_only s other station table number ok has differ locked area is only same =
    true_false (sym only ∙ no_exclusive s other station table number (current_index s other) area ok has differ locked is same)

-- each command of another station
record_stays : (s : State) (other : ℕ) (command : Command) (station table number : ℕ) (row : Row) → IsState s → HasStation s other → other ≢ station → HasRecordLocked s station table number → record_at s table number ≡ Some row
    → (end : State × Answer) → DoesTo s other command end → Stays table number row end
record_stays s other AppendBlank station table number row ok has differ locked there end does =
    edit_stays s other table number row (MayAppend s other) (MakesBy s edit_of.AppendBlank) ok (table_counted s station table number ok locked) there
    (λ area made _ _ makes _ was. append_keeps (table_of s area) area.cursor made (number - 1) row makes was) end does
record_stays s other (Replace name value) station table number row ok has differ locked there end does =
    change_stays s other station table number row (edit_of.Replace name value) ok has differ locked there (λ content cursor. replace_sets content cursor name value) end does
record_stays s other (Memo name text) station table number row ok has differ locked there end does =
    change_stays s other station table number row (edit_of.Memo name text) ok has differ locked there (λ content cursor. memo_sets content cursor name text) end does
record_stays s other Delete station table number row ok has differ locked there end does = change_stays s other station table number row edit_of.Delete ok has differ locked there delete_sets end does
record_stays s other Recall station table number row ok has differ locked there end does = change_stays s other station table number row edit_of.Recall ok has differ locked there recall_sets end does
record_stays s other Pack station table number row ok has differ locked there end does =
    edit_stays s other table number row IsOnly (MakesBy s edit_of.Pack) ok (table_counted s station table number ok locked) there
    (λ area _ is only _ same _. absurd (not_only s other station table number ok has differ locked area is only same)) end does
record_stays s other (IndexOn text name) station table number row ok has differ locked there end does =
    edit_stays s other table number row IsOnly (SameTable s) ok (table_counted s station table number ok locked) there
    (λ area _ is only _ same _. absurd (not_only s other station table number ok has differ locked area is only same)) end does
record_stays s other _ station table number row ok has differ locked there end does = same_stays s table number row there end does

pub leaves_the_record : (s : State) (other : ℕ) (command : Command) → IsState s → HasStation s other → LeavesTheRecord s other command
leaves_the_record s other command ok has station table number row differ locked there =
    settled_as (λ t. record_at t table number ≡ Some row) s (outcome s other command) there
    (ok_then (DoesTo s other command) (Stays table number row) (outcome s other command) (does_to s other command) (record_stays s other command station table number row ok has differ locked there))

-- ---- the table

-- no other station edits a table that a station has locked, or has open exclusively
no_edit : (s : State) (other station table : ℕ) (area : Area) → IsState s → HasStation s other → other ≢ station → HasTableLocked s station table ⊎ IsExclusiveAt s station table
    → area_of s other ≡ Some area → area.table ≡ table → MayAppend s other area ⊎ (MayWriteAt s other area ⊎ IsOnly area) → ⊥
no_edit s other station table area ok has differ (inl held) is same (inl may) = cannot_append s other station table area ok differ held same may
no_edit s other station table area ok has differ (inl held) is same (inr (inl may)) = cannot_write s other station table may.0 area ok has differ (inr held) is same may.2
no_edit s other station table area ok has differ (inl held) is same (inr (inr only)) = not_only s other station table 0 ok has differ (inr held) area is only same
no_edit s other station table area ok has differ (inr alone) is same may =
    let shared = ok.alone (station - 1) (other - 1) alone.1 (current_index s other) alone.2 area (λ e. differ (omega (arith, e, has.counted, alone.0))) alone.3 is (alone.4 ∙ sym same) in
    true_false (sym alone.5 ∙ shared)

-- an edit of another table
edit_away : (s : State) (other table : ℕ) (May : Area → Type 0) (Makes : Area → Content × Cursor → Type 0) → IsState s → ((area : Area) → area_of s other ≡ Some area → area.table ≡ table → May area → ⊥) → 1 ≤ table
    → (end : State × Answer) → IsEdit s other May Makes end → table_now end.0 table ≡ table_now s table
edit_away s other table May Makes ok none counted end edit =
    let area_is = ok.areas (other - 1) (current_index s other) edit.area edit.here in
    ap (λ (tables : List Content). (table_at tables table).table) edit.tables ∙ (elim (put_cases s.tables edit.area.table table edit.made.0 area_is.counted area_is.inside) [
      | inl here ↦ absurd (none edit.area edit.here (omega (arith, here.0, counted, area_is.counted)) edit.may)
      | inr away ↦ ap (λ (c : Content). c.table) away.1
    ])

exclusive_counted : (s : State) (station table : ℕ) → IsState s → HasTableLocked s station table ⊎ IsExclusiveAt s station table → 1 ≤ table
exclusive_counted s station table ok (inl held) = table_counted s station table 0 ok (inr held)
exclusive_counted s station table ok (inr alone) = let P : ℕ → Type 0 = λ t. 1 ≤ t in subst P alone.4 (ok.areas (station - 1) alone.1 alone.2 alone.3).counted

table_stays : (s : State) (other : ℕ) (command : Command) (station table : ℕ) → IsState s → HasStation s other → other ≢ station → HasTableLocked s station table ⊎ IsExclusiveAt s station table
    → (end : State × Answer) → DoesTo s other command end → table_now end.0 table ≡ table_now s table
table_stays s other AppendBlank station table ok has differ alone end does =
    edit_away s other table (MayAppend s other) (MakesBy s edit_of.AppendBlank) ok (λ area is same may. no_edit s other station table area ok has differ alone is same (inl may)) (exclusive_counted s station table ok alone) end does
table_stays s other (Replace name value) station table ok has differ alone end does =
    edit_away s other table (MayWriteAt s other) (MakesBy s (edit_of.Replace name value)) ok (λ area is same may. no_edit s other station table area ok has differ alone is same (inr (inl may)))
    (exclusive_counted s station table ok alone) end does
table_stays s other (Memo name text) station table ok has differ alone end does =
    edit_away s other table (MayWriteAt s other) (MakesBy s (edit_of.Memo name text)) ok (λ area is same may. no_edit s other station table area ok has differ alone is same (inr (inl may)))
    (exclusive_counted s station table ok alone) end does
table_stays s other Delete station table ok has differ alone end does =
    edit_away s other table (MayWriteAt s other) (MakesBy s edit_of.Delete) ok (λ area is same may. no_edit s other station table area ok has differ alone is same (inr (inl may)))
    (exclusive_counted s station table ok alone) end does
table_stays s other Recall station table ok has differ alone end does =
    edit_away s other table (MayWriteAt s other) (MakesBy s edit_of.Recall) ok (λ area is same may. no_edit s other station table area ok has differ alone is same (inr (inl may)))
    (exclusive_counted s station table ok alone) end does
table_stays s other Pack station table ok has differ alone end does =
    edit_away s other table IsOnly (MakesBy s edit_of.Pack) ok (λ area is same may. no_edit s other station table area ok has differ alone is same (inr (inr may))) (exclusive_counted s station table ok alone) end does
table_stays s other (IndexOn text name) station table ok has differ alone end does =
    edit_away s other table IsOnly (SameTable s) ok (λ area is same may. no_edit s other station table area ok has differ alone is same (inr (inr may))) (exclusive_counted s station table ok alone) end does
table_stays s other _ station table ok has differ alone end does = ap (λ (tables : List Content). (table_at tables table).table) does

pub leaves_the_table : (s : State) (other : ℕ) (command : Command) → IsState s → HasStation s other → LeavesTheTable s other command
leaves_the_table s other command ok has station table differ alone =
    settled_as (λ t. table_now t table ≡ table_now s table) s (outcome s other command) refl
    (ok_then (DoesTo s other command) (λ end. table_now end.0 table ≡ table_now s table) (outcome s other command) (does_to s other command) (table_stays s other command station table ok has differ alone))

pub meets_none : (s : State) (other : ℕ) → IsState s → HasStation s other → MeetsNoExclusiveUse s other
meets_none s other ok has station table number differ locked only =
    true_false (sym only.5 ∙ no_exclusive s other station table number only.1 only.2 ok has differ locked only.3 only.4)
