-- A cell is what was put there last, under the number that its record has by then.
use Rattle.std.proofs.Common.{◌≡◌, ◌≢◌, ◌⊎◌, inl, inr, ℕ, ◌+◌, ◌-◌, ◌≤◌, Bool, true, false, cond, ◌&&◌, ◌==◌, List, [], ◌∷◌, ◌++◌, length, take, slice_set, Option, Some, None, Ok, Err, refl, sym, ap, subst, ◌∙◌, arith}
use Rattle.std.specs.Prelude.{IfOk, IfSome, IsSome, slice_get}
use Rattle.std.specs.List.{AllByRecursion}
use Rattle.std.specs.Option.{option_and_then}
use Rattle.std.proofs.lemmas.Bool.{cases_eq}
use Rattle.std.proofs.lemmas.Bool.Decides.{nat_tests}
use Rattle.std.proofs.lemmas.Option.{IfSome_then, get_or_from_slice_get}
use Rattle.dbf_fields.specs.Cell.{stored}
use Rattle.dbf_image.specs.Table.{Row, Table, row_at, blank_row, kept_rows}
use Rattle.table_core.specs.declared.cursor.Cursor.{Cursor}
use Rattle.table_core.specs.Content.{Content}
use Rattle.table_core.specs.EditValue.{EditValue}
use Rattle.table_core.specs.EditValue as edit_of
use Rattle.table_core.specs.declared.refusal.Refusal.{Refusal}
use Rattle.table_core.specs.Edits.{edited, field_at}
use Rattle.table_core.specs.Shown.{is_marked}
use Rattle.catalogue_core.specs.declared.answer.Answer.{Answer}
use Rattle.catalogue_core.specs.declared.answer.Answer.TheVariants.{Done, Refused}
use Rattle.catalogue_core.specs.declared.area.Area.{Area}
use Rattle.catalogue_core.specs.declared.command.Command.{Command}
use Rattle.catalogue_core.specs.declared.command.Command.TheVariants.{AppendBlank, Replace, Memo, Delete, Recall, Pack, IndexOn}
use Rattle.catalogue_core.specs.declared.entry.Entry.{Entry}
use Rattle.catalogue_core.specs.Replay.{Opened, after, replay, start, entry, LegalFrom, IsOfStation}
use Rattle.catalogue_core.specs.State.{State, area_of, has_open, table_at, table_of, IsState}
use Rattle.catalogue_core.specs.Stays.{record_at, table_now}
use Rattle.catalogue_core.specs.Step.{Outcome, outcome, settled, step}
use Rattle.catalogue_core.specs.Updates.{cell_now, is_pack, packs, number_packed, number_then, number_at_end, Deletes, KeepsWhatWas, NoneOf, PutsSomeCell, StaysUntilDeleted}
use Rattle.catalogue_core.proofs.AreaLaws.{current_index}
use Rattle.catalogue_core.proofs.EditSteps.{IsEdit, MakesBy, MayWriteAt, MayAppend, IsOnly, SameTable, DoesTo, does_to, put_cases}
use Rattle.catalogue_core.proofs.LeftLaws.{append_keeps, at_counted, edit_stays, ok_given}
use Rattle.catalogue_core.proofs.LeftLocks.{IsStateOf, after-append, all_first, all_last, state_step, state_after, state_start}
use Rattle.catalogue_core.proofs.RecordLaws.{get_kept, get_set_other, get_set_same, IsRowSet, WritesRow, replace_sets, memo_sets, delete_sets, recall_sets}

-- ---- what becomes of a record in a step

-- what a command writes in the place of the record of a number
abbrev Writes : Content → Command → ℕ → Row → Type 0
Writes content (Replace name value) number row = WritesRow content (edit_of.Replace name value) number row
Writes content (Memo name text) number row = WritesRow content (edit_of.Memo name text) number row
Writes content Delete number row = WritesRow content edit_of.Delete number row
Writes content Recall number row = WritesRow content edit_of.Recall number row
Writes content command number row = ⊥

-- the record was written
record IsWritten (s : State) (station : ℕ) (command : Command) (answer : Answer) (table number : ℕ) (end : State) : Type 0 where
  ok : answer ≡ Done
  area : Area
  here : area_of s station ≡ Some area
  in_table : area.table ≡ table
  at : area.cursor.at ≡ Some number
  row : Row
  writes : Writes (table_of s area) command number row
  now : record_at end table number ≡ Some row

-- under its number then a record is as it was, or it was written
abbrev IsKeptOrWritten : State → ℕ → Command → Answer → ℕ → ℕ → Row → State → ℕ → Type 0
IsKeptOrWritten s station command answer table number row end n = (record_at end table n ≡ Some row) ⊎ ((n ≡ number) × IsWritten s station command answer table number end)

abbrev Becomes : State → ℕ → Command → Answer → ℕ → ℕ → Row → State → Type 0
Becomes s station command answer table number row end = IfSome (number_then s (entry station command answer) table number) (IsKeptOrWritten s station command answer table number row end)

row_there : (content : Content) (number : ℕ) (row : Row) → slice_get content.table.rows (number - 1) ≡ Some row → row_at content.table number ≡ row
row_there content number row there = get_or_from_slice_get content.table.rows (number - 1) row (blank_row content.table.schema) there

row_in : (s : State) (area : Area) (table number : ℕ) (row : Row) → area.table ≡ table → record_at s table number ≡ Some row → slice_get (table_of s area).table.rows (number - 1) ≡ Some row
row_in s area table number row same there = ap (λ (t : ℕ). slice_get (table_at s.tables t).table.rows (number - 1)) same ∙ there

-- a change of one record
written_or_kept : (s : State) (station : ℕ) (command : Command) (answer : Answer) (table number : ℕ) (row : Row) (by : EditValue) → IsState s → 1 ≤ table → 1 ≤ number → record_at s table number ≡ Some row
    → ((content : Content) (cursor : Cursor) → IfOk (edited content cursor by) (IsRowSet content cursor by))
    → ((content : Content) (n : ℕ) (now : Row) → WritesRow content by n now → Writes content command n now)
    → (end : State × Answer) → answer ≡ end.1 → IsEdit s station (MayWriteAt s station) (MakesBy s by) end → IsKeptOrWritten s station command answer table number row end.0 number
written_or_kept s station command answer table number row by ok table_counted counted there sets writes end answered edit =
    let area : Area = edit.area in
    let area_is = ok.areas (station - 1) (current_index s station) area edit.here in
    let set = ok_given (IsRowSet (table_of s area) area.cursor by) (edited (table_of s area) area.cursor by) edit.made edit.edit (sets (table_of s area) area.cursor) in
    let one : 1 ≤ set.number = at_counted (table_of s area) area.cursor.at set.number area_is.cursor.place set.at in
    let rows : List Content → Option Row = λ tables. slice_get (table_at tables table).table.rows (number - 1) in
    elim (put_cases s.tables area.table table edit.made.0 area_is.counted area_is.inside) [
      | inr away ↦ inl (ap rows edit.tables ∙ ap (λ (c : Content). slice_get c.table.rows (number - 1)) away.1 ∙ there)
      | inl here ↦
          let same : area.table ≡ table = omega (arith, here.0, table_counted, area_is.counted) in
          let was : slice_get (table_of s area).table.rows (number - 1) ≡ Some row = row_in s area table number row same there in
          let now : record_at end.0 table number ≡ slice_get (slice_set (table_of s area).table.rows (set.number - 1) set.row) (number - 1) =
          ap rows edit.tables ∙ ap (λ (c : Content). slice_get c.table.rows (number - 1)) here.1 ∙ ap (λ (l : List Row). slice_get l (number - 1)) set.rows in
          elim (cases_eq (number - 1) (set.number - 1)) [
            | inr other ↦ inl (now ∙ get_set_other (table_of s area).table.rows (set.number - 1) (number - 1) set.row other ∙ was)
            | inl place ↦
                let number_is : set.number ≡ number = omega (arith, place, one, counted) in
                let P : ℕ → Type 0 = λ n. WritesRow (table_of s area) by n set.row in
                inr (
                  refl,
                  record {
                    ok = answered ∙ edit.answer;
                    area = area;
                    here = edit.here;
                    in_table = same;
                    at = set.at ∙ ap (λ (n : ℕ). Some n) number_is;
                    row = set.row;
                    writes = writes (table_of s area) number set.row (subst P number_is set.writes);
                    now = now ∙ ap (λ (i : ℕ). slice_get (slice_set (table_of s area).table.rows i set.row) (number - 1)) (sym place)
                        ∙ get_set_same (table_of s area).table.rows (number - 1) row set.row was;
                  },
                )
          ]
    ]

-- PACK
same_number : (a b : ℕ) → (a == b) ≡ true → a ≡ b
same_number a b e = grind (arith, nat_tests)

other_number : (a b : ℕ) → (a == b) ≡ false → a ≢ b
other_number a b e = grind (arith, nat_tests)

one_less : (m : ℕ) → m + 1 - 1 ≡ m
one_less m = omega arith

packed_rows : (content : Content) (cursor : Cursor) (made : Content × Cursor) → edited content cursor edit_of.Pack ≡ Ok made → made.0.table.rows ≡ kept_rows content.table.rows
packed_rows content cursor made makes = let P : Content × Cursor → Type 0 = λ e. e.0.table.rows ≡ kept_rows content.table.rows in ok_given P (edited content cursor edit_of.Pack) made makes refl

-- a record that is there has its new number, or it is marked
packed_record : (end : State) (content : Content) (table number : ℕ) (row : Row) → slice_get content.table.rows (number - 1) ≡ Some row → (table_now end table).rows ≡ kept_rows content.table.rows
    → IfSome (number_packed content number) (λ n. record_at end table n ≡ Some row)
packed_record end content table number row there rows =
    let old : row_at content.table number ≡ row = row_there content number row there in
    by (row_at content.table number).deleted (ap (λ (r : Row). r.deleted) old)
  where
    by : (b : Bool) → b ≡ row.deleted → IfSome (cond b None (Some (length (kept_rows (take (number - 1) content.table.rows)) + 1))) (λ n. record_at end table n ≡ Some row)
    by true e = tt
    by false e =
        ap (slice_get (table_now end table).rows) (one_less (length (kept_rows (take (number - 1) content.table.rows))))
        ∙ ap (λ (l : List Row). slice_get l (length (kept_rows (take (number - 1) content.table.rows)))) rows
        ∙ get_kept content.table.rows (number - 1) row there (sym e)

packed_by : (s : State) (station table number : ℕ) (row : Row) → IsState s → 1 ≤ table → record_at s table number ≡ Some row
    → (end : State × Answer) → IsEdit s station IsOnly (MakesBy s edit_of.Pack) end → IfSome (number_then s (entry station Pack Done) table number) (λ n. record_at end.0 table n ≡ Some row)
packed_by s station table number row ok table_counted there end edit =
    let area : Area = edit.area in
    let area_is = ok.areas (station - 1) (current_index s station) area edit.here in
    let Q : Option Area → Type 0 = λ o. IfSome (cond (has_open table o) (number_packed (table_at s.tables table) number) (Some number)) (λ n. record_at end.0 table n ≡ Some row) in
    let at : table_now end.0 table ≡ (table_at (slice_set s.tables (area.table - 1) edit.made.0) table).table = ap (λ (tables : List Content). (table_at tables table).table) edit.tables in
    let rows = packed_rows (table_of s area) area.cursor edit.made edit.edit in
    subst Q (sym edit.here) (by area edit.made.0 area_is.counted at rows (put_cases s.tables area.table table edit.made.0 area_is.counted area_is.inside) (area.table == table) refl)
  where
    by : (area : Area) (made : Content) → 1 ≤ area.table → table_now end.0 table ≡ (table_at (slice_set s.tables (area.table - 1) made) table).table → made.table.rows ≡ kept_rows (table_of s area).table.rows
        → ((table - 1 ≡ area.table - 1) × (table_at (slice_set s.tables (area.table - 1) made) table ≡ made)) ⊎ ((table - 1 ≢ area.table - 1) × (table_at (slice_set s.tables (area.table - 1) made) table ≡ table_at s.tables table))
        → (b : Bool) → (area.table == table) ≡ b → IfSome (cond b (number_packed (table_at s.tables table) number) (Some number)) (λ n. record_at end.0 table n ≡ Some row)
    by area made counted at rows (inl here) true e =
        let same : area.table ≡ table = same_number area.table table e in
        packed_record end.0 (table_at s.tables table) table number row there
        (ap (λ (t : Table). t.rows) at ∙ ap (λ (c : Content). c.table.rows) here.1 ∙ rows ∙ ap (λ (t : ℕ). kept_rows (table_at s.tables t).table.rows) same)
    by area made counted at rows (inl here) false e = absurd (other_number area.table table e (omega (arith, here.0, counted, table_counted)))
    by area made counted at rows (inr away) true e = absurd (away.0 (ap (λ (t : ℕ). t - 1) (sym (same_number area.table table e))))
    by area made counted at rows (inr away) false e =
        ap (λ (t : Table). slice_get t.rows (number - 1)) (at ∙ ap (λ (c : Content). c.table) away.1) ∙ there

-- each command that is not refused
becomes : (s : State) (station : ℕ) (command : Command) (answer : Answer) (table number : ℕ) (row : Row) → IsState s → 1 ≤ table → 1 ≤ number → record_at s table number ≡ Some row
    → (end : State × Answer) → answer ≡ end.1 → DoesTo s station command end → Becomes s station command answer table number row end.0
becomes s station AppendBlank answer table number row ok table_counted counted there end same does =
    inl (edit_stays s station table number row (MayAppend s station) (MakesBy s edit_of.AppendBlank) ok table_counted there
    (λ area made _ _ makes _ was. append_keeps (table_of s area) area.cursor made (number - 1) row makes was) end does)
becomes s station (Replace name value) answer table number row ok table_counted counted there end same does =
    written_or_kept s station (Replace name value) answer table number row (edit_of.Replace name value) ok table_counted counted there (λ content cursor. replace_sets content cursor name value) (λ _ _ _ w. w) end same does
becomes s station (Memo name text) answer table number row ok table_counted counted there end same does =
    written_or_kept s station (Memo name text) answer table number row (edit_of.Memo name text) ok table_counted counted there (λ content cursor. memo_sets content cursor name text) (λ _ _ _ w. w) end same does
becomes s station Delete answer table number row ok table_counted counted there end same does =
    written_or_kept s station Delete answer table number row edit_of.Delete ok table_counted counted there delete_sets (λ _ _ _ w. w) end same does
becomes s station Recall answer table number row ok table_counted counted there end same does =
    written_or_kept s station Recall answer table number row edit_of.Recall ok table_counted counted there recall_sets (λ _ _ _ w. w) end same does
becomes s station Pack answer table number row ok table_counted counted there end same does =
    let P : Answer → Type 0 = λ a. Becomes s station Pack a table number row end.0 in
    subst P (sym (same ∙ does.answer))
    (IfSome_then (number_then s (entry station Pack Done) table number) (packed_by s station table number row ok table_counted there end does) (λ n at. inl at))
becomes s station (IndexOn text name) answer table number row ok table_counted counted there end same does =
    inl (edit_stays s station table number row IsOnly (SameTable s) ok table_counted there (λ area made _ _ made_is _ was. ap (λ (t : Table). slice_get t.rows (number - 1)) made_is ∙ was) end does)
becomes s station _ answer table number row ok table_counted counted there end same does =
    inl (ap (λ (tables : List Content). slice_get (table_at tables table).table.rows (number - 1)) does ∙ there)

-- a refused command packs nothing
no_pack : (command : Command) (refusal : Refusal) → is_pack command (Refused refusal) ≡ false
no_pack Pack refusal = refl
no_pack _ refusal = refl

settled_becomes : (s : State) (station : ℕ) (command : Command) (answer : Answer) (table number : ℕ) (row : Row) (o : Outcome) → IsState s → 1 ≤ table → 1 ≤ number → record_at s table number ≡ Some row
    → answer ≡ (settled s o).1 → IfOk o (DoesTo s station command) → Becomes s station command answer table number row (settled s o).0
settled_becomes s station command answer table number row (Ok end) ok table_counted counted there same does = becomes s station command answer table number row ok table_counted counted there end same does
settled_becomes s station command answer table number row (Err refusal) ok table_counted counted there same does =
    let P : Option ℕ → Type 0 = λ o. IfSome o (IsKeptOrWritten s station command answer table number row s) in
    let unpacked : is_pack command answer ≡ false = ap (is_pack command) same ∙ no_pack command refusal in
    let stays : number_then s (entry station command answer) table number ≡ Some number =
    ap (λ (b : Bool). cond (b && has_open table (area_of s station)) (number_packed (table_at s.tables table) number) (Some number)) unpacked in
    subst P (sym stays) (inl there)

-- a record in a step
record_step : (s : State) (e : Entry) (table number : ℕ) (row : Row) → IsState s → e.answer ≡ (step s e.station e.command).1 → 1 ≤ table → 1 ≤ number → record_at s table number ≡ Some row
    → Becomes s e.station e.command e.answer table number row (step s e.station e.command).0
record_step s e table number row ok legal table_counted counted there =
    settled_becomes s e.station e.command e.answer table number row (outcome s e.station e.command) ok table_counted counted there legal (does_to s e.station e.command)

-- ---- a cell in a step

cell_of_row : (o : Option Row) (field : ℕ) (cell : List ℕ) → option_and_then (λ row. slice_get row.cells field) o ≡ Some cell → (row : Row) × (o ≡ Some row) × (slice_get row.cells field ≡ Some cell)
cell_of_row None field cell e = cc
cell_of_row (Some row) field cell e = (row, refl, e)

cell_is : (end : State) (table number field : ℕ) (cell : List ℕ) (row : Row) → record_at end table number ≡ Some row → slice_get row.cells field ≡ Some cell → cell_now end table number field ≡ Some cell
cell_is end table number field cell row at is = ap (option_and_then (λ (r : Row). slice_get r.cells field)) at ∙ is

-- of a record that was written, where nothing was put into the cell
written_cell : (s : State) (station : ℕ) (command : Command) (answer : Answer) (table number field : ℕ) (cell : List ℕ) (row : Row) (end : State) → record_at s table number ≡ Some row → slice_get row.cells field ≡ Some cell
    → ¬ PutsSomeCell field s (entry station command answer) table number → (w : IsWritten s station command answer table number end) → slice_get w.row.cells field ≡ Some cell
written_cell s station (Replace name value) answer table number field cell row end there is none w =
    let old : row_at (table_of s w.area).table number ≡ row = row_there (table_of s w.area) number row (row_in s w.area table number row w.in_table there) in
    elim (cases_eq field w.writes.0) [
      | inl same ↦
          let P : ℕ → Type 0 = λ f. stored (field_at (table_of s w.area) f) value ≡ Ok w.writes.1 in
          absurd (none (
            w.writes.1,
            record {
              ok = w.ok;
              area = w.area;
              here = w.here;
              in_table = w.in_table;
              does = (w.at, w.writes.2 ∙ ap (λ (f : ℕ). Some f) (sym same), subst P (sym same) w.writes.3);
            },
          ))
      | inr differ ↦
          ap (λ (r : Row). slice_get r.cells field) w.writes.4 ∙ get_set_other (row_at (table_of s w.area).table number).cells w.writes.0 field w.writes.1 differ ∙ ap (λ (r : Row). slice_get r.cells field) old ∙ is
    ]
written_cell s station (Memo name text) answer table number field cell row end there is none w =
    let old : row_at (table_of s w.area).table number ≡ row = row_there (table_of s w.area) number row (row_in s w.area table number row w.in_table there) in
    elim (cases_eq field w.writes.0) [
      | inl same ↦
          absurd (none (text, record { ok = w.ok; area = w.area; here = w.here; in_table = w.in_table; does = (w.at, w.writes.1 ∙ ap (λ (f : ℕ). Some f) (sym same), refl) }))
      | inr differ ↦
          ap (λ (r : Row). slice_get r.cells field) w.writes.2 ∙ get_set_other (row_at (table_of s w.area).table number).cells w.writes.0 field text differ ∙ ap (λ (r : Row). slice_get r.cells field) old ∙ is
    ]
written_cell s station Delete answer table number field cell row end there is none w =
    ap (λ (r : Row). slice_get r.cells field) w.writes ∙ ap (λ (r : Row). slice_get r.cells field) (row_there (table_of s w.area) number row (row_in s w.area table number row w.in_table there)) ∙ is
written_cell s station Recall answer table number field cell row end there is none w =
    ap (λ (r : Row). slice_get r.cells field) w.writes ∙ ap (λ (r : Row). slice_get r.cells field) (row_there (table_of s w.area) number row (row_in s w.area table number row w.in_table there)) ∙ is
written_cell s station _ answer table number field cell row end there is none w = absurd w.writes

cell_step : (s : State) (e : Entry) (table number field : ℕ) (cell : List ℕ) → IsState s → e.answer ≡ (step s e.station e.command).1 → 1 ≤ table → 1 ≤ number → cell_now s table number field ≡ Some cell
    → ¬ PutsSomeCell field s e table number → IfSome (number_then s e table number) (λ n. cell_now (step s e.station e.command).0 table n field ≡ Some cell)
cell_step s e table number field cell ok legal table_counted counted there none =
    let row = cell_of_row (record_at s table number) field cell there in
    let end : State = (step s e.station e.command).0 in
    let P : ℕ → Type 0 = λ n. cell_now end table n field ≡ Some cell in
    IfSome_then (number_then s e table number) (record_step s e table number row.0 ok legal table_counted counted row.1) (λ n becomes.
    elim becomes [
      | inl at ↦ cell_is end table n field cell row.0 at row.2
      | inr w ↦ subst P (sym w.0) (cell_is end table number field cell w.1.row w.1.now (written_cell s e.station e.command e.answer table number field cell row.0 end row.1 row.2 none w.1))
    ])

-- ---- the mark in a step

-- the record is there, and it is not marked
abbrev pub IsUnmarked : State → ℕ → ℕ → Type 0
IsUnmarked s table number = (row : Row) × (record_at s table number ≡ Some row) × (row.deleted ≡ false)

written_mark : (s : State) (station : ℕ) (command : Command) (answer : Answer) (table number : ℕ) (row : Row) (end : State) → record_at s table number ≡ Some row → row.deleted ≡ false
    → ¬ Deletes s (entry station command answer) table number → (w : IsWritten s station command answer table number end) → w.row.deleted ≡ false
written_mark s station (Replace name value) answer table number row end there is none w =
    ap (λ (r : Row). r.deleted) w.writes.4 ∙ ap (λ (r : Row). r.deleted) (row_there (table_of s w.area) number row (row_in s w.area table number row w.in_table there)) ∙ is
written_mark s station (Memo name text) answer table number row end there is none w =
    ap (λ (r : Row). r.deleted) w.writes.2 ∙ ap (λ (r : Row). r.deleted) (row_there (table_of s w.area) number row (row_in s w.area table number row w.in_table there)) ∙ is
written_mark s station Delete answer table number row end there is none w =
    absurd (none (record { ok = w.ok; area = w.area; here = w.here; in_table = w.in_table; does = (refl, w.at) }))
written_mark s station Recall answer table number row end there is none w = ap (λ (r : Row). r.deleted) w.writes
written_mark s station _ answer table number row end there is none w = absurd w.writes

mark_step : (s : State) (e : Entry) (table number : ℕ) → IsState s → e.answer ≡ (step s e.station e.command).1 → 1 ≤ table → 1 ≤ number → IsUnmarked s table number
    → ¬ Deletes s e table number → IfSome (number_then s e table number) (λ n. IsUnmarked (step s e.station e.command).0 table n)
mark_step s e table number ok legal table_counted counted there none =
    let end : State = (step s e.station e.command).0 in
    IfSome_then (number_then s e table number) (record_step s e table number there.0 ok legal table_counted counted there.1) (λ n becomes.
    elim becomes [
      | inl at ↦ (there.0, at, there.2)
      | inr w ↦ subst (IsUnmarked end table) (sym w.0) (w.1.row, w.1.now, written_mark s e.station e.command e.answer table number there.0 end there.1 there.2 none w.1)
    ])

-- a record that is not marked has a number after a step
some_number : (s : State) (e : Entry) (table number : ℕ) → IsUnmarked s table number → (n : ℕ) × (number_then s e table number ≡ Some n)
some_number s e table number there = by (packs s e table)
  where
    by : (b : Bool) → (n : ℕ) × (cond b (number_packed (table_at s.tables table) number) (Some number) ≡ Some n)
    by false = (number, refl)
    by true =
        let unmarked : (row_at (table_now s table) number).deleted ≡ false = ap (λ (r : Row). r.deleted) (row_there (table_at s.tables table) number there.0 there.1) ∙ there.2 in
        let n : ℕ = length (kept_rows (take (number - 1) (table_now s table).rows)) + 1 in
        (n, ap (λ (c : Bool). cond c None (Some n)) unmarked)

-- ---- over a history

-- numbers count from 1
counted_packed : (content : Content) (number : ℕ) → IfSome (number_packed content number) (λ n. 1 ≤ n)
counted_packed content number = by (is_marked content (Some number))
  where
    by : (b : Bool) → IfSome (cond b None (Some (length (kept_rows (take (number - 1) content.table.rows)) + 1))) (λ n. 1 ≤ n)
    by true = tt
    by false = omega arith

counted_then : (s : State) (e : Entry) (table number : ℕ) → 1 ≤ number → IfSome (number_then s e table number) (λ n. 1 ≤ n)
counted_then s e table number counted = by (packs s e table)
  where
    by : (b : Bool) → IfSome (cond b (number_packed (table_at s.tables table) number) (Some number)) (λ n. 1 ≤ n)
    by true = counted_packed (table_at s.tables table) number
    by false = counted

-- from the number after an entry on
over : (P Q R T : ℕ → Type 0) (o : Option ℕ) (rest : ℕ → Option ℕ) → IfSome o P → IfSome o Q → IfSome o R → ((n : ℕ) → P n → Q n → R n → IfSome (rest n) T) → IfSome (option_and_then rest o) T
over P Q R T None rest p q r does = tt
over P Q R T (Some n) rest p q r does = does n p q r

pub cells_after : (opened : Opened) (s : State) (es : List Entry) (table number field : ℕ) (cell : List ℕ) → IsStateOf opened s → AllByRecursion (IsOfStation opened) es → LegalFrom s es → 1 ≤ table → 1 ≤ number
    → cell_now s table number field ≡ Some cell → NoneOf (PutsSomeCell field) s es table number → IfSome (number_at_end s es table number) (λ n. cell_now (after s es) table n field ≡ Some cell)
cells_after opened s [] table number field cell is all legal table_counted counted there none = there
cells_after opened s (e ∷ es) table number field cell is all legal table_counted counted there none =
    let next : State = (step s e.station e.command).0 in
    over (λ n. 1 ≤ n) (λ n. cell_now next table n field ≡ Some cell) (λ n. NoneOf (PutsSomeCell field) next es table n) (λ n. cell_now (after next es) table n field ≡ Some cell)
    (number_then s e table number) (number_at_end next es table) (counted_then s e table number counted)
    (cell_step s e table number field cell is.state legal.0 table_counted counted there none.0) none.1
    (λ n one now puts. cells_after opened next es table n field cell (state_step opened s e is all.0) all.1 legal.1 table_counted one now puts)

pub legal_last : (s : State) (xs ys : List Entry) → LegalFrom s (xs ++ ys) → LegalFrom (after s xs) ys
legal_last s [] ys legal = legal
legal_last s (x ∷ xs) ys legal = legal_last (step s x.station x.command).0 xs ys legal.1

pub keeps_what_was : (opened : Opened) (before later : List Entry) → KeepsWhatWas opened before later
keeps_what_was opened before later table number field cell h table_counted counted there none =
    let all_before = all_first (IsOfStation opened) before later h.of_stations in
    let all_later = all_last (IsOfStation opened) before later h.of_stations in
    let now = state_after opened (start opened) before (state_start opened (before ++ later) h) all_before in
    let P : State → Type 0 = λ t. IfSome (number_at_end (replay opened before) later table number) (λ n. cell_now t table n field ≡ Some cell) in
    subst P (sym (after-append (start opened) before later)) (cells_after opened (replay opened before) later table number field cell now all_later (legal_last (start opened) before later h.legal) table_counted counted there none)

-- ---- a record that nobody deletes

some_after : (P : ℕ → Type 0) (o : Option ℕ) (rest : ℕ → Option ℕ) (n : ℕ) → o ≡ Some n → IfSome o P → (P n → IsSome (rest n)) → IsSome (option_and_then rest o)
some_after P None rest n e p does = cc
some_after P (Some m) rest n e p does = let same : m ≡ n = cc in let Q : ℕ → Type 0 = λ k. IsSome (rest k) in subst Q (sym same) (does (subst P same p))

rest_of : (Q : ℕ → Type 0) (o : Option ℕ) (n : ℕ) → o ≡ Some n → IfSome o Q → Q n
rest_of Q None n e q = cc
rest_of Q (Some m) n e q = let same : m ≡ n = cc in subst Q same q

there_after : (opened : Opened) (s : State) (es : List Entry) (table number : ℕ) → IsStateOf opened s → AllByRecursion (IsOfStation opened) es → LegalFrom s es → 1 ≤ table → 1 ≤ number
    → IsUnmarked s table number → NoneOf Deletes s es table number → IsSome (number_at_end s es table number)
there_after opened s [] table number is all legal table_counted counted there none = refl
there_after opened s (e ∷ es) table number is all legal table_counted counted there none =
    let next : State = (step s e.station e.command).0 in
    let n = some_number s e table number there in
    let P : ℕ → Type 0 = λ m. IsUnmarked next table m in
    let R : ℕ → Type 0 = λ m. NoneOf Deletes next es table m in
    let C : ℕ → Type 0 = λ m. 1 ≤ m in
    let one : 1 ≤ n.0 = rest_of C (number_then s e table number) n.0 n.1 (counted_then s e table number counted) in
    let left : R n.0 = rest_of R (number_then s e table number) n.0 n.1 none.1 in
    some_after P (number_then s e table number) (number_at_end next es table) n.0 n.1 (mark_step s e table number is.state legal.0 table_counted counted there none.0)
    (λ unmarked. there_after opened next es table n.0 (state_step opened s e is all.0) all.1 legal.1 table_counted one unmarked left)

pub stays_until_deleted : (opened : Opened) (before later : List Entry) → StaysUntilDeleted opened before later
stays_until_deleted opened before later table number row h table_counted counted there unmarked none =
    let all_before = all_first (IsOfStation opened) before later h.of_stations in
    let all_later = all_last (IsOfStation opened) before later h.of_stations in
    let now = state_after opened (start opened) before (state_start opened (before ++ later) h) all_before in
    there_after opened (replay opened before) later table number now all_later (legal_last (start opened) before later h.legal) table_counted counted (row, there, unmarked) none
