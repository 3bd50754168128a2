-- Each record has a cell for each field, in the tables as they are opened and after each command; so a cell that is put is there.
use Rattle.std.proofs.Common.{◌≡◌, inl, inr, ℕ, zero, suc, ◌+◌, ◌-◌, ◌<◌, ◌≤◌, Bool, true, false, cond, not, List, [], ◌∷◌, ◌++◌, length, map, slice_set, slice_index_or, Option, Some, Result, Ok, Err, refl, sym, ap, subst, ◌∙◌, arith}
use Rattle.std.specs.Prelude.{IfOk, IfSome, slice_get, bytes_eq, nat_lt}
use Rattle.std.specs.List.{AllByRecursion, filter}
use Rattle.std.specs.Option.{option_and_then}
use Rattle.std.proofs.lemmas.List.{length-map, length-set}
use Rattle.std.proofs.lemmas.List.Quantifiers.{position-Some}
use Rattle.std.proofs.lemmas.Option.{same_Some, slice_get-get_or}
use Rattle.dbf_fields.specs.declared.cell.CellFault.{CellFault}
use Rattle.dbf_fields.specs.declared.field.Field.{Field}
use Rattle.dbf_fields.specs.Cell.{stored}
use Rattle.dbf_image.specs.declared.format.TheConstants.{MAX_RECORDS}
use Rattle.dbf_image.specs.Table.{Row, Table, AreCells, IsRow, IsTable, blank_cell, blank_row, row_at, row_with_cell}
use Rattle.table_core.specs.declared.cursor.Cursor.{Cursor}
use Rattle.table_core.specs.declared.refusal.Refusal.{Refusal}
use Rattle.table_core.specs.declared.refusal.Refusal.TheVariants.{TableFull}
use Rattle.table_core.specs.Content.{Content, record_count}
use Rattle.table_core.specs.Cursors.{IsCursorPlace}
use Rattle.table_core.specs.EditValue.{EditValue}
use Rattle.table_core.specs.EditValue as edit_of
use Rattle.table_core.specs.Edits.{edited, field_at, field_named, with_blank}
use Rattle.table_core.specs.Laws.Outcomes.{of_granted}
use Rattle.table_core.specs.Moves.{at_record}
use Rattle.catalogue_core.specs.declared.answer.Answer.{Answer}
use Rattle.catalogue_core.specs.declared.answer.Answer.TheVariants.{Done, Refused}
use Rattle.catalogue_core.specs.declared.area.Area.{Area}
use Rattle.catalogue_core.specs.declared.command.Command.{Command}
use Rattle.catalogue_core.specs.declared.command.Command.TheVariants.{AppendBlank, Replace, Memo, Delete, Recall, Pack, IndexOn}
use Rattle.catalogue_core.specs.declared.entry.Entry.{Entry}
use Rattle.catalogue_core.specs.Replay.{Opened, after, replay, start, entry, IsOfStation}
use Rattle.catalogue_core.specs.State.{State, area_of, no_content, table_at, table_of, IsState}
use Rattle.catalogue_core.specs.Stays.{record_at, table_now}
use Rattle.catalogue_core.specs.Step.{Outcome, outcome, settled, step}
use Rattle.catalogue_core.specs.Tables.{NamedTable}
use Rattle.catalogue_core.specs.Updates.{AreTables, KeepsTheLast, NoneOf, PutsAt, PutsCell, PutsSomeCell, cell_now, number_at_end}
use Rattle.catalogue_core.proofs.AreaLaws.{current_index}
use Rattle.catalogue_core.proofs.EditSteps.{IsEdit, MakesBy, MayWriteAt, MayAppend, IsOnly, SameTable, DoesTo, does_to, put_cases}
use Rattle.catalogue_core.proofs.KeptLaws.{some_is}
use Rattle.catalogue_core.proofs.LeftLaws.{at_counted, ok_given, ok_then, settled_as}
use Rattle.catalogue_core.proofs.LeftLocks.{IsStateOf, after-append, all_first, all_last, state_step, state_after, state_start}
use Rattle.catalogue_core.proofs.RecordLaws.{get_last, get_set_same, IsRowSet, WritesRow, replace_sets, memo_sets, delete_sets, recall_sets}
use Rattle.catalogue_core.proofs.ReplayLaws.{all-push}
use Rattle.catalogue_core.proofs.UpdateLaws.{cells_after, legal_last}

-- ---- each record has a cell for each field

abbrev pub Fits : List Field → Row → Type 0
Fits fields row = length row.cells ≡ length fields

abbrev pub AreFit : Table → Type 0
AreFit table = AllByRecursion (Fits table.schema) table.rows

abbrev pub AllFit : List Content → Type 0
AllFit tables = AllByRecursion (λ (c : Content). AreFit c.table) tables

all_set : {X : Type 0} (P : X → Type 0) (xs : List X) (i : ℕ) (y : X) → AllByRecursion P xs → P y → AllByRecursion P (slice_set xs i y)
all_set P [] i y all here = tt
all_set P (x ∷ xs) zero y all here = (here, all.1)
all_set P (x ∷ xs) (suc i) y all here = (all.0, all_set P xs i y all.1 here)

all_at : {X : Type 0} (P : X → Type 0) (xs : List X) (i : ℕ) (d : X) → AllByRecursion P xs → i < length xs → P (slice_index_or xs i d)
all_at P [] i d all inside = absurd (omega arith)
all_at P (x ∷ xs) zero d all inside = all.0
all_at P (x ∷ xs) (suc i) d all inside = all_at P xs i d all.1 (omega arith)

all_filter : {X : Type 0} (P : X → Type 0) (p : X → Bool) (xs : List X) → AllByRecursion P xs → AllByRecursion P (filter p xs)
all_filter P p [] all = tt
all_filter P p (x ∷ xs) all = by (p x) (all_filter P p xs all.1)
  where
    by : (b : Bool) → AllByRecursion P (filter p xs) → AllByRecursion P (cond b (x ∷ filter p xs) (filter p xs))
    by true rest = (all.0, rest)
    by false rest = rest

all_then : {X : Type 0} (P Q : X → Type 0) (xs : List X) → AllByRecursion P xs → ((x : X) → P x → Q x) → AllByRecursion Q xs
all_then P Q [] all does = tt
all_then P Q (x ∷ xs) all does = (does x all.0, all_then P Q xs all.1 does)

all_mapped : {X Y : Type 0} (f : X → Y) (Q : Y → Type 0) (xs : List X) → AllByRecursion (λ x. Q (f x)) xs → AllByRecursion Q (map f xs)
all_mapped f Q [] all = tt
all_mapped f Q (x ∷ xs) all = (all.0, all_mapped f Q xs all.1)

as_many : (fields : List Field) (cells : List (List ℕ)) → AreCells fields cells → length cells ≡ length fields
as_many [] [] are = refl
as_many [] (c ∷ cs) are = absurd are
as_many (f ∷ fs) [] are = absurd are
as_many (f ∷ fs) (c ∷ cs) are = ap suc (as_many fs cs are.1)

opened_fit : (opened : Opened) → AreTables opened → AllFit (start opened).tables
opened_fit opened tables =
    all_mapped (λ (t : NamedTable). t.content) (λ (c : Content). AreFit c.table) opened.tables
    (all_then (λ (t : NamedTable). IsTable t.content.table) (λ (t : NamedTable). AreFit t.content.table) opened.tables tables
    (λ t is. all_then (IsRow t.content.table.schema) (Fits t.content.table.schema) t.content.table.rows is.fit (λ row are. as_many t.content.table.schema row.cells are)))

-- the record of a number that there is
fits_at : (table : Table) (number : ℕ) → AreFit table → 1 ≤ number → number ≤ length table.rows → length (row_at table number).cells ≡ length table.schema
fits_at table number fit counted inside = all_at (Fits table.schema) table.rows (number - 1) (blank_row table.schema) fit (omega arith)

-- the record that is written fits
written_fits : (content : Content) (by : EditValue) (number : ℕ) (row : Row) → AreFit content.table → 1 ≤ number → number ≤ record_count content → WritesRow content by number row → Fits content.table.schema row
written_fits content edit_of.AppendBlank number row fit counted inside writes = absurd writes
written_fits content (edit_of.Replace name value) number row fit counted inside writes =
    ap (λ (r : Row). length r.cells) writes.4 ∙ length-set (row_at content.table number).cells writes.0 writes.1 ∙ fits_at content.table number fit counted inside
written_fits content (edit_of.Memo name text) number row fit counted inside writes =
    ap (λ (r : Row). length r.cells) writes.2 ∙ length-set (row_at content.table number).cells writes.0 text ∙ fits_at content.table number fit counted inside
written_fits content edit_of.Delete number row fit counted inside writes = ap (λ (r : Row). length r.cells) writes ∙ fits_at content.table number fit counted inside
written_fits content edit_of.Recall number row fit counted inside writes = ap (λ (r : Row). length r.cells) writes ∙ fits_at content.table number fit counted inside
written_fits content edit_of.Pack number row fit counted inside writes = absurd writes

-- a table of these fields and records fits
fit_as : (fields : List Field) (rows : List Row) (table : Table) → table.schema ≡ fields → table.rows ≡ rows → AllByRecursion (Fits fields) rows → AreFit table
fit_as fields rows table same_fields same_rows all =
    let P : List Row → Type 0 = λ l. AllByRecursion (Fits table.schema) l in
    let Q : List Field → Type 0 = λ l. AllByRecursion (Fits l) rows in
    subst P (sym same_rows) (subst Q (sym same_fields) all)

place_inside : (content : Content) (o : Option ℕ) (number : ℕ) → IsCursorPlace content o → o ≡ Some number → (1 ≤ number) × (number ≤ record_count content)
place_inside content o number at e = let P : Option ℕ → Type 0 = IsCursorPlace content in subst P e at

change_fits : (content : Content) (cursor : Cursor) (by : EditValue) (made : Content × Cursor) → AreFit content.table → IsCursorPlace content cursor.at → IsRowSet content cursor by made → AreFit made.0.table
change_fits content cursor by made fit place set =
    let there = place_inside content cursor.at set.number place set.at in
    fit_as content.table.schema (slice_set content.table.rows (set.number - 1) set.row) made.0.table set.fields set.rows
    (all_set (Fits content.table.schema) content.table.rows (set.number - 1) set.row fit (written_fits content by set.number set.row fit there.0 there.1 set.writes))

-- a last record more
record IsAppended (content : Content) (made : Content × Cursor) : Type 0 where
  rows : made.0.table.rows ≡ content.table.rows ++ blank_row content.table.schema ∷ []
  fields : made.0.table.schema ≡ content.table.schema

appended : (content : Content) (cursor : Cursor) (made : Content × Cursor) → edited content cursor edit_of.AppendBlank ≡ Ok made → IsAppended content made
appended content cursor made makes =
    ok_given (IsAppended content) (edited content cursor edit_of.AppendBlank) made makes
    (of_granted (IsAppended content) (nat_lt (record_count content) MAX_RECORDS) TableFull (Ok (with_blank content, at_record cursor (record_count content + 1))) (λ _. record { rows = refl; fields = refl }))

append_fits : (content : Content) (cursor : Cursor) (made : Content × Cursor) → AreFit content.table → edited content cursor edit_of.AppendBlank ≡ Ok made → AreFit made.0.table
append_fits content cursor made fit makes =
    let is = appended content cursor made makes in
    fit_as content.table.schema (content.table.rows ++ blank_row content.table.schema ∷ []) made.0.table is.fields is.rows
    (all-push (Fits content.table.schema) content.table.rows (blank_row content.table.schema) fit (length-map content.table.schema blank_cell))

pack_fits : (content : Content) (cursor : Cursor) (made : Content × Cursor) → AreFit content.table → edited content cursor edit_of.Pack ≡ Ok made → AreFit made.0.table
pack_fits content cursor made fit makes =
    let P : Content × Cursor → Type 0 = λ e. AreFit e.0.table in
    ok_given P (edited content cursor edit_of.Pack) made makes (all_filter (Fits content.table.schema) (λ (row : Row). not row.deleted) content.table.rows fit)

-- after an edit
edit_fits : (s : State) (station : ℕ) (May : Area → Type 0) (Makes : Area → Content × Cursor → Type 0) → IsState s → AllFit s.tables
    → ((area : Area) (made : Content × Cursor) → IsCursorPlace (table_of s area) area.cursor.at → Makes area made → AreFit (table_of s area).table → AreFit made.0.table)
    → (end : State × Answer) → IsEdit s station May Makes end → AllFit end.0.tables
edit_fits s station May Makes ok fit keeps end edit =
    let area_is = ok.areas (station - 1) (current_index s station) edit.area edit.here in
    let F : Content → Type 0 = λ c. AreFit c.table in
    let was : AreFit (table_of s edit.area).table = all_at F s.tables (edit.area.table - 1) no_content fit (omega (arith, area_is.counted, area_is.inside)) in
    subst AllFit (sym edit.tables) (all_set F s.tables (edit.area.table - 1) edit.made.0 fit (keeps edit.area edit.made area_is.cursor.place edit.edit was))

changes_fit : (s : State) (by : EditValue) → ((content : Content) (cursor : Cursor) → IfOk (edited content cursor by) (IsRowSet content cursor by))
    → (area : Area) (made : Content × Cursor) → IsCursorPlace (table_of s area) area.cursor.at → MakesBy s by area made → AreFit (table_of s area).table → AreFit made.0.table
changes_fit s by sets area made place makes fit =
    change_fits (table_of s area) area.cursor by made fit place (ok_given (IsRowSet (table_of s area) area.cursor by) (edited (table_of s area) area.cursor by) made makes (sets (table_of s area) area.cursor))

does_fit : (s : State) (station : ℕ) (command : Command) → IsState s → AllFit s.tables → (end : State × Answer) → DoesTo s station command end → AllFit end.0.tables
does_fit s station AppendBlank ok fit end does =
    edit_fits s station (MayAppend s station) (MakesBy s edit_of.AppendBlank) ok fit (λ area made _ makes was. append_fits (table_of s area) area.cursor made was makes) end does
does_fit s station (Replace name value) ok fit end does =
    edit_fits s station (MayWriteAt s station) (MakesBy s (edit_of.Replace name value)) ok fit (changes_fit s (edit_of.Replace name value) (λ content cursor. replace_sets content cursor name value)) end does
does_fit s station (Memo name text) ok fit end does =
    edit_fits s station (MayWriteAt s station) (MakesBy s (edit_of.Memo name text)) ok fit (changes_fit s (edit_of.Memo name text) (λ content cursor. memo_sets content cursor name text)) end does
does_fit s station Delete ok fit end does = edit_fits s station (MayWriteAt s station) (MakesBy s edit_of.Delete) ok fit (changes_fit s edit_of.Delete delete_sets) end does
does_fit s station Recall ok fit end does = edit_fits s station (MayWriteAt s station) (MakesBy s edit_of.Recall) ok fit (changes_fit s edit_of.Recall recall_sets) end does
does_fit s station Pack ok fit end does = edit_fits s station IsOnly (MakesBy s edit_of.Pack) ok fit (λ area made _ makes was. pack_fits (table_of s area) area.cursor made was makes) end does
does_fit s station (IndexOn text name) ok fit end does = edit_fits s station IsOnly (SameTable s) ok fit (λ area made _ same was. subst AreFit (sym same) was) end does
does_fit s station _ ok fit end does = subst AllFit (sym does) fit

step_fits : (s : State) (station : ℕ) (command : Command) → IsState s → AllFit s.tables → AllFit (step s station command).0.tables
step_fits s station command ok fit =
    settled_as (λ (t : State). AllFit t.tables) s (outcome s station command) fit
    (ok_then (DoesTo s station command) (λ end. AllFit end.0.tables) (outcome s station command) (does_to s station command) (does_fit s station command ok fit))

after_fits : (opened : Opened) (s : State) (es : List Entry) → IsStateOf opened s → AllByRecursion (IsOfStation opened) es → AllFit s.tables → AllFit (after s es).tables
after_fits opened s [] is all fit = fit
after_fits opened s (e ∷ es) is all fit = after_fits opened (step s e.station e.command).0 es (state_step opened s e is all.0) all.1 (step_fits s e.station e.command is.state fit)

-- ---- what is put is there

-- the table that was edited
edited_table : (s : State) (station table : ℕ) (May : Area → Type 0) (Makes : Area → Content × Cursor → Type 0) → IsState s → (end : State × Answer) (edit : IsEdit s station May Makes end) → edit.area.table ≡ table
    → table_now end.0 table ≡ edit.made.0.table
edited_table s station table May Makes ok end edit same =
    let area_is = ok.areas (station - 1) (current_index s station) edit.area edit.here in
    ap (λ (tables : List Content). (table_at tables table).table) edit.tables ∙ (elim (put_cases s.tables edit.area.table table edit.made.0 area_is.counted area_is.inside) [
      | inl here ↦ ap (λ (c : Content). c.table) here.1
      | inr away ↦ absurd (away.0 (ap (λ (t : ℕ). t - 1) (sym same)))
    ])

put_in : (end : State) (content : Content) (table number field place : ℕ) (cell : List ℕ) (row : Row) → AreFit content.table → 1 ≤ number → number ≤ record_count content
    → (table_now end table).rows ≡ slice_set content.table.rows (place - 1) row → place ≡ number → row.cells ≡ slice_set (row_at content.table number).cells field cell → field < length content.table.schema
    → cell_now end table number field ≡ Some cell
put_in end content table number field place cell row fit counted inside rows same cells there =
    let d : Row = blank_row content.table.schema in
    let old : List (List ℕ) = (row_at content.table number).cells in
    let was : slice_get content.table.rows (number - 1) ≡ Some (slice_index_or content.table.rows (number - 1) d) = slice_get-get_or content.table.rows (number - 1) d (omega (arith, counted, inside)) in
    let now : record_at end table number ≡ Some row =
    ap (λ (l : List Row). slice_get l (number - 1)) (rows ∙ ap (λ (p : ℕ). slice_set content.table.rows (p - 1) row) same)
    ∙ get_set_same content.table.rows (number - 1) (slice_index_or content.table.rows (number - 1) d) row was in
    let some : slice_get old field ≡ Some (slice_index_or old field []) = slice_get-get_or old field [] (omega (arith, there, fits_at content.table number fit counted inside)) in
    ap (option_and_then (λ (r : Row). slice_get r.cells field)) now ∙ ap (λ (l : List (List ℕ)). slice_get l field) cells ∙ get_set_same old field (slice_index_or old field []) cell some

field_inside : (content : Content) (name : List ℕ) (field : ℕ) → field_named content name ≡ Some field → field < length content.table.schema
field_inside content name field named = (position-Some (λ (f : Field). bytes_eq f.name name) content.table.schema field (record { name = []; kind = 0; width = 0; decimals = 0 }) named).0

same_ok : (a b : List ℕ) → ◌≡◌ {A = Result (List ℕ) CellFault} (Ok a) (Ok b) → a ≡ b
same_ok a b e = cc

-- what is put, in the area that is edited
record IsPutIn (s : State) (area : Area) (command : Command) (table number field : ℕ) (cell : List ℕ) : Type 0 where
  in_table : area.table ≡ table
  puts : PutsAt (table_of s area) area.cursor.at command number field cell

put_here : (s : State) (station : ℕ) (command : Command) (answer : Answer) (table number field : ℕ) (cell : List ℕ) (area : Area) → area_of s station ≡ Some area → PutsCell s (entry station command answer) table number field cell
    → IsPutIn s area command table number field cell
put_here s station command answer table number field cell area here p =
    let P : Area → Type 0 = λ a. IsPutIn s a command table number field cell in
    subst P (some_is p.area area (sym p.here ∙ here)) (record { in_table = p.in_table; puts = p.does })

-- REPLACE and MEMO
change_puts : (s : State) (station : ℕ) (by : EditValue) (table number field n : ℕ) (cell put : List ℕ) → IsState s → AllFit s.tables
    → (end : State × Answer) (edit : IsEdit s station (MayWriteAt s station) (MakesBy s by) end) → edit.area.table ≡ table → edit.area.cursor.at ≡ Some number
    → (set : IsRowSet (table_of s edit.area) edit.area.cursor by edit.made) → set.row ≡ row_with_cell (row_at (table_of s edit.area).table set.number) n put → n ≡ field → put ≡ cell
    → field < length (table_of s edit.area).table.schema → cell_now end.0 table number field ≡ Some cell
change_puts s station by table number field n cell put ok fit end edit same at set row_is field_is cell_is there =
    let content : Content = table_of s edit.area in
    let area_is = ok.areas (station - 1) (current_index s station) edit.area edit.here in
    let place = place_inside content edit.area.cursor.at number area_is.cursor.place at in
    let number_is : set.number ≡ number = same_Some set.number number (sym set.at ∙ at) in
    let F : Content → Type 0 = λ c. AreFit c.table in
    let was : AreFit content.table = all_at F s.tables (edit.area.table - 1) no_content fit (omega (arith, area_is.counted, area_is.inside)) in
    put_in end.0 content table number field set.number cell set.row was place.0 place.1
    (ap (λ (t : Table). t.rows) (edited_table s station table (MayWriteAt s station) (MakesBy s by) ok end edit same) ∙ set.rows) number_is
    (ap (λ (r : Row). r.cells) row_is ∙ ap (λ (m : ℕ). slice_set (row_at content.table m).cells n put) number_is
    ∙ ap (λ (f : ℕ). slice_set (row_at content.table number).cells f put) field_is ∙ ap (λ (c : List ℕ). slice_set (row_at content.table number).cells field c) cell_is)
    there

-- APPEND BLANK
append_puts : (s : State) (station table number field : ℕ) (cell : List ℕ) → IsState s → (end : State × Answer) (edit : IsEdit s station (MayAppend s station) (MakesBy s edit_of.AppendBlank) end) → edit.area.table ≡ table
    → number ≡ record_count (table_of s edit.area) + 1 → slice_get (blank_row (table_of s edit.area).table.schema).cells field ≡ Some cell → cell_now end.0 table number field ≡ Some cell
append_puts s station table number field cell ok end edit same number_is is =
    let content : Content = table_of s edit.area in
    let made = appended content edit.area.cursor edit.made edit.edit in
    let row : Row = blank_row content.table.schema in
    let place : number - 1 ≡ length content.table.rows = omega arith in
    let now : record_at end.0 table number ≡ Some row =
    ap (λ (t : Table). slice_get t.rows (number - 1)) (edited_table s station table (MayAppend s station) (MakesBy s edit_of.AppendBlank) ok end edit same)
    ∙ ap (λ (l : List Row). slice_get l (number - 1)) made.rows ∙ ap (slice_get (content.table.rows ++ row ∷ [])) place ∙ get_last content.table.rows row in
    ap (option_and_then (λ (r : Row). slice_get r.cells field)) now ∙ is

does_put : (s : State) (station : ℕ) (command : Command) (answer : Answer) (table number field : ℕ) (cell : List ℕ) → IsState s → AllFit s.tables → PutsCell s (entry station command answer) table number field cell
    → (end : State × Answer) → DoesTo s station command end → cell_now end.0 table number field ≡ Some cell
does_put s station AppendBlank answer table number field cell ok fit p end edit =
    let here = put_here s station AppendBlank answer table number field cell edit.area edit.here p in
    append_puts s station table number field cell ok end edit here.in_table here.puts.0 here.puts.1
does_put s station (Replace name value) answer table number field cell ok fit p end edit =
    let by : EditValue = edit_of.Replace name value in
    let content : Content = table_of s edit.area in
    let here = put_here s station (Replace name value) answer table number field cell edit.area edit.here p in
    let set : IsRowSet content edit.area.cursor by edit.made = ok_given (IsRowSet content edit.area.cursor by) (edited content edit.area.cursor by) edit.made edit.edit (replace_sets content edit.area.cursor name value) in
    let same : set.writes.0 ≡ field = same_Some set.writes.0 field (sym set.writes.2 ∙ here.puts.1) in
    let kept : set.writes.1 ≡ cell = same_ok set.writes.1 cell (sym set.writes.3 ∙ ap (λ (f : ℕ). stored (field_at content f) value) same ∙ here.puts.2) in
    change_puts s station by table number field set.writes.0 cell set.writes.1 ok fit end edit here.in_table here.puts.0 set set.writes.4 same kept (field_inside content name field here.puts.1)
does_put s station (Memo name text) answer table number field cell ok fit p end edit =
    let by : EditValue = edit_of.Memo name text in
    let content : Content = table_of s edit.area in
    let here = put_here s station (Memo name text) answer table number field cell edit.area edit.here p in
    let set : IsRowSet content edit.area.cursor by edit.made = ok_given (IsRowSet content edit.area.cursor by) (edited content edit.area.cursor by) edit.made edit.edit (memo_sets content edit.area.cursor name text) in
    let same : set.writes.0 ≡ field = same_Some set.writes.0 field (sym set.writes.1 ∙ here.puts.1) in
    change_puts s station by table number field set.writes.0 cell text ok fit end edit here.in_table here.puts.0 set set.writes.2 same here.puts.2 (field_inside content name field here.puts.1)
does_put s station _ answer table number field cell ok fit p end edit = absurd p.does

done_refused : (answer : Answer) (refusal : Refusal) → answer ≡ Done → answer ≡ Refused refusal → ⊥
done_refused answer refusal e f = cc

put_settled : (s : State) (station : ℕ) (command : Command) (answer : Answer) (table number field : ℕ) (cell : List ℕ) (o : Outcome) → IsState s → AllFit s.tables → PutsCell s (entry station command answer) table number field cell
    → answer ≡ (settled s o).1 → IfOk o (DoesTo s station command) → cell_now (settled s o).0 table number field ≡ Some cell
put_settled s station command answer table number field cell (Ok end) ok fit p same does = does_put s station command answer table number field cell ok fit p end does
put_settled s station command answer table number field cell (Err refusal) ok fit p same does = absurd (done_refused answer refusal p.ok same)

-- what an entry puts is there after it
pub put_step : (s : State) (e : Entry) (table number field : ℕ) (cell : List ℕ) → IsState s → AllFit s.tables → e.answer ≡ (step s e.station e.command).1 → PutsCell s e table number field cell
    → cell_now (step s e.station e.command).0 table number field ≡ Some cell
put_step s e table number field cell ok fit legal p =
    put_settled s e.station e.command e.answer table number field cell (outcome s e.station e.command) ok fit p legal (does_to s e.station e.command)

-- the table and the record count from 1
number_counted : (content : Content) (at : Option ℕ) (command : Command) (number field : ℕ) (cell : List ℕ) → IsCursorPlace content at → PutsAt content at command number field cell → 1 ≤ number
number_counted content at AppendBlank number field cell place puts = omega (arith, puts.0)
number_counted content at (Replace name value) number field cell place puts = at_counted content at number place puts.0
number_counted content at (Memo name text) number field cell place puts = at_counted content at number place puts.0
number_counted content at _ number field cell place puts = absurd puts

put_counted : (s : State) (e : Entry) (table number field : ℕ) (cell : List ℕ) → IsState s → PutsCell s e table number field cell → (1 ≤ table) × (1 ≤ number)
put_counted s e table number field cell ok p =
    let area_is = ok.areas (e.station - 1) (current_index s e.station) p.area p.here in
    (omega (arith, area_is.counted, p.in_table), number_counted (table_of s p.area) p.area.cursor.at e.command number field cell area_is.cursor.place p.does)

-- ---- the law

pub keeps_the_last : (opened : Opened) (before later : List Entry) (e : Entry) → KeepsTheLast opened before e later
keeps_the_last opened before later e table number field cell tables h puts none =
    let s : State = replay opened before in
    let next : State = (step s e.station e.command).0 in
    let all_before = all_first (IsOfStation opened) before (e ∷ later) h.of_stations in
    let all_later = all_last (IsOfStation opened) before (e ∷ later) h.of_stations in
    let first = state_start opened (before ++ e ∷ later) h in
    let is = state_after opened (start opened) before first all_before in
    let legal = legal_last (start opened) before (e ∷ later) h.legal in
    let fit = after_fits opened (start opened) before first all_before (opened_fit opened tables) in
    let counted = put_counted s e table number field cell is.state puts in
    let now = put_step s e table number field cell is.state fit legal.0 puts in
    let one : replay opened (before ++ e ∷ []) ≡ next = after-append (start opened) before (e ∷ []) in
    let end : replay opened (before ++ e ∷ later) ≡ after next later = after-append (start opened) before (e ∷ later) in
    let R : State → Type 0 = λ t. NoneOf (PutsSomeCell field) t later table number in
    let P : State → Type 0 = λ t. IfSome (number_at_end t later table number) (λ n. cell_now (after next later) table n field ≡ Some cell) in
    let Q : State → Type 0 = λ t. IfSome (number_at_end (replay opened (before ++ e ∷ [])) later table number) (λ n. cell_now t table n field ≡ Some cell) in
    subst Q (sym end) (subst P (sym one)
    (cells_after opened next later table number field cell (state_step opened s e is all_later.0) all_later.1 legal.1 counted.0 counted.1 now (subst R one none)))
