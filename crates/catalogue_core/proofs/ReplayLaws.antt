-- The replay and the answers of a journal with one entry more.
use Rattle.std.proofs.Common.{◌≡◌, ◌≢◌, ℕ, ◌-◌, ◌<◌, ◌≤◌, List, [], ◌∷◌, ◌++◌, length, map, get_or, slice_index_or, Ok, Err, refl, sym, ap, subst, ◌∙◌, arith, length-append}
use Rattle.std.specs.Prelude.{IfOk}
use Rattle.std.specs.List.{AllByRecursion}
use Rattle.std.proofs.Math.ListN.{get_or-map}
use Rattle.dbf_fields.specs.declared.field.Field.{Field}
use Rattle.table_core.specs.Content.{Content}
use Rattle.catalogue_core.specs.declared.catalogue.TheConstants.{MAX_ENTRIES}
use Rattle.catalogue_core.specs.declared.entry.Entry.{Entry}
use Rattle.catalogue_core.specs.Kept.{IsKept}
use Rattle.catalogue_core.specs.declared.opening.TheConstants.{MAX_TABLES}
use Rattle.catalogue_core.specs.declared.change.Plan.{Plan}
use Rattle.catalogue_core.specs.Planned.{planned, state_after}
use Rattle.catalogue_core.specs.Tables.{NamedTable}
use Rattle.catalogue_core.specs.Replay.{Opened, History, history, opened_at, opened_as, after, start, state_of, LegalFrom, IsOfStation}
use Rattle.catalogue_core.specs.declared.command.Command.{Command}
use Rattle.catalogue_core.specs.State.{State, new_station, no_content, table_at, schemas_of, KeepIndexes, IsState, HasStation}
use Rattle.catalogue_core.specs.Step.{Outcome, outcome, settled, step}
use Rattle.catalogue_core.proofs.AddedLaws.{keep_same, keep_then}
use Rattle.catalogue_core.proofs.NextLaws.{IsNext}
use Rattle.catalogue_core.proofs.StartLaws.{start_is}
use Rattle.catalogue_core.proofs.StepLaws.{next_outcome}
use Rattle.std.proofs.lemmas.List.{length-map, length-replicate}

pub after-push : (s : State) (es : List Entry) (e : Entry) → after s (es ++ e ∷ []) ≡ (step (after s es) e.station e.command).0
after-push s [] e = refl
after-push s (x ∷ xs) e = after-push (step s x.station x.command).0 xs e

pub legal-push : (s : State) (es : List Entry) (e : Entry) → LegalFrom s es → e.answer ≡ (step (after s es) e.station e.command).1 → LegalFrom s (es ++ e ∷ [])
legal-push s [] e legal answer = (answer, tt)
legal-push s (x ∷ xs) e legal answer = (legal.0, legal-push (step s x.station x.command).0 xs e legal.1 answer)

-- what holds of each of a list and of one more holds of each of the list with it
pub all-push : {X : Type 0} (P : X → Type 0) (xs : List X) (x : X) → AllByRecursion P xs → P x → AllByRecursion P (xs ++ x ∷ [])
all-push P [] x all here = (here, tt)
all-push P (y ∷ ys) x all here = (all.0, all-push P ys x all.1 here)

-- a state has each of its stations
pub has_station : (s : State) (station : ℕ) → IsState s → 1 ≤ station → station ≤ length s.stations → HasStation s station
has_station s station ok h i = record { counted = h; inside = i; each = ok.each (station - 1) (omega arith) }

-- what a step keeps
pub record IsStepped (s t : State) (station : ℕ) : Type 0 where
  pub state : IsState t
  pub stations : length t.stations ≡ length s.stations
  pub fields : schemas_of t.tables ≡ schemas_of s.tables
  pub indexes : KeepIndexes s.tables t.tables
  pub others : (b : ℕ) → b ≢ station - 1 → slice_index_or t.stations b new_station ≡ slice_index_or s.stations b new_station

stepped_settled : (s : State) (station : ℕ) (o : Outcome) → IsState s → IfOk o (IsNext s station) → IsStepped s (settled s o).0 station
stepped_settled s station (Ok end) ok next = record { state = next.state; stations = next.stations; fields = next.fields; indexes = next.indexes; others = next.others }
stepped_settled s station (Err refusal) ok next = record { state = ok; stations = refl; fields = refl; indexes = keep_same s.tables s.tables refl; others = λ b _. refl }

pub is_stepped : (s : State) (station : ℕ) (command : Command) → IsState s → HasStation s station → IsStepped s (step s station command).0 station
is_stepped s station command ok has = stepped_settled s station (outcome s station command) ok (next_outcome s station command ok has)

-- a command that was planned and carried out, in a state that is seen as it was, is its step
pub carried_out : {s now next : State} (station : ℕ) (plan : Plan) {asked command : Command} → planned s station plan ≡ step s station asked → command ≡ asked → now ≡ s → next ≡ state_after now station plan.change
    → (next, plan.answer) ≡ step s station command
carried_out {s} {now} {next} station plan {asked} {command} stepped same seen_same applied =
    ap (λ (t : State). (t, plan.answer)) (applied ∙ ap (λ (t : State). state_after t station plan.change) seen_same) ∙ stepped ∙ ap (step s station) (sym same)

-- a catalogue has each station of what was opened
pub may_perform : {opened : Opened} {s : State} {journal : List Entry} {h : History} {station : ℕ} → IsKept opened s journal → history opened journal ≡ h → 1 ≤ station → station ≤ h.opened.stations → HasStation s station
may_perform {opened} {s} {journal} {h} {station} kept is counted inside =
    let stations : opened.stations ≡ h.opened.stations = ap (λ (g : History). g.opened.stations) is in
    has_station s station kept.ok counted (omega (arith, kept.stations, stations, inside))

-- a catalogue that keeps its journal keeps it with the entry of a command that was performed
pub kept_push : (opened : Opened) (s : State) (journal : List Entry) (e : Entry) → IsKept opened s journal → HasStation s e.station → e.answer ≡ (step s e.station e.command).1 → length journal < MAX_ENTRIES
    → IsKept opened (step s e.station e.command).0 (journal ++ e ∷ [])
kept_push opened s journal e kept has answer count_bounded =
    let next = is_stepped s e.station e.command kept.ok has in
    record {
      replayed = ap (λ (t : State). (step t e.station e.command).0) kept.replayed ∙ sym (after-push (start opened) journal e);
      legal = legal-push (start opened) journal e kept.legal (answer ∙ ap (λ (t : State). (step t e.station e.command).1) kept.replayed);
      of_stations = all-push (IsOfStation opened) journal e kept.of_stations (has.counted, omega (arith, has.inside, kept.stations));
      count_bounded = omega (arith, length-append journal (e ∷ []));
      ok = next.state;
      stations = next.stations ∙ kept.stations;
      fields = next.fields ∙ kept.fields;
      indexes = keep_then (map (λ t. t.content) opened.tables) s.tables (step s e.station e.command).0.tables kept.indexes next.indexes;
    }

-- what was just opened is kept by the state at opening
pub opened_kept : (n : ℕ) (tables : List NamedTable) (s : State) → s ≡ start (opened_as n tables) → length tables ≤ MAX_TABLES → IsKept (opened_as n tables) s []
opened_kept n tables s at count_bounded =
    let opened = opened_as n tables in
    let P : State → Type 0 = IsState in
    record {
      replayed = at;
      legal = tt;
      of_stations = tt;
      count_bounded = omega arith;
      ok = subst P (sym at) (start_is opened count_bounded);
      stations = ap (λ (t : State). length t.stations) at ∙ length-replicate n new_station;
      fields = ap (λ (t : State). schemas_of t.tables) at;
      indexes = keep_same (map (λ t. t.content) tables) s.tables (ap (λ (t : State). t.tables) at);
    }

-- there are as many tables as were opened
pub kept_tables : (opened : Opened) (s : State) (journal : List Entry) → IsKept opened s journal → length s.tables ≡ length opened.tables
kept_tables opened s journal kept =
    sym (length-map s.tables (λ (content : Content). content.table.schema)) ∙ ap (λ (schemas : List (List Field)). length schemas) kept.fields
    ∙ length-map (map (λ (t : NamedTable). t.content) opened.tables) (λ (content : Content). content.table.schema) ∙ length-map opened.tables (λ (t : NamedTable). t.content)

-- at most ten tables were opened
pub few_tables : (opened : Opened) (s : State) (journal : List Entry) → IsKept opened s journal → length opened.tables ≤ MAX_TABLES
few_tables opened s journal kept = omega (arith, kept_tables opened s journal kept, kept.ok.count_bounded)

-- the indexes with which the tables were opened are the first of those that they have
pub kept_indexes : {opened : Opened} {s : State} {journal : List Entry} {h : History} → IsKept opened s journal → history opened journal ≡ h → KeepIndexes (map (λ (t : NamedTable). t.content) h.opened.tables) (state_of h).tables
kept_indexes {opened} {s} {journal} {h} kept is =
    let P : State → Type 0 = λ t. KeepIndexes (map (λ (u : NamedTable). u.content) opened.tables) t.tables in
    let Q : History → Type 0 = λ g. KeepIndexes (map (λ (u : NamedTable). u.content) g.opened.tables) (state_of g).tables in
    subst Q is (subst P kept.replayed kept.indexes)

same_fields_at : (xs ys : List Content) (number : ℕ) → schemas_of xs ≡ schemas_of ys → (table_at xs number).table.schema ≡ (table_at ys number).table.schema
same_fields_at xs ys number e =
    sym (get_or-map (λ (content : Content). content.table.schema) xs (number - 1) no_content)
    ∙ ap (λ (l : List (List Field)). get_or l (number - 1) no_content.table.schema) e ∙ get_or-map (λ (content : Content). content.table.schema) ys (number - 1) no_content

-- a table has the fields with which it was opened
pub kept_fields : (opened : Opened) (s : State) (journal : List Entry) (number : ℕ) → IsKept opened s journal → (table_at s.tables number).table.schema ≡ (opened_at opened number).table.schema
kept_fields opened s journal number kept = same_fields_at s.tables (map (λ (t : NamedTable). t.content) opened.tables) number kept.fields
