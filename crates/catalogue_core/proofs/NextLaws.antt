-- What a command's outcome keeps: it is a state of as many stations and the same tables, all other stations have
-- the areas that they had, and the answer is no refusal. Here for the commands on locks, moves and edits.
use Rattle.std.proofs.Common.{◌≡◌, ◌≢◌, ◌⊎◌, inl, inr, ℕ, ◌-◌, ◌≤◌, Bool, true, false, nat_le, List, length, slice_set, slice_index_or, Option, Some, None, Result, Ok, refl, sym, ap, subst, ◌∙◌, arith, length-set}
use Rattle.std.proofs.lemmas.Bool.{cases_eq}
use Rattle.std.specs.Prelude.{IfOk}
use Rattle.std.specs.Int.{is_in_range}
use Rattle.std.proofs.Math.Seq.{map-set_same}
use Rattle.std.proofs.lemmas.List.{get_or-set_same, get_or-set_other}
use Rattle.lock_table.specs.declared.TheConstants.{MAX_RECORD_LOCKS}
use Rattle.lock_table.specs.Locks.{Lock, free_record, free_records, free_whole, with_lock, with_records, without, without_all, IsHeld, AreApart}
use Rattle.lock_table.specs.Laws.{apart_record, apart_records, apart_whole, apart_without, apart_without_all, held_with, listed_or_held, held_without, held_without_all}
use Rattle.table_core.specs.declared.cursor.Cursor.{Cursor}
use Rattle.table_core.specs.EditValue.{EditValue}
use Rattle.table_core.specs.EditValue as edit_of
use Rattle.table_core.specs.declared.refusal.Refusal.{Refusal}
use Rattle.table_core.specs.declared.refusal.Refusal.TheVariants.{NoTableInUse, TableInUse, NeedsExclusive, NotLocked, OutOfRange, EndOfFile, BadArea, TooManyLocks}
use Rattle.table_core.specs.Content.{Content, record_count}
use Rattle.table_core.specs.Cursors.{IsCursorPlace, IsCursor}
use Rattle.table_core.specs.Edits.{edited, renumbers}
use Rattle.table_core.specs.Laws.Edits.{IsEdited, IsGrown, grows_edited, is_edited, cursor_grows}
use Rattle.catalogue_core.specs.declared.answer.Answer.{Answer}
use Rattle.catalogue_core.specs.declared.answer.Answer.TheVariants.{Done, Truth, Refused}
use Rattle.catalogue_core.specs.declared.area.Area.{Area}
use Rattle.catalogue_core.specs.declared.area.Station.{Station}
use Rattle.catalogue_core.specs.declared.area.TheConstants.{MAX_AREAS}
use Rattle.catalogue_core.specs.State.{State, new_station, no_content, station_at, area_of, area_at, table_of, with_stations, with_current, with_held, without_lock, schemas_of, KeepIndexes, IsOpenAt, HasStation, IsState}
use Rattle.catalogue_core.specs.Step.{with_edit, can_write, can_append, select, move, append_record, writable_area, change_record, pack_table, unlock, unlock_all, lock, lock_record, lock_records, are_records, lock_file}
use Rattle.table_core.specs.Laws.Outcomes.{of_found, of_granted, of_passed}
use Rattle.catalogue_core.proofs.Cases.{when_ok}
use Rattle.catalogue_core.proofs.ListedRecords.{in_range, listed_counted}
use Rattle.catalogue_core.proofs.AreaLaws.{current_index}
use Rattle.catalogue_core.proofs.AddedLaws.{first_same, keep_same, keep_set}
use Rattle.catalogue_core.proofs.KeptLaws.{keep_locks, keep_cursor, keep_edit, each_set}

abbrev pub NoRefusal : Answer → Type 0
NoRefusal (Refused refusal) = ⊥
NoRefusal _ = Unit {0}

pub record IsNext (s : State) (station : ℕ) (end : State × Answer) : Type 0 where
  pub state : IsState end.0
  pub stations : length end.0.stations ≡ length s.stations
  pub names : end.0.names ≡ s.names
  pub fields : schemas_of end.0.tables ≡ schemas_of s.tables
  pub indexes : KeepIndexes s.tables end.0.tables
  pub others : (b : ℕ) → b ≢ station - 1 → slice_index_or end.0.stations b new_station ≡ slice_index_or s.stations b new_station
  pub answer : NoRefusal end.1

-- nothing changes
pub same_next : (s : State) (station : ℕ) (answer : Answer) → NoRefusal answer → IsState s → IsNext s station (s, answer)
same_next s station answer no_failure ok = record { state = ok; stations = refl; names = refl; fields = refl; indexes = keep_same s.tables s.tables refl; others = λ b _. refl; answer = no_failure }

-- the areas of the station change
pub put_next : (s : State) (station : ℕ) (st : Station) (answer : Answer) → NoRefusal answer → IsState (with_stations s (slice_set s.stations (station - 1) st)) → IsNext s station (with_stations s (slice_set s.stations (station - 1) st), answer)
put_next s station st answer no_failure ok = record {
  state = ok;
  stations = length-set s.stations (station - 1) st;
  names = refl;
  fields = refl;
  indexes = keep_same s.tables s.tables refl;
  others = λ b n. get_or-set_other s.stations (station - 1) b st new_station n;
  answer = no_failure;
}

-- and then the locks
pub held_next : (s t : State) (station : ℕ) (locks : List Lock) (answer : Answer) → IsNext s station (t, answer) → IsState (with_held t locks) → IsNext s station (with_held t locks, answer)
held_next s t station locks answer next ok = record {
  state = ok;
  stations = next.stations;
  names = next.names;
  fields = next.fields;
  indexes = next.indexes;
  others = next.others;
  answer = next.answer;
}

-- SELECT: what is open where stays
current_same : (s : State) (station number a k : ℕ) → HasStation s station → area_at (with_current s station number) a k ≡ area_at s a k
current_same s station number a k h =
    let st : Station = record { current = number; areas = (station_at s station).areas } in
    elim (cases_eq a (station - 1)) [
      | inl e ↦
          ap (λ (b : ℕ). area_at (with_current s station number) b k) e
          ∙ ap (λ (t : Station). slice_index_or t.areas k None) (get_or-set_same s.stations (station - 1) st new_station (omega (arith, h.counted, h.inside)))
          ∙ ap (λ (b : ℕ). area_at s b k) (sym e)
      | inr n ↦ ap (λ (t : Station). slice_index_or t.areas k None) (get_or-set_other s.stations (station - 1) a st new_station n)
    ]

keep_current : (s : State) (station number : ℕ) → IsState s → HasStation s station → (1 ≤ number) × (number ≤ MAX_AREAS) → IsState (with_current s station number)
keep_current s station number ok h no_failure =
    let st : Station = record { current = number; areas = (station_at s station).areas } in
    let same = λ (a k : ℕ). current_same s station number a k h in
    record {
      count_bounded = ok.count_bounded;
      named = ok.named;
      lockable = ok.lockable;
      lockers = ok.lockers ∙ sym (length-set s.stations (station - 1) st);
      each = each_set s.stations (station - 1) st (record { areas = h.each.areas; counted = no_failure.0; inside = no_failure.1 }) ok.each;
      areas = λ a k x e. ok.areas a k x (sym (same a k) ∙ e);
      once = λ a k l x y n e f. ok.once a k l x y n (sym (same a k) ∙ e) (sym (same a l) ∙ f);
      alone = λ a b k l x y n e f. ok.alone a b k l x y n (sym (same a k) ∙ e) (sym (same b l) ∙ f);
      apart = ok.apart;
      open_ = λ l held.
          let was = ok.open_ l held in
          (was.0, (was.1.0, was.1.1, same (l.station - 1) was.1.0 ∙ was.1.2, was.1.3));
    }

pub next_select : (s : State) (station number : ℕ) → IsState s → HasStation s station → IfOk (select s station number) (IsNext s station)
next_select s station number ok h =
    of_granted (IsNext s station) (is_in_range 1 MAX_AREAS number) BadArea _ (λ e.
    put_next s station _ Done tt (keep_current s station number ok h (in_range MAX_AREAS number e)))

-- GO, SKIP, SEEK, SET ORDER
pub next_move : (s : State) (station : ℕ) (to : Content → Cursor → Result Cursor Refusal) → IsState s → HasStation s station
    → ((content : Content) (cursor : Cursor) → IsCursor content cursor → IfOk (to content cursor) (IsCursor content))
    → IfOk (move s station to) (IsNext s station)
next_move s station to ok h leads =
    of_found (IsNext s station) (area_of s station) NoTableInUse _ (λ area is.
    of_passed (IsNext s station) (to (table_of s area) area.cursor) _ (λ cursor e.
    let old = ok.areas (station - 1) (current_index s station) area is in
    let at = when_ok (IsCursor (table_of s area)) (to (table_of s area) area.cursor) cursor (leads (table_of s area) area.cursor old.cursor) e in
    put_next s station _ Done tt (keep_cursor s station area cursor ok h is at)))

-- a table and its cursor are edited
edit_next : (s : State) (station : ℕ) (area : Area) (e : Content × Cursor) → IsEdited (table_of s area) e → IsState (with_edit s station area e) → IsNext s station (with_edit s station area e, Done)
edit_next s station area e good ok = record {
  state = ok;
  stations = length-set s.stations (station - 1) _;
  names = refl;
  fields = map-set_same (λ (content : Content). content.table.schema) s.tables (area.table - 1) e.0 no_content good.fields;
  indexes = keep_set s.tables (area.table - 1) e.0 (first_same (table_of s area).indexes e.0.indexes good.indexes);
  others = λ b n. get_or-set_other s.stations (station - 1) b _ new_station n;
  answer = tt;
}

-- an edit that numbers no record anew
grown_next : (s : State) (station : ℕ) (area : Area) (by : EditValue) (e : Content × Cursor) → IsState s → HasStation s station → area_of s station ≡ Some area → renumbers by ≡ false
    → edited (table_of s area) area.cursor by ≡ Ok e → IsNext s station (with_edit s station area e, Done)
grown_next s station area by e ok h is keeps f =
    let old = ok.areas (station - 1) (current_index s station) area is in
    let good = when_ok (IsGrown (table_of s area)) (edited (table_of s area) area.cursor by) e (grows_edited (table_of s area) area.cursor by keeps old.cursor) f in
    edit_next s station area e good.edited_is
    (keep_edit s station area e ok h is good.edited_is.cursor (inl (λ cursor. cursor_grows (table_of s area) e.0 cursor good.edited_is.indexes good.grown)))

-- APPEND BLANK
pub next_append : (s : State) (station : ℕ) → IsState s → HasStation s station → IfOk (append_record s station) (IsNext s station)
next_append s station ok h =
    of_found (IsNext s station) (area_of s station) NoTableInUse _ (λ area is.
    of_granted (IsNext s station) (can_append s station area) TableInUse _ (λ _.
    of_passed (IsNext s station) (edited (table_of s area) area.cursor edit_of.AppendBlank) _ (λ e f. grown_next s station area edit_of.AppendBlank e ok h is refl f)))

-- REPLACE, MEMO, DELETE, RECALL
is_target : (s : State) (station : ℕ) → IfOk (writable_area s station) (λ area. area_of s station ≡ Some area)
is_target s station =
    of_found (λ area. area_of s station ≡ Some area) (area_of s station) NoTableInUse _ (λ area is.
    of_found (λ x. area_of s station ≡ Some x) area.cursor.at EndOfFile _ (λ number _.
    of_granted (λ x. area_of s station ≡ Some x) (can_write s station area number) NotLocked (Ok area) (λ _. is)))

pub next_change : (s : State) (station : ℕ) (by : EditValue) → IsState s → HasStation s station → renumbers by ≡ false → IfOk (change_record s station by) (IsNext s station)
next_change s station by ok h keeps =
    of_passed (IsNext s station) (writable_area s station) _ (λ area there.
    of_passed (IsNext s station) (edited (table_of s area) area.cursor by) _ (λ e f.
    grown_next s station area by e ok h (when_ok (λ x. area_of s station ≡ Some x) (writable_area s station) area (is_target s station) there) keeps f))

-- fewer locks
pub keep_without : (s : State) (station table : ℕ) → IsState s → IsState (with_held s (without s.locks.locks station table))
keep_without s station table ok =
    keep_locks s (without s.locks.locks station table) ok (apart_without s.locks.locks station table ok.apart) (λ l held. ok.open_ l (held_without s.locks.locks station table l held).0)

-- PACK
pub next_pack : (s : State) (station : ℕ) → IsState s → HasStation s station → IfOk (pack_table s station) (IsNext s station)
next_pack s station ok h =
    of_found (IsNext s station) (area_of s station) NoTableInUse _ (λ area is.
    of_granted (IsNext s station) area.exclusive NeedsExclusive _ (λ only.
    of_passed (IsNext s station) (edited (table_of s area) area.cursor edit_of.Pack) (λ e. Ok (without_lock (with_edit s station area e) station (Some area), Done)) (λ e f.
    let old = ok.areas (station - 1) (current_index s station) area is in
    let good = when_ok (IsEdited (table_of s area)) (edited (table_of s area) area.cursor edit_of.Pack) e (is_edited (table_of s area) area.cursor edit_of.Pack old.cursor) f in
    let packed = keep_edit s station area e ok h is good.cursor (inr only) in
    held_next s (with_edit s station area e) station (without s.locks.locks station area.table) Done (edit_next s station area e good packed) (keep_without (with_edit s station area e) station area.table packed))))

-- UNLOCK, UNLOCK ALL
pub next_unlock : (s : State) (station : ℕ) → IsState s → IfOk (unlock s station) (IsNext s station)
next_unlock s station ok =
    of_found (IsNext s station) (area_of s station) NoTableInUse _ (λ area _.
    held_next s s station _ Done (same_next s station Done tt ok) (keep_without s station area.table ok))

pub next_unlock_all : (s : State) (station : ℕ) → IsState s → IfOk (unlock_all s station) (IsNext s station)
next_unlock_all s station ok =
    held_next s s station _ Done (same_next s station Done tt ok)
    (keep_locks s (without_all s.locks.locks station) ok (apart_without_all s.locks.locks station ok.apart) (λ l held. ok.open_ l (held_without_all s.locks.locks station l held).0))

-- each of these locks is the station's in the area's table, or was held before
AreOwnOrHeld : State → ℕ → Area → List Lock → Type 0
AreOwnOrHeld s station area locks = (l : Lock) → IsHeld locks l → ((l.station ≡ station) × (l.table ≡ area.table)) ⊎ IsHeld s.locks.locks l

-- the calls for locks
next_lock : (s : State) (station : ℕ) (area : Area) (locks : List Lock) (free : Bool) → IsState s → HasStation s station → area_of s station ≡ Some area
    → AreOwnOrHeld s station area locks → (free ≡ true → AreApart locks) → IsNext s station (lock free s locks)
unfolding AreOwnOrHeld
next_lock s station area locks true ok h is own apart =
    held_next s s station _ (Truth true) (same_next s station (Truth true) tt ok) (keep_locks s locks ok (apart refl) (λ l held.
    elim (own l held) [
      | inl e ↦
          let open_here : IsOpenAt s station area.table = (current_index s station, area, is, refl) in
          let P : ℕ → Type 0 = λ t. IsOpenAt s station t in
          let Q : ℕ → Type 0 = λ n. (1 ≤ n) × IsOpenAt s n l.table in
          subst Q (sym e.0) (h.counted, subst P (sym e.1) open_here)
      | inr was ↦ ok.open_ l was
    ]))
next_lock s station area locks false ok h is own apart = same_next s station (Truth false) tt ok

own_lock : (s : State) (station : ℕ) (area : Area) (number : ℕ) → AreOwnOrHeld s station area (with_lock s.locks.locks station area.table number)
unfolding AreOwnOrHeld
own_lock s station area number l held =
    elim (held_with s.locks.locks station area.table number l held) [
      | inl e ↦ inl (ap (λ (m : Lock). m.station) e, ap (λ (m : Lock). m.table) e)
      | inr was ↦ inr was
    ]

own_locks : (s : State) (station : ℕ) (area : Area) (numbers : List ℕ) → AreOwnOrHeld s station area (with_records s.locks.locks station area.table numbers)
unfolding AreOwnOrHeld
own_locks s station area numbers l held =
    elim (listed_or_held s.locks.locks station area.table numbers l held) [
      | inl e ↦ inl (ap (λ (m : Lock). m.station) e.2, ap (λ (m : Lock). m.table) e.2)
      | inr was ↦ inr was
    ]

place_counted : (content : Content) (o : Option ℕ) (number : ℕ) → IsCursorPlace content o → o ≡ Some number → 1 ≤ number
place_counted content o number at e = let P : Option ℕ → Type 0 = IsCursorPlace content in (subst P e at).0

pub next_lock_record : (s : State) (station : ℕ) → IsState s → HasStation s station → IfOk (lock_record s station) (IsNext s station)
next_lock_record s station ok h =
    of_found (IsNext s station) (area_of s station) NoTableInUse _ (λ area is.
    of_found (IsNext s station) area.cursor.at EndOfFile _ (λ number here.
    let one = place_counted (table_of s area) area.cursor.at number (ok.areas (station - 1) (current_index s station) area is).cursor.place here in
    next_lock s station area _ (free_record s.locks.locks station area.table number) ok h is (own_lock s station area number)
    (λ free. apart_record s.locks.locks station area.table number one free ok.apart)))

pub next_lock_records : (s : State) (station : ℕ) (numbers : List ℕ) → IsState s → HasStation s station → IfOk (lock_records s station numbers) (IsNext s station)
next_lock_records s station numbers ok h =
    of_found (IsNext s station) (area_of s station) NoTableInUse _ (λ area is.
    of_granted (IsNext s station) (nat_le (length numbers) MAX_RECORD_LOCKS) TooManyLocks _ (λ _.
    of_granted (IsNext s station) (are_records (record_count (table_of s area)) numbers) OutOfRange _ (λ there.
    let records = listed_counted (record_count (table_of s area)) numbers there in
    next_lock s station area _ (free_records s.locks.locks station area.table numbers) ok h is (own_locks s station area numbers)
    (λ free. apart_records s.locks.locks station area.table numbers records free ok.apart))))

pub next_lock_file : (s : State) (station : ℕ) → IsState s → HasStation s station → IfOk (lock_file s station) (IsNext s station)
next_lock_file s station ok h =
    of_found (IsNext s station) (area_of s station) NoTableInUse _ (λ area is.
    next_lock s station area _ (free_whole s.locks.locks station area.table) ok h is (own_lock s station area 0) (λ free. apart_whole s.locks.locks station area.table free ok.apart))
