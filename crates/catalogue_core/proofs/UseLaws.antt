-- USE and the closing of a table: what is true of every state stays true.
use Rattle.std.proofs.Common.{◌≡◌, ◌≢◌, inl, inr, ℕ, ◌+◌, ◌-◌, ◌<◌, ◌≤◌, Bool, true, false, bytes_eq, cond, not, ◌&&◌, ◌||◌, ◌==◌, List, [], length, slice_index_or, Option, Some, None, Ok, refl, sym, ap, subst, ◌∙◌, arith, length-set}
use Rattle.std.specs.Prelude.{IfOk}
use Rattle.std.specs.List.{list_any, position}
use Rattle.std.proofs.lemmas.List.{get_or-set_other}
use Rattle.std.proofs.lemmas.List.Quantifiers.{position-Some}
use Rattle.std.proofs.lemmas.Bool.Decides.{nat_tests}
use Rattle.lock_table.specs.Locks.{Lock, is_own, IsHeld}
use Rattle.lock_table.specs.Laws.{held_without}
use Rattle.table_core.specs.declared.cursor.Cursor.{Cursor}
use Rattle.table_core.specs.declared.refusal.Refusal.TheVariants.{NoTable, TableInUse, AlreadyOpen}
use Rattle.table_core.specs.Content.{Content}
use Rattle.table_core.specs.Cursors.{IsCursor}
use Rattle.table_core.specs.Moves.{top}
use Rattle.table_core.specs.Laws.Moves.{top_leads}
use Rattle.catalogue_core.specs.declared.answer.Answer.TheVariants.{Done}
use Rattle.catalogue_core.specs.declared.area.Area.{Area}
use Rattle.catalogue_core.specs.declared.area.Station.{Station}
use Rattle.catalogue_core.specs.State.{State, new_station, station_at, area_of, area_at, table_at, has_open, bars_use, is_open_beside, is_in_use, with_area, without_lock, closed, schemas_of, HasStation, IsArea, IsState}
use Rattle.catalogue_core.specs.Step.{numbered, table_named, new_cursor, opened, use_table}
use Rattle.table_core.specs.Laws.Outcomes.{of_found, of_granted, of_passed}
use Rattle.catalogue_core.proofs.Cases.{when_ok}
use Rattle.catalogue_core.proofs.AddedLaws.{keep_same}
use Rattle.catalogue_core.proofs.AreaLaws.{current_index, put, station_put, has_still, area_put, open_cases, still_open, none_at, none_beside}
use Rattle.catalogue_core.proofs.KeptLaws.{Fits, keep_all, keep_empty, none_some, some_is, true_false}
use Rattle.catalogue_core.proofs.NextLaws.{IsNext, keep_without}

-- what the closing of the current area leaves of a state
record IsClosed (s : State) (station : ℕ) (c : State) : Type 0 where
  state : IsState c
  has : HasStation c station
  next : IsNext s station (c, Done)
  tables : c.tables ≡ s.tables
  here : current_index c station ≡ current_index s station
  empty : area_of c station ≡ None
  was : (a k : ℕ) (z : Area) → area_at c a k ≡ Some z → area_at s a k ≡ Some z

-- an empty area stays empty, or the locks in its table were released before
emptied : (s u : State) (station : ℕ) → u.stations ≡ s.stations → u.tables ≡ s.tables → u.names ≡ s.names → IsState u → HasStation u station
    → ((l : Lock) (y : Area) → IsHeld u.locks.locks l → area_of u station ≡ Some y → l.station ≡ station → l.table ≡ y.table → ⊥) → IsClosed s station (with_area u station None)
emptied s u station stations tables names ok h none =
    let kept = keep_empty u station ok h none in
    let P : List Station → Type 0 = λ l. (a k : ℕ) (z : Area) → slice_index_or (slice_index_or u.stations a new_station).areas k None ≡ Some z → slice_index_or (slice_index_or l a new_station).areas k None ≡ Some z in
    record {
      state = kept;
      has = has_still u station None h;
      next = record {
        state = kept;
        stations = length-set u.stations (station - 1) (put u station None) ∙ ap (λ (l : List Station). length l) stations;
        names = names;
        fields = ap schemas_of tables;
        indexes = keep_same s.tables u.tables tables;
        others = λ b n. get_or-set_other u.stations (station - 1) b (put u station None) new_station n ∙ ap (λ (l : List Station). slice_index_or l b new_station) stations;
        answer = tt;
      };
      tables = tables;
      here = ap (λ (st : Station). st.current - 1) (station_put u station None h) ∙ ap (λ (l : List Station). (slice_index_or l (station - 1) new_station).current - 1) stations;
      empty = area_put u station None h;
      was = λ a k z e. elim (open_cases u station None a k z h e) [
        | inl i ↦ absurd (none_some z i.2)
        | inr j ↦ subst P stations (λ _ _ _ f. f) a k z j.1
      ];
    }

own_true : (l : Lock) (s t : ℕ) → l.table ≡ t → l.station ≡ s → is_own s t l ≡ true
own_true l s t e f = own_by l.table l.station e f
  where
    own_by : (a b : ℕ) → a ≡ t → b ≡ s → (a == t && b == s) ≡ true
    own_by a b g i = grind (arith, nat_tests)

closed_by : (s : State) (station : ℕ) (o : Option Area) → area_of s station ≡ o → IsState s → HasStation s station → IsClosed s station (with_area (without_lock s station o) station None)
closed_by s station None e ok h = emptied s s station refl refl refl ok h (λ l y _ is _ _. absurd (none_some y (sym e ∙ is)))
closed_by s station (Some area) e ok h =
    emptied s (without_lock s station (Some area)) station refl refl refl (keep_without s station area.table ok) (record { counted = h.counted; inside = h.inside; each = h.each }) (λ l y held is own same.
    let left = (held_without s.locks.locks station area.table l held).1 in
    let one : area ≡ y = some_is area y (sym e ∙ is) in
    true_false (sym (own_true l station area.table (same ∙ ap (λ (x : Area). x.table) (sym one)) own) ∙ left))

is_closed : (s : State) (station : ℕ) → IsState s → HasStation s station → IsClosed s station (closed s station)
is_closed s station ok h = closed_by s station (area_of s station) refl ok h

-- USE without a name
pub next_close : (s : State) (station : ℕ) → IsState s → HasStation s station → IsNext s station (closed s station, Done)
next_close s station ok h = (is_closed s station ok h).next

not_false : (b : Bool) → not b ≡ true → b ≡ false
not_false true e = sym e
not_false false e = refl

differs : (a b : ℕ) → (a == b) ≡ false → a ≢ b
differs a b e = grind (arith, nat_tests)

same_test : (a b : ℕ) → a ≡ b → (a == b) ≡ true
same_test a b e = grind (arith, nat_tests)

free_of : (a b : ℕ) (x y : Bool) → a ≡ b → (a == b && (x || y)) ≡ false → (y ≡ false) × (x ≡ false)
free_of a b true y e f = absurd (true_false (sym (ap (λ (t : Bool). t && true) (same_test a b e)) ∙ f))
free_of a b false true e f = absurd (true_false (sym (ap (λ (t : Bool). t && true) (same_test a b e)) ∙ f))
free_of a b false false e f = (refl, refl)

-- the tests of USE say that the area fits in
use_fits : (s : State) (station number : ℕ) (exclusive : Bool) (cursor : Cursor) → HasStation s station → is_open_beside s.stations station number ≡ false → is_in_use s.stations station number exclusive ≡ false
    → Fits s station (record { table = number; exclusive = exclusive; cursor = cursor })
use_fits s station number exclusive cursor h beside used = record {
  once = λ k z n f g.
      let free = none_beside (has_open number) (station_at s station).areas (current_index s station) (station_at s station).current k None refl (omega (arith, h.each.counted)) beside n in
      differs z.table number (sym (ap (has_open number) f) ∙ free) (sym g);
  alone = λ b l z n f g.
      let p : Station → Bool = λ st. list_any (bars_use number exclusive) st.areas in
      let free = none_beside p s.stations (station - 1) station b new_station refl (omega (arith, h.counted)) used n in
      let here = none_at (bars_use number exclusive) (slice_index_or s.stations b new_station).areas l None refl free in
      free_of z.table number z.exclusive exclusive (sym g) (sym (ap (bars_use number exclusive) f) ∙ here);
}

-- a table is opened in the area that was closed
keep_opened : (s c : State) (station : ℕ) (y : Area) → IsClosed s station c → IsArea s.tables y → Fits s station y → IsState (with_area c station (Some y))
keep_opened s c station y closed_is area fits =
    let P : Area → Type 0 = IsArea c.tables in
    let Q : Area → Type 0 = Fits c station in
    let R : List Content → Type 0 = λ tables. IsArea tables y in
    let still : Fits c station y = record {
      once = λ k z n f. fits.once k z (λ g. n (g ∙ sym closed_is.here)) (closed_is.was (station - 1) k z f);
      alone = λ b l z n f. fits.alone b l z n (closed_is.was b l z f);
    } in
    keep_all c station (Some y) c.tables closed_is.state closed_is.has refl
    (λ x f. subst P (some_is y x f) (subst R (sym closed_is.tables) area))
    (λ x f. subst Q (some_is y x f) still)
    (λ a k z _ f. closed_is.state.areas a k z f)
    (λ l held.
    let was = closed_is.state.open_ l held in
    (was.0, still_open c station (Some y) l.station l.table closed_is.has was.1 (λ z _ is _. absurd (none_some z (sym closed_is.empty ∙ is)))))

opened_next : (s c : State) (station : ℕ) (y : Area) → IsClosed s station c → IsState (with_area c station (Some y)) → IsNext s station (with_area c station (Some y), Done)
opened_next s c station y closed_is ok = record {
  state = ok;
  stations = length-set c.stations (station - 1) (put c station (Some y)) ∙ closed_is.next.stations;
  names = closed_is.next.names;
  fields = closed_is.next.fields;
  indexes = closed_is.next.indexes;
  others = λ b n. get_or-set_other c.stations (station - 1) b (put c station (Some y)) new_station n ∙ closed_is.next.others b n;
  answer = tt;
}

none_number : (n : ℕ) → ◌≡◌ {A = Option ℕ} None (Some n) → ⊥
none_number n e = cc

some_number : (a b : ℕ) → ◌≡◌ {A = Option ℕ} (Some a) (Some b) → a ≡ b
some_number a b e = cc

numbered_inside : (o : Option ℕ) (n number : ℕ) → ((index : ℕ) → o ≡ Some index → index < n) → numbered o ≡ Some number → (1 ≤ number) × (number ≤ n)
numbered_inside None n number h e = absurd (none_number number e)
numbered_inside (Some index) n number h e = let f : index + 1 ≡ number = some_number (index + 1) number e in (omega arith, omega (arith, h index refl))

-- the first order of a table with indexes, and else that of the record numbers
order_by : (n : ℕ) (b : Bool) → (n == 0) ≡ b → cond b 0 1 ≤ n
order_by n true e = omega arith
order_by n false e = grind (arith, nat_tests)

new_is : (content : Content) → IsCursor content (new_cursor content)
new_is content = record { place = tt; order = order_by (length content.indexes) (length content.indexes == 0) refl }

-- USE
pub next_use : (s : State) (station : ℕ) (name : List ℕ) (exclusive : Bool) → IsState s → HasStation s station → IfOk (use_table s station name exclusive) (IsNext s station)
next_use s station name exclusive ok h =
    of_found (IsNext s station) (table_named s name) NoTable _ (λ number is.
    of_granted (IsNext s station) (not (is_open_beside s.stations station number)) AlreadyOpen _ (λ beside.
    of_granted (IsNext s station) (not (is_in_use s.stations station number exclusive)) TableInUse _ (λ used.
    of_passed (IsNext s station) (top (table_at s.tables number) (new_cursor (table_at s.tables number))) (λ cursor. Ok (opened s station number exclusive cursor, Done)) (λ cursor e.
    let there = numbered_inside (position (bytes_eq name) s.names) (length s.names) number (λ index f. (position-Some (bytes_eq name) s.names index [] f).0) is in
    let y : Area = record { table = number; exclusive = exclusive; cursor = cursor } in
    let at = when_ok (IsCursor (table_at s.tables number)) (top (table_at s.tables number) (new_cursor (table_at s.tables number))) cursor (top_leads (table_at s.tables number) (new_cursor (table_at s.tables number)) (new_is (table_at s.tables number))) e in
    let area : IsArea s.tables y = record { counted = there.0; inside = omega (arith, there.1, ok.named); cursor = at } in
    let fits = use_fits s station number exclusive cursor h (not_false (is_open_beside s.stations station number) beside) (not_false (is_in_use s.stations station number exclusive) used) in
    let closed_is = is_closed s station ok h in
    opened_next s (closed s station) station y closed_is (keep_opened s (closed s station) station y closed_is area fits)))))
