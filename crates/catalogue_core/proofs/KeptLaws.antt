-- Each command keeps what is true of every state.
use Rattle.std.proofs.Common.{◌≡◌, ◌≢◌, ◌⊎◌, inl, inr, ℕ, zero, suc, ◌-◌, ◌<◌, ◌≤◌, true, false, List, [], ◌∷◌, length, slice_set, slice_index_or, Option, Some, None, refl, sym, ap, subst, ◌∙◌, arith, length-set}
use Rattle.std.proofs.lemmas.Bool.{cases_eq}
use Rattle.std.proofs.lemmas.List.{get_or-set_same, get_or-set_other}
use Rattle.table_core.specs.declared.cursor.Cursor.{Cursor}
use Rattle.table_core.specs.Content.{Content}
use Rattle.table_core.specs.Cursors.{IsCursor}
use Rattle.lock_table.specs.Locks.{Lock, IsHeld, AreApart}
use Rattle.catalogue_core.specs.declared.area.Area.{Area}
use Rattle.catalogue_core.specs.declared.area.Station.{Station}
use Rattle.catalogue_core.specs.declared.opening.TheConstants.{MAX_TABLES}
use Rattle.catalogue_core.specs.State.{State, new_station, area_of, area_at, no_content, table_at, table_of, area_with, with_area, with_cursor, with_held, IsStation, HasStation, IsOpenAt, IsArea, IsState}
use Rattle.catalogue_core.specs.Step.{with_edit}
use Rattle.catalogue_core.proofs.AreaLaws.{current_index, put, open_cases, still_station, still_open}

-- an area that may be open as the current one of a station
pub record Fits (s : State) (station : ℕ) (y : Area) : Type 0 where
  pub once : (k : ℕ) (z : Area) → k ≢ current_index s station → area_at s (station - 1) k ≡ Some z → y.table ≢ z.table
  pub alone : (b l : ℕ) (z : Area) → b ≢ station - 1 → area_at s b l ≡ Some z → y.table ≡ z.table → (y.exclusive ≡ false) × (z.exclusive ≡ false)

-- with other tables, as many
abbrev pub with_tables : State → List Content → State
with_tables s tables = record { names = s.names; tables = tables; locks = s.locks; stations = s.stations }

pub each_set : (stations : List Station) (p : ℕ) (st : Station) → IsStation st → ((a : ℕ) → a < length stations → IsStation (slice_index_or stations a new_station)) → (a : ℕ) → a < length (slice_set stations p st) → IsStation (slice_index_or (slice_set stations p st) a new_station)
each_set [] p st h each a i = each a i
each_set (x ∷ xs) zero st h each zero i = h
each_set (x ∷ xs) zero st h each (suc a) i = each (suc a) i
each_set (x ∷ xs) (suc p) st h each zero i = each zero (omega arith)
each_set (x ∷ xs) (suc p) st h each (suc a) i = each_set xs p st h (λ b j. each (suc b) (omega arith)) a (omega arith)

-- another area and other tables keep a state, where the area fits in, and each area's cursor is in its
-- table
pub keep_all : (s : State) (station : ℕ) (x : Option Area) (tables : List Content) → IsState s → HasStation s station → length tables ≡ length s.tables
    → ((y : Area) → x ≡ Some y → IsArea tables y) → ((y : Area) → x ≡ Some y → Fits s station y)
    → ((a k : ℕ) (z : Area) → ((a ≢ station - 1) ⊎ (k ≢ current_index s station)) → area_at s a k ≡ Some z → IsArea tables z)
    → ((l : Lock) → IsHeld s.locks.locks l → (1 ≤ l.station) × IsOpenAt (with_area s station x) l.station l.table)
    → IsState (with_tables (with_area s station x) tables)
keep_all s station x tables ok h len own fits others locks = record {
  count_bounded = subst (λ (n : ℕ). n ≤ MAX_TABLES) (sym len) ok.count_bounded;
  named = ok.named ∙ sym len;
  lockable = ok.lockable ∙ sym len;
  lockers = ok.lockers ∙ sym (length-set s.stations (station - 1) (put s station x));
  each = each_set s.stations (station - 1) (put s station x) (still_station s station x h) ok.each;
  areas = λ a k y e. elim (open_cases s station x a k y h e) [ inl i ↦ own y i.2 | inr j ↦ others a k y j.0 j.1 ];
  once = λ a k l y z n e f. elim (open_cases s station x a k y h e) [
    | inl i ↦ elim (open_cases s station x a l z h f) [
      | inl j ↦ absurd (n (i.1 ∙ sym j.1))
      | inr j ↦ (fits y i.2).once l z (λ g. n (i.1 ∙ sym g)) (ap (λ (b : ℕ). area_at s b l) (sym i.0) ∙ j.1)
    ]
    | inr i ↦ elim (open_cases s station x a l z h f) [
      | inl j ↦ λ same. (fits z j.2).once k y (λ g. n (g ∙ sym j.1)) (ap (λ (b : ℕ). area_at s b k) (sym j.0) ∙ i.1) (sym same)
      | inr j ↦ ok.once a k l y z n i.1 j.1
    ]
  ];
  alone = λ a b k l y z n e f. elim (open_cases s station x a k y h e) [
    | inl i ↦ elim (open_cases s station x b l z h f) [
      | inl j ↦ absurd (n (i.0 ∙ sym j.0))
      | inr j ↦ λ same. ((fits y i.2).alone b l z (λ g. n (i.0 ∙ sym g)) j.1 same).0
    ]
    | inr i ↦ elim (open_cases s station x b l z h f) [
      | inl j ↦ λ same. ((fits z j.2).alone a k y (λ g. n (g ∙ sym j.0)) i.1 (sym same)).1
      | inr j ↦ ok.alone a b k l y z n i.1 j.1
    ]
  ];
  apart = ok.apart;
  open_ = locks;
}

-- other locks, on tables that are open
pub keep_locks : (s : State) (locks : List Lock) → IsState s → AreApart locks → ((l : Lock) → IsHeld locks l → (1 ≤ l.station) × IsOpenAt s l.station l.table) → IsState (with_held s locks)
keep_locks s locks ok apart there = record {
  count_bounded = ok.count_bounded;
  named = ok.named;
  lockable = ok.lockable;
  lockers = ok.lockers;
  each = ok.each;
  areas = ok.areas;
  once = ok.once;
  alone = ok.alone;
  apart = apart;
  open_ = there;
}

-- the area that is open fits in, with any cursor
pub same_fits : (s : State) (station : ℕ) (area : Area) (cursor : Cursor) → IsState s → area_of s station ≡ Some area → Fits s station (area_with area cursor)
same_fits s station area cursor ok e = record {
  once = λ k z n f. ok.once (station - 1) (current_index s station) k area z (λ g. n (sym g)) e f;
  alone = λ b l z n f same. (ok.alone (station - 1) b (current_index s station) l area z (λ g. n (sym g)) e f same, ok.alone b (station - 1) l (current_index s station) z area n f e (sym same));
}

pub true_false : true ≡ false → ⊥
true_false e = cc

pub some_is : (x y : Area) → ◌≡◌ {A = Option Area} (Some x) (Some y) → x ≡ y
some_is x y e = cc

-- with another cursor, all tables that were open are open still
pub cursor_open : (s : State) (station : ℕ) (area : Area) (cursor : Cursor) → IsState s → HasStation s station → area_of s station ≡ Some area
    → (l : Lock) → IsHeld s.locks.locks l → (1 ≤ l.station) × IsOpenAt (with_cursor s station area cursor) l.station l.table
cursor_open s station area cursor ok h e l held =
    let was = ok.open_ l held in
    (was.0, still_open s station (Some (area_with area cursor)) l.station l.table h was.1 (λ y _ is same. (area_with area cursor, refl, ap (λ (x : Area). x.table) (some_is area y (sym e ∙ is)) ∙ same)))

-- another cursor
pub keep_cursor : (s : State) (station : ℕ) (area : Area) (cursor : Cursor) → IsState s → HasStation s station → area_of s station ≡ Some area → IsCursor (table_of s area) cursor → IsState (with_cursor s station area cursor)
keep_cursor s station area cursor ok h e at =
    let old = ok.areas (station - 1) (current_index s station) area e in
    let P : Area → Type 0 = IsArea s.tables in
    let Q : Area → Type 0 = Fits s station in
    keep_all s station (Some (area_with area cursor)) s.tables ok h refl
    (λ y f. subst P (some_is (area_with area cursor) y f) (record { counted = old.counted; inside = old.inside; cursor = at }))
    (λ y f. subst Q (some_is (area_with area cursor) y f) (same_fits s station area cursor ok e))
    (λ a k z _ f. ok.areas a k z f)
    (cursor_open s station area cursor ok h e)

pub none_some : (y : Area) → ◌≡◌ {A = Option Area} None (Some y) → ⊥
none_some y e = cc

-- a table that is open exclusively in the current area is open nowhere else
pub no_other : (s : State) (station : ℕ) (area : Area) → IsState s → area_of s station ≡ Some area → area.exclusive ≡ true → (a k : ℕ) (z : Area) → ((a ≢ station - 1) ⊎ (k ≢ current_index s station)) → area_at s a k ≡ Some z → z.table ≡ area.table → ⊥
no_other s station area ok is only a k z (inl n) f same =
    let shared : area.exclusive ≡ false = ok.alone (station - 1) a (current_index s station) k area z (λ g. n (sym g)) is f (sym same) in
    true_false (sym only ∙ shared)
no_other s station area ok is only a k z (inr n) f same =
    elim (cases_eq a (station - 1)) [
      | inl here ↦ ok.once (station - 1) k (current_index s station) z area n (ap (λ (b : ℕ). area_at s b k) (sym here) ∙ f) is same
      | inr there ↦ true_false (sym only ∙ ok.alone (station - 1) a (current_index s station) k area z (λ g. there (sym g)) is f (sym same))
    ]

-- the area is empty, and the station has no lock in the table that was open there
pub keep_empty : (s : State) (station : ℕ) → IsState s → HasStation s station
    → ((l : Lock) (y : Area) → IsHeld s.locks.locks l → area_of s station ≡ Some y → l.station ≡ station → l.table ≡ y.table → ⊥)
    → IsState (with_area s station None)
keep_empty s station ok h none =
    keep_all s station None s.tables ok h refl (λ y f. absurd (none_some y f)) (λ y f. absurd (none_some y f)) (λ a k z _ f. ok.areas a k z f) (λ l held.
    let was = ok.open_ l held in
    let one : 1 ≤ l.station = was.0 in
    (was.0, still_open s station None l.station l.table h was.1 (λ y here is same. absurd (none l y held is (omega (arith, one, h.counted, here)) (sym same)))))

-- an edited table, with the cursor in it: the other cursors are in it too, or there are none
pub keep_edit : (s : State) (station : ℕ) (area : Area) (e : Content × Cursor) → IsState s → HasStation s station → area_of s station ≡ Some area → IsCursor e.0 e.1
    → ((cursor : Cursor) → IsCursor (table_of s area) cursor → IsCursor e.0 cursor) ⊎ (area.exclusive ≡ true) → IsState (with_edit s station area e)
keep_edit s station area e ok h is at kept =
    let old = ok.areas (station - 1) (current_index s station) area is in
    let tables = slice_set s.tables (area.table - 1) e.0 in
    let len : length tables ≡ length s.tables = length-set s.tables (area.table - 1) e.0 in
    let here : table_at tables area.table ≡ e.0 = get_or-set_same s.tables (area.table - 1) e.0 no_content (omega (arith, old.counted, old.inside)) in
    let P : Area → Type 0 = IsArea tables in
    let Q : Area → Type 0 = Fits s station in
    let R : Content → Type 0 = λ t. IsCursor t e.1 in
    keep_all s station (Some (area_with area e.1)) tables ok h len
    (λ y f. subst P (some_is (area_with area e.1) y f) (record { counted = old.counted; inside = omega (arith, old.inside, len); cursor = subst R (sym here) at }))
    (λ y f. subst Q (some_is (area_with area e.1) y f) (same_fits s station area e.1 ok is))
    (λ a k z n f.
    let was = ok.areas a k z f in
    let S : Content → Type 0 = λ t. IsCursor t z.cursor in
    elim (cases_eq z.table area.table) [
      | inl same ↦ elim kept [
        | inl more ↦
            let T : ℕ → Type 0 = λ m. IsCursor (table_at s.tables m) z.cursor in
            let there : table_at tables z.table ≡ e.0 = ap (table_at tables) same ∙ here in
            record { counted = was.counted; inside = omega (arith, was.inside, len); cursor = subst S (sym there) (more z.cursor (subst T same was.cursor)) }
        | inr only ↦ absurd (no_other s station area ok is only a k z n f same)
      ]
      | inr other ↦
          let there : table_at tables z.table ≡ table_at s.tables z.table = get_or-set_other s.tables (area.table - 1) (z.table - 1) e.0 no_content (λ g. other (omega (arith, g, was.counted, old.counted))) in
          record { counted = was.counted; inside = omega (arith, was.inside, len); cursor = subst S (sym there) was.cursor }
    ])
    (cursor_open s station area e.1 ok h is)
