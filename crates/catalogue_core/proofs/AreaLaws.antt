-- What is open where, after another area was put in place of a station's current one.
use Rattle.std.proofs.Common.{◌≡◌, ◌≢◌, ◌⊎◌, inl, inr, ℕ, zero, suc, ◌+◌, ◌-◌, Bool, false, List, [], ◌∷◌, ◌++◌, take, drop, get_or, slice_set, slice_index_or, Option, Some, None, refl, sym, ap, subst, ◌∙◌, arith, length-set}
use Rattle.std.specs.List.{list_any}
use Rattle.std.proofs.lemmas.Bool.{cases_eq, or_parts}
use Rattle.std.proofs.lemmas.List.{get_or-set_same, get_or-set_other}
use Rattle.catalogue_core.specs.declared.area.Area.{Area}
use Rattle.catalogue_core.specs.declared.area.Station.{Station}
use Rattle.catalogue_core.specs.State.{State, new_station, station_at, area_of, area_at, with_area, IsOpenAt, IsStation, HasStation}

-- the index of the station's current area
abbrev pub current_index : State → ℕ → ℕ
current_index s station = (station_at s station).current - 1

abbrev pub put : State → ℕ → Option Area → Station
put s station x = record { current = (station_at s station).current; areas = slice_set (station_at s station).areas (current_index s station) x }

-- the station whose area it is
pub station_put : (s : State) (station : ℕ) (x : Option Area) → HasStation s station → station_at (with_area s station x) station ≡ put s station x
station_put s station x h = get_or-set_same s.stations (station - 1) (put s station x) new_station (omega (arith, h.counted, h.inside))

pub still_station : (s : State) (station : ℕ) (x : Option Area) → HasStation s station → IsStation (put s station x)
still_station s station x h = record {
  areas = length-set (station_at s station).areas (current_index s station) x ∙ h.each.areas;
  counted = h.each.counted;
  inside = h.each.inside;
}

-- there is still the station
pub has_still : (s : State) (station : ℕ) (x : Option Area) → HasStation s station → HasStation (with_area s station x) station
has_still s station x h = record {
  counted = h.counted;
  inside = omega (arith, h.inside, length-set s.stations (station - 1) (put s station x));
  each = (let P : Station → Type 0 = IsStation in subst P (sym (station_put s station x h)) (still_station s station x h));
}

-- the area is there now
pub area_put : (s : State) (station : ℕ) (x : Option Area) → HasStation s station → area_of (with_area s station x) station ≡ x
area_put s station x h =
    ap (λ (st : Station). slice_index_or st.areas (st.current - 1) None) (station_put s station x h)
    ∙ get_or-set_same (station_at s station).areas (current_index s station) x None (omega (arith, h.each.areas, h.each.counted, h.each.inside))

-- the area is at the index of the current one
pub put_here : (s : State) (station : ℕ) (x : Option Area) → HasStation s station → area_at (with_area s station x) (station - 1) (current_index s station) ≡ x
put_here s station x h =
    ap (λ (st : Station). slice_index_or st.areas (current_index s station) None) (station_put s station x h)
    ∙ get_or-set_same (station_at s station).areas (current_index s station) x None (omega (arith, h.each.areas, h.each.counted, h.each.inside))

-- all others are as they were
pub area_elsewhere : (s : State) (station : ℕ) (x : Option Area) (a k : ℕ) → HasStation s station → (a ≢ station - 1) ⊎ (k ≢ current_index s station) → area_at (with_area s station x) a k ≡ area_at s a k
area_elsewhere s station x a k h (inl n) = ap (λ (st : Station). slice_index_or st.areas k None) (get_or-set_other s.stations (station - 1) a (put s station x) new_station n)
area_elsewhere s station x a k h (inr n) =
    elim (cases_eq a (station - 1)) [
      | inl e ↦
          ap (λ (b : ℕ). area_at (with_area s station x) b k) e
          ∙ ap (λ (st : Station). slice_index_or st.areas k None) (station_put s station x h)
          ∙ get_or-set_other (station_at s station).areas (current_index s station) k x None n
          ∙ ap (λ (b : ℕ). area_at s b k) (sym e)
      | inr m ↦ ap (λ (st : Station). slice_index_or st.areas k None) (get_or-set_other s.stations (station - 1) a (put s station x) new_station m)
    ]

-- a table that was open is open still, if it was not open in the current area or is open in the new one
pub still_open : (s : State) (station : ℕ) (x : Option Area) (other number : ℕ) → HasStation s station → IsOpenAt s other number
    → ((y : Area) → other - 1 ≡ station - 1 → area_of s station ≡ Some y → y.table ≡ number → (z : Area) × (x ≡ Some z) × (z.table ≡ number))
    → IsOpenAt (with_area s station x) other number
still_open s station x other number h was stays =
    elim (cases_eq (other - 1) (station - 1)) [
      | inr n ↦ (was.0, was.1, area_elsewhere s station x (other - 1) was.0 h (inl n) ∙ was.2, was.3)
      | inl here ↦ elim (cases_eq was.0 (current_index s station)) [
        | inr n ↦ (was.0, was.1, area_elsewhere s station x (other - 1) was.0 h (inr n) ∙ was.2, was.3)
        | inl there ↦
            let current : area_of s station ≡ Some was.1 =
            sym (ap (λ (b : ℕ). area_at s b was.0) here ∙ ap (area_at s (station - 1)) there) ∙ was.2 in
            let new = stays was.1 here current was.3 in
            (current_index s station, new.0, ap (λ (b : ℕ). area_at (with_area s station x) b (current_index s station)) here ∙ put_here s station x h ∙ new.1, new.2)
      ]
    ]

-- what is open then is the area that was put there, or was open elsewhere
pub open_cases : (s : State) (station : ℕ) (x : Option Area) (a k : ℕ) (y : Area) → HasStation s station → area_at (with_area s station x) a k ≡ Some y
    → ((a ≡ station - 1) × (k ≡ current_index s station) × (x ≡ Some y)) ⊎ (((a ≢ station - 1) ⊎ (k ≢ current_index s station)) × (area_at s a k ≡ Some y))
open_cases s station x a k y h e =
    elim (cases_eq a (station - 1)) [
      | inl same ↦ elim (cases_eq k (current_index s station)) [
        | inl there ↦
            let here : area_at (with_area s station x) a k ≡ x =
            ap (λ (b : ℕ). area_at (with_area s station x) b k) same
            ∙ ap (λ (st : Station). slice_index_or st.areas k None) (station_put s station x h)
            ∙ ap (λ (l : ℕ). slice_index_or (put s station x).areas l None) there
            ∙ get_or-set_same (station_at s station).areas (current_index s station) x None (omega (arith, h.each.areas, h.each.counted, h.each.inside)) in
            inl (same, there, sym here ∙ e)
        | inr other ↦ inr (inr other, sym (area_elsewhere s station x a k h (inr other)) ∙ e)
      ]
      | inr other ↦ inr (inl other, sym (area_elsewhere s station x a k h (inl other)) ∙ e)
    ]

-- a test that nothing in a list passes
pub none_at : {X : Type 0} (p : X → Bool) (xs : List X) (k : ℕ) (d : X) → p d ≡ false → list_any p xs ≡ false → p (get_or xs k d) ≡ false
none_at p [] k d fails e = fails
none_at p (x ∷ xs) zero d fails e = (or_parts (p x) (list_any p xs) e).0
none_at p (x ∷ xs) (suc k) d fails e = none_at p xs k d fails ((or_parts (p x) (list_any p xs) e).1)

-- a test that nothing beside an index passes
pub none_beside : {X : Type 0} (p : X → Bool) (xs : List X) (i j k : ℕ) (d : X) → p d ≡ false → j ≡ i + 1 → list_any p (take i xs ++ drop j xs) ≡ false → k ≢ i → p (get_or xs k d) ≡ false
none_beside p [] i j k d fails e f n = fails
none_beside p (x ∷ xs) zero zero k d fails e f n = absurd (omega arith)
none_beside p (x ∷ xs) zero (suc j) zero d fails e f n = absurd (n refl)
none_beside p (x ∷ xs) zero (suc j) (suc k) d fails e f n =
    let start : j ≡ 0 = omega arith in
    none_at p xs k d fails (ap (λ (m : ℕ). list_any p (drop m xs)) (sym start) ∙ f)
none_beside p (x ∷ xs) (suc i) zero k d fails e f n = absurd (omega arith)
none_beside p (x ∷ xs) (suc i) (suc j) zero d fails e f n = (or_parts (p x) (list_any p (take i xs ++ drop j xs)) f).0
none_beside p (x ∷ xs) (suc i) (suc j) (suc k) d fails e f n = none_beside p xs i j k d fails (omega arith) ((or_parts (p x) (list_any p (take i xs ++ drop j xs)) f).1) (λ g. n (ap suc g))
