-- What is true of every state is true at opening.
use Rattle.std.proofs.Common.{◌≡◌, ℕ, zero, suc, ◌-◌, ◌≤◌, List, [], ◌++◌, length, take, replicate, slice_index_or, Option, None, refl, sym, ap, subst, ◌∙◌, arith}
use Rattle.std.proofs.lemmas.List.{length-map, length-replicate, take_all}
use Rattle.catalogue_core.specs.declared.area.Area.{Area}
use Rattle.catalogue_core.specs.declared.area.Station.{Station}
use Rattle.catalogue_core.specs.declared.area.TheConstants.{MAX_AREAS}
use Rattle.catalogue_core.specs.declared.opening.TheConstants.{MAX_TABLES}
use Rattle.catalogue_core.specs.State.{new_station, area_at, IsStation, IsState}
use Rattle.catalogue_core.specs.Replay.{Opened, start}
use Rattle.catalogue_core.specs.Tables.{NamedTable}
use Rattle.catalogue_core.proofs.KeptLaws.{none_some}

-- stations that are new
pub new_stations : (n k : ℕ) (xs : List Station) → xs ≡ [] → k ≡ 0 → take n xs ++ replicate (n - k) new_station ≡ replicate n new_station
new_stations n k xs e z =
    let count : n - k ≡ n = omega arith in
    ap (λ (ys : List Station). take n ys ++ replicate (n - k) new_station) e
    ∙ ap (λ (ys : List Station). ys ++ replicate (n - k) new_station) (take_all n [] (omega arith))
    ∙ ap (λ (m : ℕ). replicate m new_station) count

abbrev none_of : (A : Type 0) → Option A
none_of A = None

each_new : (n a : ℕ) → slice_index_or (replicate n new_station) a new_station ≡ new_station
each_new zero a = refl
each_new (suc n) zero = refl
each_new (suc n) (suc a) = each_new n a

no_area : (n k : ℕ) → slice_index_or (replicate n (none_of Area)) k (none_of Area) ≡ None
no_area zero k = refl
no_area (suc n) zero = refl
no_area (suc n) (suc k) = no_area n k

nothing_open : (opened : Opened) (a k : ℕ) → area_at (start opened) a k ≡ None
nothing_open opened a k = ap (λ (st : Station). slice_index_or st.areas k None) (each_new opened.stations a) ∙ no_area MAX_AREAS k

pub start_is : (opened : Opened) → length opened.tables ≤ MAX_TABLES → IsState (start opened)
start_is opened count_bounded =
    let P : Station → Type 0 = IsStation in
    record {
      count_bounded = omega (arith, count_bounded, length-map opened.tables (λ (t : NamedTable). t.content));
      named = length-map opened.tables (λ (t : NamedTable). t.name) ∙ sym (length-map opened.tables (λ (t : NamedTable). t.content));
      lockable = sym (length-map opened.tables (λ (t : NamedTable). t.content));
      lockers = sym (length-replicate opened.stations new_station);
      each = λ a _. subst P (sym (each_new opened.stations a)) (record { areas = length-replicate MAX_AREAS (none_of Area); counted = omega arith; inside = omega arith });
      areas = λ a k x e. absurd (none_some x (sym (nothing_open opened a k) ∙ e));
      once = λ a k l x y _ e _. absurd (none_some x (sym (nothing_open opened a k) ∙ e));
      alone = λ a b k l x y _ e _. absurd (none_some x (sym (nothing_open opened a k) ∙ e));
      apart = λ a b h _. absurd h;
      open_ = λ l h. absurd h;
    }
