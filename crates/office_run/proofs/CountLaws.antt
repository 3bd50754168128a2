-- What is counted of a journal, entry by entry.
use Rattle.std.proofs.Common.{◌≡◌, ◌≢◌, inl, inr, ℕ, zero, suc, ◌+◌, ◌-◌, ◌<◌, ◌≤◌, ◌&&◌, ◌==◌, true, false, List, [], ◌∷◌, Some, length, take, get_or, count_by, sym, ap, subst, ◌∙◌, arith}
use Rattle.std.specs.List.{slice_get}
use Rattle.std.proofs.lemmas.Bool.Decides.{eqb_tells}
use Rattle.std.proofs.lemmas.List.{get_or-set_same, get_or-set_other, length-set, length-take}
use Rattle.std.proofs.lemmas.Option.{get_or_from_slice_get, slice_get_within}
use Rattle.std.proofs.lemmas.List.Sums.{count_by-le-length, count_by_more_no, count_by_more_yes}
use Rattle.std.proofs.Math.Bool.{and-false, and-true}
use Rattle.std.proofs.Math.ListN.{set}
use Rattle.catalogue_core.specs.declared.entry.Entry.{Entry}
use Rattle.catalogue_core.specs.Replay.{Opened, AreOfStations, IsOfStation}
use Rattle.office_run.specs.Counts.{is_refused, is_refused_of, AreRefused}

-- the counts of the first entries of a journal
pub record IsCounted (stations : ℕ) (journal : List Entry) (first refused : ℕ) (by_station : List ℕ) : Type 0 where
  pub total : refused ≡ count_by is_refused (take first journal)
  pub each : AreRefused stations (take first journal) by_station

-- one entry more, whose command was not refused
pub with_done : (stations : ℕ) (journal : List Entry) (i refused : ℕ) (by_station : List ℕ) (e : Entry)
    → slice_get journal i ≡ Some e → is_refused e ≡ false
    → IsCounted stations journal i refused by_station → IsCounted stations journal (i + 1) refused by_station
with_done stations journal i refused by_station e at done before =
    let inside : i < length journal = slice_get_within journal i e at in
    let found : get_or journal i e ≡ e = get_or_from_slice_get journal i e e at in
    let no : is_refused (get_or journal i e) ≡ false = ap is_refused found ∙ done in
    let none : (station : ℕ) → is_refused_of station (get_or journal i e) ≡ false =
    λ station. ap (λ b. (get_or journal i e).station == station && b) no ∙ and-false ((get_or journal i e).station == station) in
    record {
      total = before.total ∙ sym (count_by_more_no is_refused journal i e inside no);
      each = record {
        each_station = before.each.each_station;
        counted = λ index within. before.each.counted index within ∙ sym (count_by_more_no (is_refused_of (index + 1)) journal i e inside (none (index + 1)));
      };
    }

-- whose command it was that was refused
refused_by : (e : Entry) (station : ℕ) → is_refused e ≡ true → is_refused_of station e ≡ (e.station == station)
refused_by e station refusal = ap (λ b. e.station == station && b) refusal ∙ and-true (e.station == station)

-- the count of a station after its command was refused, and of another's
one_count : (journal : List Entry) (i : ℕ) (by_station : List ℕ) (e : Entry) (index : ℕ)
    → i < length journal → get_or journal i e ≡ e → is_refused e ≡ true → 1 ≤ e.station → e.station ≤ length by_station
    → get_or by_station index 0 ≡ count_by (is_refused_of (index + 1)) (take i journal)
    → get_or (set by_station (e.station - 1) (get_or by_station (e.station - 1) 0 + 1)) index 0 ≡ count_by (is_refused_of (index + 1)) (take (i + 1) journal)
one_count journal i by_station e index inside found refusal one most before = elim (eqb_tells e.station (index + 1)) [
  | inl same ↦
      let at : e.station - 1 ≡ index = omega (arith, same.1) in
      let is_its : is_refused_of (index + 1) (get_or journal i e) ≡ true = ap (is_refused_of (index + 1)) found ∙ refused_by e (index + 1) refusal ∙ same.0 in
      let room : index < length by_station = omega (arith, same.1, most) in
      subst (λ k. get_or (set by_station k (get_or by_station k 0 + 1)) index 0 ≡ count_by (is_refused_of (index + 1)) (take (i + 1) journal)) (sym at)
      (get_or-set_same by_station index (get_or by_station index 0 + 1) 0 room ∙ ap (λ n. n + 1) before ∙ sym (count_by_more_yes (is_refused_of (index + 1)) journal i e inside is_its))
  | inr other ↦
      let apart : index ≢ e.station - 1 = λ at. other.1 (omega (arith, at, one)) in
      let not_its : is_refused_of (index + 1) (get_or journal i e) ≡ false = ap (is_refused_of (index + 1)) found ∙ refused_by e (index + 1) refusal ∙ other.0 in
      get_or-set_other by_station (e.station - 1) index (get_or by_station (e.station - 1) 0 + 1) 0 apart ∙ before
      ∙ sym (count_by_more_no (is_refused_of (index + 1)) journal i e inside not_its)
]

-- one entry more, whose command was refused
pub with_refused : (stations : ℕ) (journal : List Entry) (i refused : ℕ) (by_station : List ℕ) (e : Entry)
    → slice_get journal i ≡ Some e → is_refused e ≡ true → 1 ≤ e.station → e.station ≤ stations
    → IsCounted stations journal i refused by_station
    → IsCounted stations journal (i + 1) (refused + 1) (set by_station (e.station - 1) (get_or by_station (e.station - 1) 0 + 1))
with_refused stations journal i refused by_station e at refusal one most before =
    let inside : i < length journal = slice_get_within journal i e at in
    let found : get_or journal i e ≡ e = get_or_from_slice_get journal i e e at in
    let is_one : is_refused (get_or journal i e) ≡ true = ap is_refused found ∙ refusal in
    record {
      total = ap (λ n. n + 1) before.total ∙ sym (count_by_more_yes is_refused journal i e inside is_one);
      each = record {
        each_station = length-set by_station (e.station - 1) (get_or by_station (e.station - 1) 0 + 1) ∙ before.each.each_station;
        counted = λ index within.
            one_count journal i by_station e index inside found refusal one (subst (λ n. e.station ≤ n) (sym before.each.each_station) most) (before.each.counted index within);
      };
    }

-- no count is greater than the number of entries
pub few : (stations : ℕ) (journal : List Entry) (i refused : ℕ) (by_station : List ℕ) (index : ℕ) → index < stations
    → IsCounted stations journal i refused by_station → get_or by_station index 0 ≤ length journal
few stations journal i refused by_station index within counts =
    subst (λ n. n ≤ length journal) (sym (counts.each.counted index within))
    (omega (arith, count_by-le-length (is_refused_of (index + 1)) (take i journal), length-take i journal))

-- an entry of a journal is of one of the stations
pub of_station : (opened : Opened) (journal : List Entry) (i : ℕ) (e : Entry) → AreOfStations opened journal → slice_get journal i ≡ Some e → IsOfStation opened e
of_station opened [] i e all at = absurd cc
of_station opened (x ∷ xs) zero e all at = subst (IsOfStation opened) (get_or_from_slice_get (x ∷ xs) zero e e at) all.0
of_station opened (x ∷ xs) (suc i) e all at = of_station opened xs i e all.1 at
