-- Receipts that a caller kept, beside those of the seats.
use Rattle.std.proofs.Common.{◌≡◌, ◌↔◌, ℕ, ◌+◌, ◌-◌, ◌<◌, ◌≤◌, List, length, refl, ap, sym, ◌∙◌, subst, ⊎_elim, arith}
use Rattle.std.specs.Prelude.{All, Some, Result, Err, IsErrOf, slice_get, slice_index_or}
use Rattle.std.proofs.lemmas.Bool.{cases_lt}
use Rattle.catalogue_core.specs.declared.entry.Entry.{Entry}
use Rattle.shared_catalogue.specs.declared.receipt.Receipt.{Receipt}
use Rattle.shared_catalogue.specs.declared.settle.SettleFault.{SettleFault}
use Rattle.shared_catalogue.specs.declared.settle.SettleFault.TheVariants.{SeatMissing, ReceiptMismatch}
use Rattle.shared_catalogue.specs.OwnCalls.{of_station, AreOwn, IsLowestOther}
use Rattle.shared_catalogue.specs.Seats.{Seated, HasSeat, AreSeated, IsOwn, IsLowestMissing, IsMatched, IsLowestMismatch}

-- the list of a station is its entries of the journal
abbrev IsListed : List Entry → List (List Receipt) → ℕ → Type 0
IsListed journal lists s = slice_get lists (s - 1) ≡ Some (of_station journal s)

-- where the seats have their entries as receipts, a list that is a seat's receipts is the station's entries
listed_of : (journal : List Entry) (zs : List Seated) (lists : List (List Receipt)) (s : ℕ) → All (IsOwn journal) zs → HasSeat zs s → IsMatched zs lists s → IsListed journal lists s
listed_of journal zs lists s own has matched =
    let k = has.0 in
    let z = has.1 in
    let at : slice_index_or zs k z ≡ z = has.3 in
    let number : z.station ≡ s = has.4 in
    let mine : IsOwn journal z = subst (IsOwn journal) at (own k z has.2) in
    let same : slice_get lists (s - 1) ≡ Some z.receipts = subst (λ (y : Seated). y.station ≡ s → slice_get lists (s - 1) ≡ Some y.receipts) at (matched k z has.2) number in
    same ∙ ap Some (mine ∙ ap (of_station journal) number)

-- and the other way about
matched_of : (journal : List Entry) (zs : List Seated) (lists : List (List Receipt)) (s : ℕ) → All (IsOwn journal) zs → IsListed journal lists s → IsMatched zs lists s
matched_of journal zs lists s own listed = λ k d low number. listed ∙ ap Some (ap (of_station journal) (sym number) ∙ sym (own k d low))

-- lists that are those of the stations 1 to n, by the station
own_at : (journal : List Entry) (lists : List (List Receipt)) (n s : ℕ) → AreOwn journal lists n → 1 ≤ s → s ≤ n → IsListed journal lists s
own_at journal lists n s own low high =
    let back : (s - 1) + 1 ≡ s = omega arith in
    own (s - 1) (omega arith) ∙ ap (λ (t : ℕ). Some (of_station journal t)) back

mismatch_of : (journal : List Entry) (zs : List Seated) (lists : List (List Receipt)) (n a : ℕ) → AreSeated zs n → All (IsOwn journal) zs → length lists ≡ n → IsLowestOther journal lists a → IsLowestMismatch zs lists a
mismatch_of journal zs lists n a all own long other = (
  other.0,
  other.1,
  (λ matched. other.2 (listed_of journal zs lists a own (all a other.0 (omega (arith, other.1, long))) matched)),
  (λ t low high. matched_of journal zs lists t own (own_at journal lists (a - 1) t other.3 low (omega arith))),
)

lowest_once : (zs : List Seated) (lists : List (List Receipt)) (a s : ℕ) → IsLowestMismatch zs lists a → IsLowestMismatch zs lists s → a ≡ s
lowest_once zs lists a s x y =
    ⊎_elim
    (λ (l : a < s). absurd (x.2 (y.3 a x.0 l)))
    (λ (m : s ≤ a). ⊎_elim (λ (l : s < a). absurd (y.2 (x.3 s y.0 l))) (λ (k : a ≤ s). omega arith) (cases_lt s a))
    (cases_lt a s)

-- the fault names the lowest station whose receipts are others, and no other
pub mismatch_here : {T : Type 0} (journal : List Entry) (zs : List Seated) (lists : List (List Receipt)) (n a : ℕ) → AreSeated zs n → All (IsOwn journal) zs → length lists ≡ n → IsLowestOther journal lists a
    → (s : ℕ) → IsErrOf {T = T} (Err (ReceiptMismatch a)) (ReceiptMismatch s) ↔ (AreSeated zs n × IsLowestMismatch zs lists s)
mismatch_here journal zs lists n a all own long other s =
    let is = mismatch_of journal zs lists n a all own long other in (
      (λ e. let same : a ≡ s = cc in (all, subst (IsLowestMismatch zs lists) same is)),
      (λ both. ap (λ k. Err (ReceiptMismatch k)) (lowest_once zs lists a s is both.1)),
    )

-- where all receipts are the journal's there is none
pub mismatch_nowhere : {T : Type 0} (r : Result T SettleFault) (journal : List Entry) (zs : List Seated) (lists : List (List Receipt)) (n : ℕ) → ((s : ℕ) → r ≡ Err (ReceiptMismatch s) → ⊥) → All (IsOwn journal) zs → length lists ≡ n → AreOwn journal lists n
    → (s : ℕ) → IsErrOf r (ReceiptMismatch s) ↔ (AreSeated zs n × IsLowestMismatch zs lists s)
mismatch_nowhere r journal zs lists n other own long listed s = (
  (λ e. absurd (other s e)),
  (λ both. let m = both.1 in absurd (m.2 (matched_of journal zs lists s own (own_at journal lists n s listed m.0 (omega (arith, m.1, long)))))),
)

-- nor where a seat is missing
pub mismatch_unseated : {T : Type 0} (fault : SettleFault) (zs : List Seated) (lists : List (List Receipt)) (n : ℕ) → ((s : ℕ) → ¬ IsErrOf {T = T} (Err fault) (ReceiptMismatch s)) → ((s : ℕ) → IsErrOf {T = T} (Err fault) (SeatMissing s) ↔ IsLowestMissing zs n s)
    → (s : ℕ) → IsErrOf {T = T} (Err fault) (ReceiptMismatch s) ↔ (AreSeated zs n × IsLowestMismatch zs lists s)
mismatch_unseated (ReceiptMismatch a) zs lists n none missing s = absurd (none a refl)
mismatch_unseated (SeatMissing a) zs lists n none missing s =
    let lowest = (missing a).0 refl in
    ((λ e. absurd (none s e)), (λ both. absurd (lowest.2 (both.0 a lowest.0 lowest.1))))
