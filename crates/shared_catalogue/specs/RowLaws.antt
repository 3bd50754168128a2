-- Laws of the status rows of a history.
use Rattle.std.proofs.Common.{◌≡◌, ℕ, zero, suc, ◌+◌, ◌-◌, ◌<◌, Bool, true, false, true≢false, List, [], ◌∷◌, ◌++◌, length, map, take, replicate, slice_index_or, refl, ap, sym, ◌∙◌, arith, length-append}
use Rattle.std.specs.Prelude.{Option, Some, None, nat_le, if◌then◌else◌, slice_get}
use Rattle.std.specs.List.{list_any, position}
use Rattle.std.proofs.lemmas.List.{length-map, map-append, take-append-le, take_all}
use Rattle.std.proofs.lemmas.List.Quantifiers.{position-Some}
use Rattle.ndx_index.specs.Laws.Counting.{length-counted}
use Rattle.ndx_index.specs.Places.{counted}
use Rattle.catalogue_core.specs.declared.area.Station.{Station}
use Rattle.catalogue_core.specs.declared.command.Command.{Command}
use Rattle.catalogue_core.specs.declared.entry.Entry.{Entry}
use Rattle.catalogue_core.specs.declared.opening.TheConstants.{MAX_TABLES}
use Rattle.catalogue_core.specs.declared.status.StatusRow.{StatusRow}
use Rattle.catalogue_core.specs.declared.status.TableStatus.{TableStatus}
use Rattle.catalogue_core.specs.Replay.{Opened, History, history, start, with_entry, entry, answer_of}
use Rattle.catalogue_core.specs.State.{new_station}
use Rattle.catalogue_core.specs.Status.{row, last_entry, table_status, holder_beside, exclusive_user, has_exclusively}
use Rattle.shared_catalogue.specs.StatusRows.{free_status, opening_row, row_after, status_rows, last_after, last_row, NumberedFrom, IsNumbered}

-- one number more
pub counted-push : (n from : ℕ) → counted from (suc n) ≡ counted from n ++ (from + n) ∷ []
counted-push zero from = let m : from ≡ from + 0 = omega arith in ap (λ k. k ∷ []) m
counted-push (suc n) from = let m : from + 1 + n ≡ from + suc n = omega arith in ap (λ (l : List ℕ). from ∷ l) (counted-push n (from + 1) ∙ ap (λ k. counted (from + 1) n ++ k ∷ []) m)

same_rows : (f g : ℕ → StatusRow) (n from : ℕ) → ((i : ℕ) → i < from + n → f i ≡ g i) → map f (counted from n) ≡ map g (counted from n)
same_rows f g zero from same = refl
same_rows f g (suc n) from same =
    let here = same from (omega arith) in
    let others = same_rows f g n (from + 1) (λ i low. same i (omega arith)) in
    λ k. here k ∷ others k

-- a journal with one entry more has one row more
pub status_rows-push : (opened : Opened) (journal : List Entry) (e : Entry) → status_rows (history opened (journal ++ e ∷ [])) ≡ status_rows (history opened journal) ++ row (history opened (journal ++ e ∷ [])) ∷ []
unfolding status_rows
status_rows-push opened journal e =
    let n = length journal + 1 in
    let h = history opened journal in
    let k = history opened (journal ++ e ∷ []) in
    let long : length (journal ++ e ∷ []) + 1 ≡ suc n = omega (arith, length-append journal (e ∷ [])) in
    let whole : take (0 + n) (journal ++ e ∷ []) ≡ journal ++ e ∷ [] = take_all (0 + n) (journal ++ e ∷ []) (omega (arith, length-append journal (e ∷ []))) in
    let before : map (row_after k) (counted 0 n) ≡ map (row_after h) (counted 0 n) =
    same_rows (row_after k) (row_after h) n 0 (λ i low. ap (λ (l : List Entry). row (history opened l)) (take-append-le i journal (e ∷ []) (omega arith))) in
    ap (λ m. map (row_after k) (counted 0 m)) long
    ∙ ap (map (row_after k)) (counted-push n 0)
    ∙ map-append (row_after k) (counted 0 n) ((0 + n) ∷ [])
    ∙ ap (λ (l : List StatusRow). l ++ row_after k (0 + n) ∷ []) before
    ∙ ap (λ (l : List Entry). map (row_after h) (counted 0 n) ++ row (history opened l) ∷ []) whole

-- the same of a command that is performed
pub status_rows-entry : (h : History) (station : ℕ) (command : Command) → status_rows (with_entry h station command) ≡ status_rows h ++ row (with_entry h station command) ∷ []
status_rows-entry h station command = status_rows-push h.opened h.journal (entry station command (answer_of h station command))

-- there is one row more than entries
pub length-status_rows : (h : History) → length (status_rows h) ≡ length h.journal + 1
unfolding status_rows
length-status_rows h = length-map (counted 0 (length h.journal + 1)) (row_after h) ∙ length-counted (length h.journal + 1) 0

-- ---- at opening

each_new : (n a : ℕ) → slice_index_or (replicate n new_station) a new_station ≡ new_station
each_new zero a = refl
each_new (suc n) zero = refl
each_new (suc n) (suc a) = each_new n a

no_user : (k number : ℕ) → exclusive_user (replicate k new_station) number ≡ None
no_user k number = none_of (position has stations) refl
  where
    stations : List Station
    stations = replicate k new_station

    has : Station → Bool
    has = λ st. list_any (has_exclusively number) st.areas

    none_of : (o : Option ℕ) → position has stations ≡ o → position has stations ≡ None
    none_of None e = e
    none_of (Some i) e =
        let found = position-Some has stations i new_station e in
        absurd (true≢false (sym found.1 ∙ ap has (each_new k i)))

free_if : (b : Bool) (holder : ℕ) → holder ≡ 0 → ◌≡◌ {A = TableStatus} (if b then record { holder = holder; record_locks = 0 } else record { holder = 0; record_locks = 0 }) free_status
free_if true holder e = λ i. record { holder = e i; record_locks = 0 }
free_if false holder e = refl

free_at_start : (opened : Opened) (number : ℕ) → table_status (start opened) number ≡ free_status
free_at_start opened number =
    let nobody : holder_beside [] number (exclusive_user (replicate opened.stations new_station) number) ≡ 0 = ap (holder_beside [] number) (no_user opened.stations number) in
    free_if (nat_le number (length (start opened).tables)) (holder_beside [] number (exclusive_user (replicate opened.stations new_station) number)) nobody

all_free : (f : ℕ → TableStatus) (n from : ℕ) → ((number : ℕ) → f number ≡ free_status) → map f (counted from n) ≡ replicate n free_status
all_free f zero from free = refl
all_free f (suc n) from free = let here = free from in let others = all_free f n (from + 1) free in λ k. here k ∷ others k

-- the row of a catalogue that has performed nothing
pub row_at_start : (opened : Opened) → row (history opened []) ≡ opening_row
row_at_start opened =
    let tables = all_free (table_status (start opened)) MAX_TABLES 1 (free_at_start opened) in
    λ i. record { journal_length = 0; last_station = 0; last_answer = 0; tables = tables i }

-- its rows are this one alone
pub status_rows-start : (h : History) → h.journal ≡ [] → status_rows h ≡ opening_row ∷ []
unfolding status_rows
status_rows-start h empty =
    ap (λ (l : List Entry). status_rows (history h.opened l)) empty ∙ ap (λ (r : StatusRow). r ∷ []) (row_at_start h.opened)

-- ---- the last entry

pub last_entry-push : (journal : List Entry) (e : Entry) → last_entry (journal ++ e ∷ []) ≡ Some e
last_entry-push journal e = at_end journal (length (journal ++ e ∷ []) - 1) (omega (arith, length-append journal (e ∷ [])))
  where
    at_end : (xs : List Entry) (n : ℕ) → n ≡ length xs → slice_get (xs ++ e ∷ []) n ≡ Some e
    at_end [] zero is = refl
    at_end [] (suc n) is = absurd (omega arith)
    at_end (x ∷ xs) zero is = absurd (omega arith)
    at_end (x ∷ xs) (suc n) is = at_end xs n (omega arith)

-- ---- the last row

last_numbered_from : (n : ℕ) (x : StatusRow) (xs : List StatusRow) → NumberedFrom n (x ∷ xs) → (last_after x xs).journal_length ≡ n + length xs
last_numbered_from n x [] h = let a = h.0 in omega arith
last_numbered_from n x (y ∷ ys) h = let a = last_numbered_from (n + 1) y ys h.1 in omega arith

-- the last row has the number of the rows before it
pub last_numbered : (xs : List StatusRow) → 0 < length xs → IsNumbered xs → (last_row xs).journal_length + 1 ≡ length xs
last_numbered [] l h = absurd (omega arith)
last_numbered (x ∷ xs) l h = let a = last_numbered_from 0 x xs h in omega arith

last_after_at : (r : StatusRow) (rows : List StatusRow) → slice_get (r ∷ rows) (length rows) ≡ Some (last_after r rows)
last_after_at r [] = refl
last_after_at r (x ∷ rows) = last_after_at x rows

-- the last row stands after all the others
pub last_row_at : (rows : List StatusRow) (i : ℕ) → i + 1 ≡ length rows → slice_get rows i ≡ Some (last_row rows)
last_row_at [] i e = absurd (omega arith)
last_row_at (r ∷ rows) i e = let same : i ≡ length rows = omega arith in ap (slice_get (r ∷ rows)) same ∙ last_after_at r rows
