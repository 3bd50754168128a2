-- The ends of workers, and what a run that is settled has of them.
use Rattle.std.proofs.Common.{◌≡◌, ◌≢◌, ◌↔◌, ◌⊎◌, ℕ, zero, suc, ◌+◌, ◌-◌, ◌<◌, ◌≤◌, List, [], ◌∷◌, ◌++◌, length, map, Some, refl, ap, sym, subst, ◌∙◌, inl, inr, ⊎_elim, arith, length-append}
use Rattle.std.specs.Prelude.{slice_get, option_map, All, Option, None, Result, Ok, Err, IfErr, IsErrAnd, IsErrOf}
use Rattle.std.specs.Option.{option_or}
use mathlib.Core.List.{map-map}
use Rattle.std.proofs.lemmas.Bool.{cases_lt}
use Rattle.std.proofs.lemmas.List.{length-map}
use Rattle.std.proofs.lemmas.Option.{slice_get-map, slice_get_within, get_or_from_slice_get}
use Rattle.catalogue_core.specs.declared.entry.Entry.{Entry}
use Rattle.shared_catalogue.specs.declared.receipt.Receipt.{Receipt}
use Rattle.shared_catalogue.specs.declared.settle.SettleFault.{SettleFault}
use Rattle.shared_catalogue.specs.declared.settle.SettleFault.TheVariants.{SeatMissing, ReceiptMismatch}
use Rattle.shared_catalogue.specs.OwnCalls.{of_station}
use Rattle.catalogue_core.specs.declared.catalogue.Stop.{Stop}
use Rattle.catalogue_core.specs.declared.catalogue.Stop.TheVariants.{JournalFull}
use Rattle.catalogue_core.specs.declared.catalogue.TheConstants.{MAX_ENTRIES}
use Rattle.catalogue_core.specs.Replay.{Opened, History, IsHistoryOf, history}
use Rattle.shared_catalogue.specs.Seats.{Seated, seated, new_seats, IsLowestMissing, IsOwn, AgreesWith}
use Rattle.shared_catalogue.specs.StatusRows.{status_rows, opening_row}
use Rattle.office_run.specs.declared.run_fault.RunFault.{RunFault}
use Rattle.office_run.specs.declared.run_fault.RunFault.TheVariants.{ScriptCount, NoThread, Stopped, Settle, NoMemory}
use Rattle.office_run.specs.RunFaults.{IsFaultOfStart, IsFaultOfRun}
use Rattle.office_run.specs.Reports.{Shown, SessionValue, session, receipts_of, HasBegun, EndValue, end_of, stop_in, stop_of, text_in, text_of, HasEnded, HaveEnded, first_stop, AreShownIn, HasRun, AreSeatsInOrder, AreReports}
use Rattle.office_run.proofs.RunLaws.{shown_in-more, lines_first}

-- ---- one worker more

at_push : {A : Type 0} (xs : List A) (x y : A) (i : ℕ) → slice_get (xs ++ x ∷ []) i ≡ Some y → ((i < length xs) × (slice_get xs i ≡ Some y)) ⊎ ((i ≡ length xs) × (x ≡ y))
at_push [] x y zero e = inr (refl, cc)
at_push [] x y (suc i) e = absurd (cc)
at_push (z ∷ zs) x y zero e = inl (omega arith, e)
at_push (z ∷ zs) x y (suc i) e = ⊎_elim (λ h. inl (let l = h.0 in omega arith, h.1)) (λ h. inr (ap suc h.0, h.1)) (at_push zs x y i e)

pub get_front : {A : Type 0} (xs ys : List A) (i : ℕ) (x : A) → slice_get xs i ≡ Some x → slice_get (xs ++ ys) i ≡ Some x
get_front [] ys i x e = absurd (cc)
get_front (z ∷ zs) ys zero x e = e
get_front (z ∷ zs) ys (suc i) x e = get_front zs ys i x e

pub get_last : {A : Type 0} (xs : List A) (x : A) (i : ℕ) → i ≡ length xs → slice_get (xs ++ x ∷ []) i ≡ Some x
get_last [] x zero e = refl
get_last [] x (suc i) e = absurd (omega arith)
get_last (z ∷ zs) x zero e = absurd (omega arith)
get_last (z ∷ zs) x (suc i) e = get_last zs x i (omega arith)

pub have_ended-push : (scripts : List (List ℕ)) (zs : List Seated) (z : Seated) (es : List EndValue) (e : EndValue) (script : List ℕ) (n : ℕ)
    → HaveEnded scripts zs es → length zs ≡ n → length es ≡ n → slice_get scripts n ≡ Some script → HasEnded z script e → HaveEnded scripts (zs ++ z ∷ []) (es ++ e ∷ [])
have_ended-push scripts zs z es e script n ended many same there has i y at =
    ⊎_elim
    (λ (old : (i < length zs) × (slice_get zs i ≡ Some y)). let r = ended i y old.1 in (r.0, r.1, get_front es (e ∷ []) i r.0 r.2, r.3, r.4))
    (λ (new : (i ≡ length zs) × (z ≡ y)). let same_place = new.0 in let k : i ≡ length es = omega arith in let at_n : n ≡ i = omega arith in
    (e, script, get_last es e i k, subst (λ (j : ℕ). slice_get scripts j ≡ Some script) at_n there, subst (λ (w : Seated). HasEnded w script e) new.1 has))
    (at_push zs z y i at)

-- ---- ends of workers

-- the session of a worker that was not stopped
abbrev session_of : EndValue → SessionValue
session_of e = session e.seat (text_of e)

begun_seat : (z : Seated) (script : List ℕ) (seat : Seated) (answers : Result (List ℕ) Stop) → HasEnded z script (end_of seat answers) → HasBegun z script seat
begun_seat z script seat (Ok text) h = record { shown = h.0; for_first = (h.1.0, [], lines_first h.1.0 script h.1.1, h.1.2); station_is = h.2.station_is; receipts = h.2.receipts }
begun_seat z script seat (Err why) h = h

ran_whole : (z : Seated) (script : List ℕ) (seat : Seated) (answers : Result (List ℕ) Stop) → stop_in seat answers ≡ None → HasEnded z script (end_of seat answers) → HasRun z script (session seat (text_in answers))
ran_whole z script seat (Ok text) none h = h
ran_whole z script seat (Err why) none h = absurd cc

abbrev station_in : Option (ℕ × Stop) → ℕ
station_in None = 0
station_in (Some stop) = stop.0

stop_station : (seat : Seated) (answers : Result (List ℕ) Stop) (station : ℕ) (why : Stop) → stop_in seat answers ≡ Some (station, why) → seat.station ≡ station
stop_station seat (Ok text) station why e = absurd cc
stop_station seat (Err other) station why e = ap station_in e

or_none : {T : Type 0} (a b : Option T) → option_or a b ≡ None → (a ≡ None) × (b ≡ None)
or_none None b e = (refl, e)
or_none (Some x) b e = absurd cc

no_stop : (es : List EndValue) → first_stop es ≡ None → (i : ℕ) (e : EndValue) → slice_get es i ≡ Some e → stop_of e ≡ None
no_stop [] none i e at = absurd cc
no_stop (x ∷ xs) none zero e at = let same : x ≡ e = cc in subst (λ (y : EndValue). stop_of y ≡ None) same (or_none (stop_of x) (first_stop xs) none).0
no_stop (x ∷ xs) none (suc i) e at = no_stop xs (or_none (stop_of x) (first_stop xs) none).1 i e at

-- the first stop is that of an index, and before it there is none
record IsFirstStop (es : List EndValue) (station : ℕ) (why : Stop) : Type 0 where
  index : ℕ
  end : EndValue
  stands : slice_get es index ≡ Some end
  stop : stop_of end ≡ Some (station, why)
  lower : (k : ℕ) (y : EndValue) → k < index → slice_get es k ≡ Some y → stop_of y ≡ None

lower_too : (x : EndValue) (xs : List EndValue) (i : ℕ) → stop_of x ≡ None → ((k : ℕ) (y : EndValue) → k < i → slice_get xs k ≡ Some y → stop_of y ≡ None)
    → (k : ℕ) (y : EndValue) → k < suc i → slice_get (x ∷ xs) k ≡ Some y → stop_of y ≡ None
lower_too x xs i none low zero y lt at = let same : x ≡ y = cc in subst (λ (w : EndValue). stop_of w ≡ None) same none
lower_too x xs i none low (suc k) y lt at = low k y (omega arith) at

first_of : (x : EndValue) (xs : List EndValue) (station : ℕ) (why : Stop) (o : Option (ℕ × Stop)) → stop_of x ≡ o → option_or o (first_stop xs) ≡ Some (station, why)
    → (first_stop xs ≡ Some (station, why) → IsFirstStop xs station why) → IsFirstStop (x ∷ xs) station why
first_of x xs station why (Some q) is e later = record { index = 0; end = x; stands = refl; stop = is ∙ e; lower = λ k y low at. absurd (omega arith) }
first_of x xs station why None is e later =
    let r = later e in
    record { index = suc r.index; end = r.end; stands = r.stands; stop = r.stop; lower = lower_too x xs r.index is r.lower }

first_stop_at : (es : List EndValue) (station : ℕ) (why : Stop) → first_stop es ≡ Some (station, why) → IsFirstStop es station why
first_stop_at [] station why e = absurd cc
first_stop_at (x ∷ xs) station why e = first_of x xs station why (stop_of x) refl e (first_stop_at xs station why)

-- at each seat's index is its session, which has run the script of that index
abbrev HaveRun : List (List ℕ) → List Seated → List SessionValue → Type 0
HaveRun scripts seats sessions =
    (i : ℕ) (z : Seated) → slice_get seats i ≡ Some z
    → (s : SessionValue) × (script : List ℕ) × (slice_get sessions i ≡ Some s) × (slice_get scripts i ≡ Some script) × HasRun z script s

-- where no worker was stopped all have run their scripts
pub all_ran : (scripts : List (List ℕ)) (zs : List Seated) (es : List EndValue) → HaveEnded scripts zs es → first_stop es ≡ None → HaveRun scripts zs (map session_of es)
all_ran scripts zs es ended none i z at =
    let r = ended i z at in
    let there : slice_get (map session_of es) i ≡ Some (session_of r.0) = slice_get-map session_of es i ∙ ap (option_map session_of) r.2 in
    (session_of r.0, r.1, there, r.3, ran_whole z r.1 r.0.seat r.0.answers (no_stop es none i r.0 r.2) r.4)

-- what the sessions did is what is reported, once their seats' receipts are the entries of the journal
pub reports : (opened : Opened) (journal : List Entry) (scripts : List (List ℕ)) (zs : List Seated) (ss : List SessionValue) (answers : List (List ℕ))
    → AreSeatsInOrder opened.stations zs → HaveRun scripts zs ss → length ss ≡ length zs → answers ≡ map (λ s. s.answers) ss → All (IsOwn journal) (map (λ s. s.seat) ss)
    → All (AgreesWith (status_rows (history opened journal))) (map (λ s. s.seat) ss)
    → AreReports opened journal scripts answers
reports opened journal scripts zs ss answers order ran many texts own agree = record {
  count = ap length texts ∙ length-map ss (λ (s : SessionValue). s.answers) ∙ many ∙ order.0;
  each = λ i low.
      let at = order.1 i low in
      let r = ran i at.0 at.1 in
      let s = r.0 in
      let has = r.4 in
      let text : slice_get answers i ≡ Some s.answers = ap (λ (l : List (List ℕ)). slice_get l i) texts ∙ (slice_get-map (λ (x : SessionValue). x.answers) ss i ∙ ap (option_map (λ (x : SessionValue). x.answers)) r.2) in
      let rows = status_rows (history opened journal) in
      let seat : slice_get (map (λ (s : SessionValue). s.seat) ss) i ≡ Some s.seat = slice_get-map (λ (x : SessionValue). x.seat) ss i ∙ ap (option_map (λ (x : SessionValue). x.seat)) r.2 in
      let seats = map (λ (x : SessionValue). x.seat) ss in
      let mine_of : AgreesWith rows s.seat = subst (AgreesWith rows) (get_or_from_slice_get seats i s.seat s.seat seat) (agree i s.seat (slice_get_within seats i s.seat seat)) in
      let entries : IsOwn journal s.seat = subst (IsOwn journal) (get_or_from_slice_get seats i s.seat s.seat seat) (own i s.seat (slice_get_within seats i s.seat seat)) in
      let station : s.seat.station ≡ i + 1 = has.2.station_is ∙ at.2 in
      let receipts : s.seat.receipts ≡ receipts_of has.0 = has.2.receipts ∙ ap (λ (l : List Receipt). l ++ receipts_of has.0) at.3 in
      let shown : AreShownIn rows (i + 1) 0 0 has.0 = subst (λ (n : ℕ). AreShownIn rows n 0 0 has.0) at.2 (shown_in-more s.seat.rows rows at.0.station 0 0 has.0 mine_of.0 has.2.rows) in
      (r.1, s.answers, r.3, text, record { shown = has.0; for_script = has.1; rows = shown; own = sym receipts ∙ (entries ∙ ap (of_station journal) station); lines = has.2.answers });
}

-- the same of the ends of workers of which none was stopped
pub ends_report : (opened : Opened) (journal : List Entry) (scripts : List (List ℕ)) (zs : List Seated) (es : List EndValue) (answers : List (List ℕ))
    → AreSeatsInOrder opened.stations zs → HaveEnded scripts zs es → first_stop es ≡ None → length es ≡ length zs → answers ≡ map text_of es → All (IsOwn journal) (map (λ e. e.seat) es)
    → All (AgreesWith (status_rows (history opened journal))) (map (λ e. e.seat) es)
    → AreReports opened journal scripts answers
ends_report opened journal scripts zs es answers order ended none many texts own agree =
    let ss = map session_of es in
    let seats : map (λ (e : EndValue). e.seat) es ≡ map (λ (s : SessionValue). s.seat) ss = sym (map-map (λ (s : SessionValue). s.seat) session_of es) in
    reports opened journal scripts zs ss answers order (all_ran scripts zs es ended none) (length-map es session_of ∙ many) (texts ∙ sym (map-map (λ (s : SessionValue). s.answers) session_of es))
    (subst (All (IsOwn journal)) seats own) (subst (All (AgreesWith (status_rows (history opened journal)))) seats agree)

seat_there : (es : List EndValue) (i : ℕ) (e : EndValue) → slice_get es i ≡ Some e → slice_get (map (λ (e : EndValue). e.seat) es) i ≡ Some e.seat
seat_there es i e at = slice_get-map (λ (e : EndValue). e.seat) es i ∙ ap (option_map (λ (e : EndValue). e.seat)) at

seat_own : (journal : List Entry) (es : List EndValue) (i : ℕ) (e : EndValue) → slice_get es i ≡ Some e → All (IsOwn journal) (map (λ e. e.seat) es) → IsOwn journal e.seat
seat_own journal es i e at own =
    let seats = map (λ (e : EndValue). e.seat) es in
    let there = seat_there es i e at in
    subst (IsOwn journal) (get_or_from_slice_get seats i e.seat e.seat there) (own i e.seat (slice_get_within seats i e.seat there))

-- a seat that began without receipts has those of its station in the journal
entries_are : (journal : List Entry) (z seat : Seated) (station : ℕ) (shown : List Shown) → IsOwn journal seat → z.receipts ≡ [] → seat.receipts ≡ z.receipts ++ receipts_of shown → seat.station ≡ station
    → receipts_of shown ≡ of_station journal station
entries_are journal z seat station shown own none receipts is = sym (receipts ∙ ap (λ (l : List Receipt). l ++ receipts_of shown) none) ∙ (own ∙ ap (of_station journal) is)

-- each station has its seat after a run
pub all_seated : (opened : Opened) (scripts : List (List ℕ)) (zs : List Seated) (es : List EndValue) → AreSeatsInOrder opened.stations zs → HaveEnded scripts zs es
    → (station : ℕ) → IsLowestMissing (map (λ e. e.seat) es) opened.stations station → ⊥
all_seated opened scripts zs es order ended station missing =
    let i = station - 1 in
    let at = order.1 i (omega (arith, missing.0, missing.1)) in
    let r = ended i at.0 at.1 in
    let seats = map (λ (e : EndValue). e.seat) es in
    let seat = seat_there es i r.0 r.2 in
    let begun = begun_seat at.0 r.1 r.0.seat r.0.answers r.4 in
    let number : r.0.seat.station ≡ station = omega (arith, begun.station_is, at.2, missing.0) in
    missing.2 (i, r.0.seat, slice_get_within seats i r.0.seat seat, get_or_from_slice_get seats i r.0.seat r.0.seat seat, number)

-- a run of which a worker was stopped, once it is settled
pub stopped_run : (opened : Opened) (scripts : List (List ℕ)) (zs : List Seated) (es : List EndValue) (station : ℕ) (why told : Stop) (h : History)
    → AreSeatsInOrder opened.stations zs → HaveEnded scripts zs es → length es ≡ length zs → first_stop es ≡ Some (station, why) → All (IsOwn h.journal) (map (λ e. e.seat) es)
    → IsHistoryOf opened 0 h → (told ≡ JournalFull → length h.journal ≡ MAX_ENTRIES) → IsFaultOfRun opened scripts (Stopped station told)
stopped_run opened scripts zs es station why told h order ended many stop own legal full =
    let journal = h.journal in
    let first = first_stop_at es station why stop in
    let j = first.index in
    let within : j < length es = slice_get_within es j first.end first.stands in
    let here = order.1 j (omega (arith, within, many, order.0)) in
    let last = ended j here.0 here.1 in
    let same : last.0 ≡ first.end = cc (last.2, first.stands) in
    let begun = begun_seat here.0 last.1 last.0.seat last.0.answers last.4 in
    let numbered : first.end.seat.station ≡ station = stop_station first.end.seat first.end.answers station why first.stop in
    let number : station ≡ j + 1 = omega (arith, numbered, ap (λ (e : EndValue). e.seat.station) same, begun.station_is, here.2) in (
      (omega (arith, number), omega (arith, number, within, many, order.0)),
      (
        h,
        record {
          history = legal;
          full = full;
          begun = λ i low.
              let at = order.1 i low in
              let r = ended i at.0 at.1 in
              let b = begun_seat at.0 r.1 r.0.seat r.0.answers r.4 in
              (r.1, b.shown, r.3, b.for_first, entries_are journal at.0 r.0.seat (i + 1) b.shown (seat_own journal es i r.0 r.2 own) at.3 b.receipts (b.station_is ∙ at.2));
          lower = λ i low.
              let at = order.1 i (omega (arith, low, number, within, many, order.0)) in
              let r = ended i at.0 at.1 in
              let none = first.lower i r.0 (omega (arith, low, number)) r.2 in
              let ran = ran_whole at.0 r.1 r.0.seat r.0.answers none r.4 in
              (r.1, ran.0, r.3, ran.1, entries_are journal at.0 r.0.seat (i + 1) ran.0 (seat_own journal es i r.0 r.2 own) at.3 ran.2.receipts (ran.2.station_is ∙ at.2));
        },
      ),
    )

start_fault : (opened : Opened) (scripts : List (List ℕ)) (fault : RunFault) → IsFaultOfStart opened fault → IsFaultOfRun opened scripts fault
start_fault opened scripts ScriptCount h = absurd h
start_fault opened scripts (NoThread station) h = h
start_fault opened scripts (Stopped station why) h = absurd h
start_fault opened scripts (Settle fault) h = absurd h
start_fault opened scripts NoMemory h = tt

-- why workers are not started is a fault of the run
pub start_exit : {T : Type 0} (r : Result T RunFault) (opened : Opened) (scripts : List (List ℕ)) (fault : RunFault) → IsErrAnd r (λ y. y ≡ fault) → IsFaultOfStart opened fault → IfErr r (IsFaultOfRun opened scripts)
start_exit (Ok x) opened scripts fault is h = absurd is
start_exit (Err y) opened scripts fault is h = subst (IsFaultOfRun opened scripts) (sym is) (start_fault opened scripts fault h)

-- and it is not that of the scripts' number, which is right
pub start_counted : {T : Type 0} (r : Result T RunFault) (opened : Opened) (scripts : List (List ℕ)) (fault : RunFault) → IsErrAnd r (λ y. y ≡ fault) → IsFaultOfStart opened fault → length scripts ≡ opened.stations
    → IsErrOf r ScriptCount ↔ (length scripts ≢ opened.stations)
start_counted (Ok x) opened scripts fault is h many = absurd is
start_counted (Err y) opened scripts fault is h many =
    (λ e. let same : fault ≡ ScriptCount = cc (e, is) in absurd (subst (IsFaultOfStart opened) same h), λ other. absurd (other many))

-- so no run ends because it is not settled
pub none_unsettled : {T : Type 0} (r : Result T RunFault) (opened : Opened) (scripts : List (List ℕ)) (seats : List Seated) (fault : SettleFault) → ((station : ℕ) → fault ≡ SeatMissing station → IsLowestMissing seats opened.stations station)
    → ((station : ℕ) → fault ≡ ReceiptMismatch station → ⊥) → ((station : ℕ) → IsLowestMissing seats opened.stations station → ⊥) → IfErr r (IsFaultOfRun opened scripts)
none_unsettled r opened scripts seats (SeatMissing station) missing same none = absurd (none station (missing station refl))
none_unsettled r opened scripts seats (ReceiptMismatch station) missing same none = absurd (same station refl)

-- new seats are in order
pub in_order : (n : ℕ) → AreSeatsInOrder n (new_seats n)
in_order zero = (refl, λ i low. absurd (omega arith))
in_order (suc n) =
    let below = in_order n in
    let last = seated (n + 1) 0 (opening_row ∷ []) [] 0 in
    let many = below.0 in (
      omega (arith, length-append (new_seats n) (last ∷ [])),
      λ i low. ⊎_elim
          (λ (l : i < n). let h = below.1 i l in let r : (z : Seated) × (slice_get (new_seats (suc n)) i ≡ Some z) × (z.station ≡ i + 1) × (z.receipts ≡ []) = (h.0, get_front (new_seats n) (last ∷ []) i h.0 h.1, h.2, h.3) in r)
          (λ (l : n ≤ i). let k : i ≡ length (new_seats n) = omega arith in let e : n + 1 ≡ i + 1 = omega arith in let r : (z : Seated) × (slice_get (new_seats (suc n)) i ≡ Some z) × (z.station ≡ i + 1) × (z.receipts ≡ []) = (last, get_last (new_seats n) last i k, e, refl) in r)
          (cases_lt i n),
    )
