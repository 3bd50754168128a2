-- Receipts among the entries of a journal, and calls among its rows.
use Rattle.std.proofs.Common.{◌≡◌, ℕ, suc, ◌+◌, ◌<◌, ◌≤◌, Bool, true, false, List, [], ◌∷◌, ◌++◌, length, map, refl, ap, sym, ◌∙◌, subst, inl, inr, ⊎_elim, append_assoc, arith, zero-le, le_of_eq, length-append}
use Rattle.std.specs.Prelude.{All, cond, filter, slice_index_or, ◌==◌}
use Rattle.std.specs.List.{sum_by}
use Rattle.std.proofs.lemmas.Bool.{eq-eqb}
use Rattle.std.proofs.lemmas.List.{append-nil, map-append}
use Rattle.std.proofs.lemmas.List.Elements.{filter-append}
use mathlib.Core.List.{IsPrefix}
use Rattle.catalogue_core.specs.declared.entry.Entry.{Entry}
use Rattle.catalogue_core.specs.declared.status.StatusRow.{StatusRow}
use Rattle.catalogue_core.specs.Replay.{Opened, History, history}
use Rattle.catalogue_core.specs.Status.{row, entry_station}
use Rattle.shared_catalogue.specs.declared.board.Known.{Known}
use Rattle.shared_catalogue.specs.declared.receipt.Receipt.{Receipt}
use Rattle.shared_catalogue.specs.OwnCalls.{receipt_of, of_station, IsSublist}
use Rattle.shared_catalogue.specs.RowLaws.{status_rows-push, status_rows-start, length-status_rows, last_entry-push}
use Rattle.shared_catalogue.specs.Board.{IsPartOf, all_of}
use Rattle.shared_catalogue.specs.Seats.{Seated, seated, AreSeated, AreReceiptsIn, IsWithin, IsOwn, AgreesWith}
use Rattle.shared_catalogue.specs.StatusRows.{status_rows, calls_of}
use Rattle.shared_catalogue.proofs.RowListLaws.{calls-one, calls-prefix}
use Rattle.shared_catalogue.proofs.SeatLaws.{agree}

-- ---- sublists

sublist_more : (xs ys zs : List Receipt) → IsSublist xs ys → IsSublist xs (ys ++ zs)
sublist_more [] ys zs h = tt
sublist_more (x ∷ xs) [] zs h = absurd h
sublist_more (x ∷ xs) (y ∷ ys) zs h =
    ⊎_elim (λ (l : (x ≡ y) × IsSublist xs ys). inl (l.0, sublist_more xs ys zs l.1)) (λ (r : IsSublist (x ∷ xs) ys). inr (sublist_more (x ∷ xs) ys zs r)) h

sublist_push : (xs ys : List Receipt) (r : Receipt) → IsSublist xs ys → IsSublist (xs ++ r ∷ []) (ys ++ r ∷ [])
sublist_push [] [] r h = inl (refl, tt)
sublist_push [] (y ∷ ys) r h = inr (sublist_push [] ys r tt)
sublist_push (x ∷ xs) [] r h = absurd h
sublist_push (x ∷ xs) (y ∷ ys) r h =
    ⊎_elim (λ (l : (x ≡ y) × IsSublist xs ys). inl (l.0, sublist_push xs ys r l.1)) (λ (k : IsSublist (x ∷ xs) ys). inr (sublist_push (x ∷ xs) ys r k)) h

sublist_length : (xs ys : List Receipt) → IsSublist xs ys → length xs ≤ length ys
sublist_length [] ys h = zero-le
sublist_length (x ∷ xs) [] h = absurd h
sublist_length (x ∷ xs) (y ∷ ys) h =
    ⊎_elim (λ (l : (x ≡ y) × IsSublist xs ys). let a = sublist_length xs ys l.1 in omega arith) (λ (r : IsSublist (x ∷ xs) ys). let a = sublist_length (x ∷ xs) ys r in omega arith) h

-- a sublist as long as the whole is the whole
pub sublist_whole : (xs ys : List Receipt) → IsSublist xs ys → length ys ≤ length xs → xs ≡ ys
sublist_whole [] [] h long = refl
sublist_whole [] (y ∷ ys) h long = absurd (omega arith)
sublist_whole (x ∷ xs) [] h long = absurd h
sublist_whole (x ∷ xs) (y ∷ ys) h long =
    ⊎_elim
    (λ (l : (x ≡ y) × IsSublist xs ys). let rest = sublist_whole xs ys l.1 (omega arith) in λ i. l.0 i ∷ rest i)
    (λ (r : IsSublist (x ∷ xs) ys). let a = sublist_length (x ∷ xs) ys r in absurd (omega arith))
    h

-- ---- the entries of a station

of_station-append : (xs ys : List Entry) (station : ℕ) → of_station (xs ++ ys) station ≡ of_station xs station ++ of_station ys station
of_station-append xs ys station =
    let own : Entry → Bool = λ e. e.station == station in
    ap (map receipt_of) (filter-append own xs ys) ∙ map-append receipt_of (filter own xs) (filter own ys)

of_station-push : (xs : List Entry) (e : Entry) (station : ℕ) → e.station ≡ station → of_station (xs ++ e ∷ []) station ≡ of_station xs station ++ receipt_of e ∷ []
of_station-push xs e station same =
    let one : of_station (e ∷ []) station ≡ receipt_of e ∷ [] = ap (λ (b : Bool). map receipt_of (cond b (e ∷ []) [])) (eq-eqb (e.station) station same) in
    of_station-append xs (e ∷ []) station ∙ ap (λ (l : List Receipt). of_station xs station ++ l) one

length_if : (b : Bool) (e : Entry) → length (map receipt_of (cond b (e ∷ []) [])) ≡ cond b 1 0
length_if true e = refl
length_if false e = refl

length-of_station-push : (xs : List Entry) (e : Entry) (station : ℕ) → length (of_station (xs ++ e ∷ []) station) ≡ length (of_station xs station) + cond (e.station == station) 1 0
length-of_station-push xs e station =
    let one = length_if (e.station == station) e in
    ap length (of_station-append xs (e ∷ []) station) ∙ (length-append (of_station xs station) (of_station (e ∷ []) station) ∙ ap (λ n. length (of_station xs station) + n) one)

-- receipts among the entries that are known are among all
pub receipts_more : (known all : List Entry) (station share : ℕ) (receipts : List Receipt) → IsPrefix known all → AreReceiptsIn known station share receipts → AreReceiptsIn all station share receipts
receipts_more known all station share receipts p r =
    let more : of_station all station ≡ of_station known station ++ of_station p.0 station = ap (λ (l : List Entry). of_station l station) (sym p.1) ∙ of_station-append known p.0 station in
    record {
      own = subst (IsSublist receipts) (sym more) (sublist_more receipts (of_station known station) (of_station p.0 station) r.own);
      many = r.many;
    }

-- and with one entry of the station more, its command and answer is one more
pub receipts_next : (known all : List Entry) (e : Entry) (station share : ℕ) (receipts : List Receipt) → IsPrefix known all → e.station ≡ station → AreReceiptsIn known station share receipts
    → AreReceiptsIn (all ++ e ∷ []) station (share + 1) (receipts ++ receipt_of e ∷ [])
receipts_next known all e station share receipts p same r =
    let among = receipts_more known all station share receipts p r in
    let many = r.many in
    record {
      own = subst (IsSublist (receipts ++ receipt_of e ∷ [])) (sym (of_station-push all e station same)) (sublist_push receipts (of_station all station) (receipt_of e) among.own);
      many = omega (arith, length-append receipts (receipt_of e ∷ []));
    }

-- what holds of a seat holds as well where more is known
pub within_of : (known all : Known) (station share : ℕ) (receipts : List Receipt) (loads : ℕ) → IsPartOf known all → share ≤ calls_of known.rows station → AreReceiptsIn known.entries station share receipts
    → IsWithin all (seated station share known.rows receipts loads)
within_of known all station share receipts loads part own among =
    let calls = calls-prefix known.rows all.rows station part.0 in
    record { rows = part.0; calls = omega (arith, own, calls); receipts = receipts_more known.entries all.entries station share receipts part.1 among }

-- ---- calls

-- the station has as many calls among the rows as entries
abbrev HasEqualCalls : Opened → ℕ → List Entry → Type 0
HasEqualCalls opened station journal = calls_of (status_rows (history opened journal)) station ≡ length (of_station journal station)

equal_calls-push : (opened : Opened) (station : ℕ) (journal : List Entry) (e : Entry) → HasEqualCalls opened station journal → HasEqualCalls opened station (journal ++ e ∷ [])
equal_calls-push opened station journal e h =
    let k = history opened (journal ++ e ∷ []) in
    let rows = status_rows (history opened journal) in
    let some : 0 < length rows = omega (arith, length-status_rows (history opened journal)) in
    let named : (row k).last_station ≡ e.station = ap entry_station (last_entry-push journal e) in
    let more : calls_of (status_rows k) station ≡ calls_of rows station + cond ((row k).last_station == station) 1 0 = ap (λ (l : List StatusRow). calls_of l station) (status_rows-push opened journal e) ∙ calls-one rows (row k) station some in
    let one : ◌≡◌ {A = ℕ} (cond ((row k).last_station == station) 1 0) (cond (e.station == station) 1 0) = ap (λ (n : ℕ). cond (n == station) 1 0) named in
    omega (arith, more, one, h, length-of_station-push journal e station)

equal_calls-more : (opened : Opened) (station : ℕ) (xs ys : List Entry) → HasEqualCalls opened station xs → HasEqualCalls opened station (xs ++ ys)
equal_calls-more opened station xs [] h = subst (HasEqualCalls opened station) (sym (append-nil xs)) h
equal_calls-more opened station xs (e ∷ es) h =
    subst (HasEqualCalls opened station) (append_assoc xs (e ∷ []) es) (equal_calls-more opened station (xs ++ e ∷ []) es (equal_calls-push opened station xs e h))

-- each station has as many calls among the rows of a history as entries in its journal
pub equal_calls : (h : History) (station : ℕ) → calls_of (status_rows h) station ≡ length (of_station h.journal station)
equal_calls h station =
    let none : HasEqualCalls h.opened station [] = ap (λ (l : List StatusRow). calls_of l station) (status_rows-start (history h.opened []) refl) in
    equal_calls-more h.opened station [] h.journal none

-- where a seat's share is the calls of its station, its receipts are all entries of the station
pub own_of : (h : History) (z : Seated) → AreReceiptsIn h.journal z.station z.share z.receipts → z.share ≡ calls_of (status_rows h) z.station → IsOwn h.journal z
own_of h z r share =
    let many = r.many in
    sublist_whole z.receipts (of_station h.journal z.station) r.own (omega (arith, many, share, equal_calls h z.station))

-- where each station has a seat, as many seats as stations are there, and the shares are the journal's length, each share is its station's calls, and the receipts are the station's entries
pub settled : (h : History) (n : ℕ) (zs : List Seated) → AreSeated zs n → length zs ≡ n → length h.journal ≡ sum_by (λ z. z.share) zs → All (IsWithin (all_of h)) zs
    → All (AgreesWith (status_rows h)) zs × All (IsOwn h.journal) zs
settled h n zs all many counted within =
    let long : length (status_rows h) ≡ suc (length h.journal) = omega (arith, length-status_rows h) in
    let agrees : All (AgreesWith (status_rows h)) zs = agree n (length h.journal) zs (all_of h) all many long (le_of_eq counted) within in
    (agrees, λ k d low. own_of h (slice_index_or zs k d) (within k d low).receipts (agrees k d low).1)
