-- What workers do line by line.
use Rattle.std.proofs.Common.{◌≡◌, ◌⊎◌, ℕ, zero, suc, ◌+◌, ◌-◌, ◌<◌, ◌≤◌, List, [], ◌∷◌, ◌++◌, length, take, Some, refl, ap, sym, subst, ◌∙◌, inl, inr, ⊎_elim, arith, length-append, zero-le}
use Rattle.std.specs.Prelude.{slice_get, Result, Ok, Err, OnErr}
use mathlib.Core.List.{IsPrefix}
use Rattle.std.proofs.lemmas.List.{append-nil, append_assoc, take-append-le, take_all}
use Rattle.std.proofs.lemmas.Option.{slice_get_within}
use Rattle.shared_catalogue.specs.declared.receipt.Receipt.{Receipt}
use Rattle.shared_catalogue.specs.OwnCalls.{receipt}
use Rattle.catalogue_core.specs.declared.answer.Answer.{Answer}
use Rattle.catalogue_core.specs.declared.command.Command.{Command}
use Rattle.catalogue_core.specs.declared.status.StatusRow.{StatusRow}
use Rattle.shared_catalogue.specs.RowLaws.{last_numbered, last_row_at}
use Rattle.shared_catalogue.specs.Seats.{Seated}
use Rattle.shared_catalogue.specs.StatusRows.{last_row, calls_of, IsToldOfCall}
use Rattle.station_lines.specs.declared.script.line.Line.{Line}
use Rattle.station_lines.specs.declared.script.line.Line.TheVariants.{Blank, Run}
use Rattle.office_run.specs.Reports.{Shown, answered, status, SessionValue, new_session, meaning_of, shown_line, receipt_in, receipts_of, answers_of, AreShown, AreFirstLines, IsLeftAt, HasBegun, IsRowIn, AreShownIn, IsShownAt, IsWithShown, HasShown, HasRun}
use Rattle.station_lines.specs.Script.Lines.{AreLines, BeginsWithLine}
use Rattle.station_lines.specs.Script.Meaning.{Means}

-- ---- line by line

receipts_of-push : (xs : List Shown) (x : Shown) → receipts_of (xs ++ x ∷ []) ≡ receipts_of xs ++ receipt_in x
receipts_of-push [] x = append-nil (receipt_in x)
receipts_of-push (y ∷ ys) x = ap (λ (l : List Receipt). receipt_in y ++ l) (receipts_of-push ys x) ∙ sym (append_assoc (receipt_in y) (receipts_of ys) (receipt_in x))

answers_of-push : (xs : List Shown) (x : Shown) → answers_of (xs ++ x ∷ []) ≡ answers_of xs ++ shown_line x
answers_of-push [] x = append-nil (shown_line x)
answers_of-push (y ∷ ys) x = ap (λ (l : List ℕ). shown_line y ++ l) (answers_of-push ys x) ∙ sym (append_assoc (shown_line y) (answers_of ys) (shown_line x))

lines-push : (lines : List (List ℕ)) (script rest line after : List ℕ) → AreFirstLines lines script rest → BeginsWithLine rest line after → AreFirstLines (lines ++ line ∷ []) script after
lines-push [] script rest line after e begins = (after, subst (λ (l : List ℕ). BeginsWithLine l line after) (sym e) begins, refl)
lines-push (l ∷ ls) script rest line after h begins = (h.0, h.1, lines-push ls h.0 rest line after h.2 begins)

blank-push : (lines : List (List ℕ)) (xs : List Shown) (line : List ℕ) → AreShown lines xs → Means line Blank → AreShown (lines ++ line ∷ []) xs
blank-push [] [] line h blank = (blank, tt)
blank-push [] (y ∷ ys) line h blank = absurd h
blank-push (l ∷ ls) [] line h blank = (h.0, blank-push ls [] line h.1 blank)
blank-push (l ∷ ls) (y ∷ ys) line h blank = ⊎_elim (λ a. inl (a.0, blank-push ls (y ∷ ys) line a.1 blank)) (λ a. inr (a.0, blank-push ls ys line a.1 blank)) h

shown-push : (lines : List (List ℕ)) (xs : List Shown) (line : List ℕ) (x : Shown) → AreShown lines xs → Means line (meaning_of x) → AreShown (lines ++ line ∷ []) (xs ++ x ∷ [])
shown-push [] [] line x h means = inr (means, tt)
shown-push [] (y ∷ ys) line x h means = absurd h
shown-push (l ∷ ls) [] line x h means = inl (h.0, shown-push ls [] line x h.1 means)
shown-push (l ∷ ls) (y ∷ ys) line x h means = ⊎_elim (λ a. inl (a.0, shown-push ls (y ∷ ys) line x a.1 means)) (λ a. inr (a.0, shown-push ls ys line x a.1 means)) h

-- the first lines with nothing after them are all
all_lines : (lines : List (List ℕ)) (script : List ℕ) → AreFirstLines lines script [] → AreLines lines script
all_lines [] script e = e
all_lines (l ∷ ls) script h = (h.0, h.1, all_lines ls h.0 h.2)

pub lines_first : (lines : List (List ℕ)) (script : List ℕ) → AreLines lines script → AreFirstLines lines script []
lines_first [] script e = e
lines_first (l ∷ ls) script h = (h.0, h.1, lines_first ls h.0 h.2)

-- ---- the rows that are shown

-- what stands in a beginning stands in the whole, at the same index
prefix_get : {A : Type 0} (xs ys : List A) (k : ℕ) (x : A) → IsPrefix xs ys → slice_get xs k ≡ Some x → slice_get ys k ≡ Some x
prefix_get [] ys k x p h = absurd cc
prefix_get (y ∷ xs) [] k x p h = absurd (cc (p.1))
prefix_get (y ∷ xs) (z ∷ ys) zero x p h = cc (p.1, h)
prefix_get (y ∷ xs) (z ∷ ys) (suc k) x p h = prefix_get xs ys k x (p.0, cc (p.1)) h

prefix_take : {A : Type 0} (xs ys : List A) (n : ℕ) → IsPrefix xs ys → n ≤ length xs → take n ys ≡ take n xs
prefix_take xs ys n p h = ap (take n) (sym p.1) ∙ take-append-le n xs p.0 h

-- more rows change nothing of what was shown
row_in-more : (rows more : List StatusRow) (station least own : ℕ) (shown : StatusRow) → IsPrefix rows more → IsRowIn rows station least own shown → IsRowIn more station least own shown
row_in-more rows more station least own shown p h =
    let k = shown.journal_length in
    let within : k < length rows = slice_get_within rows k shown h.stands in
    record {
      stands = prefix_get rows more k shown p h.stands;
      long = h.long;
      calls = subst (λ (l : List StatusRow). own ≤ calls_of l station) (sym (prefix_take rows more (k + 1) p (omega arith))) h.calls;
    }

pub shown_in-more : (rows more : List StatusRow) (station least own : ℕ) (xs : List Shown) → IsPrefix rows more → AreShownIn rows station least own xs → AreShownIn more station least own xs
shown_in-more rows more station least own [] p h = tt
shown_in-more rows more station least own (answered r ∷ xs) p h = shown_in-more rows more station least (own + 1) xs p h
shown_in-more rows more station least own (status shown ∷ xs) p h =
    (row_in-more rows more station least own shown p h.0, shown_in-more rows more station shown.journal_length own xs p h.1)

-- one answer more
shown_in-answered : (rows : List StatusRow) (station least own : ℕ) (xs : List Shown) (r : Receipt) → AreShownIn rows station least own xs → AreShownIn rows station least own (xs ++ answered r ∷ [])
shown_in-answered rows station least own [] r h = tt
shown_in-answered rows station least own (answered q ∷ xs) r h = shown_in-answered rows station least (own + 1) xs r h
shown_in-answered rows station least own (status shown ∷ xs) r h = (h.0, shown_in-answered rows station shown.journal_length own xs r h.1)

-- one status row more, which is the last
shown_in-status : (rows : List StatusRow) (station least own : ℕ) (xs : List Shown) (shown : StatusRow) → AreShownIn rows station least own xs → last_row rows ≡ shown → shown.journal_length + 1 ≡ length rows
    → least + 1 ≤ length rows → own + length (receipts_of xs) ≤ calls_of rows station → AreShownIn rows station least own (xs ++ status shown ∷ [])
shown_in-status rows station least own [] shown h last long low calls =
    let k = shown.journal_length in
    let all : take (k + 1) rows ≡ rows = take_all (k + 1) rows (omega arith) in
    let mine : own ≤ calls_of rows station = omega arith in (
      record {
        stands = last_row_at rows k long ∙ ap Some last;
        long = omega arith;
        calls = subst (λ (l : List StatusRow). own ≤ calls_of l station) (sym all) mine;
      },
      tt,
    )
shown_in-status rows station least own (answered q ∷ xs) shown h last long low calls = shown_in-status rows station least (own + 1) xs shown h last long low (omega arith)
shown_in-status rows station least own (status above ∷ xs) shown h last long low calls =
    let within : above.journal_length < length rows = slice_get_within rows above.journal_length above h.0.stands in
    (h.0, shown_in-status rows station above.journal_length own xs shown h.1 last long (omega arith) calls)

-- something more is shown at a seat that knows more rows
shown_in-push : (rows : List StatusRow) (z : Seated) (station : ℕ) (xs : List Shown) (x : Shown) → z.station ≡ station → AreShownIn rows station 0 0 xs → IsPrefix rows z.rows → IsShownAt z x
    → length (receipts_of xs) ≤ z.share → AreShownIn z.rows station 0 0 (xs ++ x ∷ [])
shown_in-push rows z station xs (answered r) same h p at count_bounded = shown_in-answered z.rows station 0 0 xs r (shown_in-more rows z.rows station 0 0 xs p h)
shown_in-push rows z station xs (status shown) same h p at count_bounded =
    let number = last_numbered z.rows at.some at.numbered in
    let long : shown.journal_length + 1 ≡ length z.rows = ap (λ (r : StatusRow). r.journal_length + 1) (sym at.last) ∙ number in
    let calls : z.share ≤ calls_of z.rows station = subst (λ (n : ℕ). z.share ≤ calls_of z.rows n) same at.own in
    shown_in-status z.rows station 0 0 xs shown (shown_in-more rows z.rows station 0 0 xs p h) at.last long (let some = at.some in omega arith) (omega arith)

-- a seat that was told of a call knows all that it knew
pub told_later : (old new : List StatusRow) (station : ℕ) (answer : Answer) → IsToldOfCall old station answer new → IsPrefix old new
told_later old new station answer t = (t.0 ++ t.1 ∷ [], sym (append_assoc old t.0 (t.1 ∷ [])) ∙ sym t.2)

-- ---- the front of a script

-- this is shown for the first lines of the script, up to the rest
abbrev IsShownTo : List ℕ → List ℕ → List Shown → Type 0
IsShownTo rest script shown = (lines : List (List ℕ)) × AreFirstLines lines script rest × AreShown lines shown

-- the session has shown what belongs to the front of the script, up to the rest
abbrev pub IsUpTo : List ℕ → Seated → List ℕ → SessionValue → Type 0
IsUpTo rest seat script s = (shown : List Shown) × HasShown seat shown s × IsShownTo rest script shown

pub up_to_start : (z : Seated) (script : List ℕ) → IsUpTo script z script (new_session z)
up_to_start z script = ([], record { rows = tt; station_is = refl; counted = zero-le; receipts = sym (append-nil z.receipts); answers = refl }, ([], refl, tt))

to_blank : (rest line after script : List ℕ) (shown : List Shown) → IsShownTo rest script shown → BeginsWithLine rest line after → Means line Blank → IsShownTo after script shown
to_blank rest line after script shown h begins blank = (h.0 ++ line ∷ [], lines-push h.0 script rest line after h.1 begins, blank-push h.0 shown line h.2 blank)

to_shown : (rest line after script : List ℕ) (shown : List Shown) (x : Shown) → IsShownTo rest script shown → BeginsWithLine rest line after → Means line (meaning_of x) → IsShownTo after script (shown ++ x ∷ [])
to_shown rest line after script shown x h begins means = (h.0 ++ line ∷ [], lines-push h.0 script rest line after h.1 begins, shown-push h.0 shown line x h.2 means)

pub up_to_blank : (rest line after : List ℕ) (z : Seated) (script : List ℕ) (s : SessionValue) → IsUpTo rest z script s → BeginsWithLine rest line after
    → Means line Blank → IsUpTo after z script s
up_to_blank rest line after z script s up begins blank = (up.0, up.1, to_blank rest line after script up.0 up.2 begins blank)

pub up_to_shown : (rest line after : List ℕ) (z : Seated) (script : List ℕ) (s t : SessionValue) (x : Shown) → IsUpTo rest z script s
    → BeginsWithLine rest line after → Means line (meaning_of x) → IsWithShown s x t → IsUpTo after z script t
up_to_shown rest line after z script s t x up begins means with =
    let had = up.1 in
    let own = receipts_of up.0 in
    let all : receipts_of (up.0 ++ x ∷ []) ≡ own ++ receipt_in x = receipts_of-push up.0 x in
    let grown : length (receipts_of (up.0 ++ x ∷ [])) ≡ length own + length (receipt_in x) = ap length all ∙ length-append own (receipt_in x) in
    let same : t.seat.station ≡ z.station = with.station ∙ had.station_is in (
      up.0 ++ x ∷ [],
      record {
        rows = shown_in-push s.seat.rows t.seat z.station up.0 x same had.rows with.later with.shown (omega (arith, had.counted, with.share));
        station_is = same;
        counted = omega (arith, grown, had.counted, with.share);
        receipts = with.receipts ∙ (ap (λ (l : List Receipt). l ++ receipt_in x) had.receipts ∙ (append_assoc z.receipts own (receipt_in x) ∙ ap (λ (l : List Receipt). z.receipts ++ l) (sym all)));
        answers = with.answers ∙ ap (λ (l : List ℕ). l ++ shown_line x) up.1.answers ∙ sym (answers_of-push up.0 x);
      },
      to_shown rest line after script up.0 x up.2 begins means,
    )

pub up_to_end : (z : Seated) (script : List ℕ) (s : SessionValue) → IsUpTo [] z script s → HasRun z script s
up_to_end z script s up = (up.0, (up.2.0, all_lines up.2.0 script up.2.1, up.2.2), up.1)

-- a worker that was stopped before a line has begun its script
pub up_to_begun : (rest : List ℕ) (z : Seated) (script : List ℕ) (s : SessionValue) → IsUpTo rest z script s → HasBegun z script s.seat
up_to_begun rest z script s up = record { shown = up.0; for_first = (up.2.0, rest, up.2.1, up.2.2); station_is = up.1.station_is; receipts = up.1.receipts }

-- a command was performed, and its answer was not shown
pub left_answered : (old new : SessionValue) (command : Command) (answer : Answer) → new.seat.station ≡ old.seat.station → new.seat.receipts ≡ old.seat.receipts ++ receipt command answer ∷ [] → IsLeftAt old (Run command) new
left_answered old new command answer same more = record { station = same; receipts = inr (answered (receipt command answer), refl, more) }

-- and so has one that was stopped at a line, whether its command was performed or not
pub up_to_left : (rest line after : List ℕ) (z : Seated) (script : List ℕ) (s t : SessionValue) (l : Line) → IsUpTo rest z script s → BeginsWithLine rest line after → Means line l → IsLeftAt s l t → HasBegun z script t.seat
up_to_left rest line after z script s t l up begins means left =
    let had = up.1 in
    let station : t.seat.station ≡ z.station = left.station ∙ had.station_is in
    ⊎_elim
    (λ (same : t.seat.receipts ≡ s.seat.receipts). record { shown = up.0; for_first = (up.2.0, rest, up.2.1, up.2.2); station_is = station; receipts = same ∙ had.receipts })
    (λ (more : (x : Shown) × (meaning_of x ≡ l) × (t.seat.receipts ≡ s.seat.receipts ++ receipt_in x)).
    let x = more.0 in
    let own = receipts_of up.0 in
    let to = to_shown rest line after script up.0 x up.2 begins (subst (Means line) (sym more.1) means) in
    record {
      shown = up.0 ++ x ∷ [];
      for_first = (to.0, after, to.1, to.2);
      station_is = station;
      receipts = more.2 ∙ (ap (λ (r : List Receipt). r ++ receipt_in x) had.receipts ∙ (append_assoc z.receipts own (receipt_in x) ∙ ap (λ (r : List Receipt). z.receipts ++ r) (sym (receipts_of-push up.0 x))));
    })
    left.receipts

-- what holds at an end is so at an error
pub on_err : {T E : Type 0} (r : Result T E) (P : Type 0) → P → OnErr r P
on_err (Ok x) P p = tt
on_err (Err y) P p = p
