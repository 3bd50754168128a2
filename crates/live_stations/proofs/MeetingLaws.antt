-- The ends of a station's rings meet again.
use Rattle.std.proofs.Common.{◌≡◌, ◌∙◌, Bool, true, false, ◌&&◌, ℕ, zero, suc, ◌+◌, ◌<◌, ◌≤◌, ◌↔◌, List, [], ◌∷◌, ◌++◌, length, refl, sym, ap, subst, append_assoc, arith, length-append}
use Rattle.std.specs.Prelude.{map, not, is_some, Option, Some, None, Result, Ok, Err, IfOk, IfErr, IsSome}
use Rattle.std.proofs.lemmas.List.{append-nil, length-map}
use Rattle.clap.specs.Words.{Text}
use Rattle.files_in_place.specs.Disk.{DiskMeaning}
use Rattle.folders.specs.declared.named.NamedFile.{NamedFile}
use Rattle.program_frame.specs.declared.ending.Ending.{Ending}
use Rattle.program_frame.specs.declared.ending.Failure.{Failure}
use Rattle.live_program.specs.declared.failure.LiveFailure.{LiveFailure}
use Rattle.live_program.specs.declared.lived.Lived.{Lived}
use Rattle.live_program.specs.Lives.{IsAskedLife, IsUnlived}
use Rattle.live_day.specs.Typing.{IsAllTyped}
use Rattle.std.specs.List.{list_all}
use Rattle.rtrb.specs.Ring.{received, sent, IsPair}
use Rattle.live_day.specs.declared.keyboard.Typed.{Typed}
use Rattle.live_day.specs.Shows.{ShownLine}
use Rattle.live_stations.specs.declared.day.StationLeft.{StationLeft}
use Rattle.live_stations.specs.declared.heard.Heard.{Heard}
use Rattle.live_stations.specs.declared.heard.Heard.TheVariants.{Line}
use Rattle.live_stations.specs.declared.hearing.Hearing.{Hearing}
use Rattle.live_stations.specs.declared.printer.Printer.{Printer}
use Rattle.live_stations.specs.declared.threads.StationEnds.{StationEnds}
use Rattle.live_stations.specs.declared.typist.LinesEnd.{LinesEnd}
use Rattle.live_stations.specs.declared.typist.Typist.{Typist}
use Rattle.live_stations.specs.Handed.{shown_to, AnswerEnd, AnswerRing, AreHandedFrom, IsHanded, IsPrintedAt, IsPrintedBy, IsPrinterEnd}
use Rattle.live_stations.specs.Hearings.{ahead_lines, is_over_of, over_mark, AreHeardFrom, AreOver, IsHeard, IsHeardOf, IsOver}
use Rattle.live_stations.specs.Items.{as_own, item_lines, lines_of, Item}
use Rattle.live_stations.specs.Pairs.{AreFrom}
use Rattle.live_stations.specs.Stations.{answer_end, line_end, AreMeeting, AreMet, AreOf, AreRings, AreUnused, HaveLeft, HavePrinted, HavePrintedFor, HaveTyped, HaveTypedFor, IsAnswerRing, IsHandedToPrinter, IsHeardOfTypist, IsLeft, IsLineRing, IsLivedBy, IsPrinterOf, IsTypistOf}
use Rattle.live_stations.specs.Typists.{lines_sent, typed_at, AreTyped, IsRest, IsSentBy, IsTypistEnd, LineRing}
use Rattle.live_stations.proofs.PairLaws.{each_snoc, pair_all, pair_alone, pair_length, pair_of_map, pair_snoc, pair_through}
use Rattle.live_stations.proofs.PrinterLaws.{both_true, printed_again}

-- Lines are the first of these, and no more were heard to come only where they are all.
pub record AreFirst (heard lines : List Typed) (over : Bool) : Type 0 where
  pub unread : List Typed
  pub order : map as_own lines ≡ heard ++ unread
  pub all : over ≡ true → unread ≡ []

-- what was received in order is the first of what was sent
pub first_of_sent : (heard lines : List Typed) (over told : Bool) (known : List Heard) → (map Line heard ++ over_mark over) ++ known ≡ lines_sent lines ++ over_mark told → AreFirst heard lines over
first_of_sent [] lines false told known same = record { unread = map as_own lines; order = refl; all = λ (e : false ≡ true). absurd (cc) }
first_of_sent [] [] true told known same = record { unread = []; order = refl; all = λ (e : true ≡ true). refl }
first_of_sent [] (l ∷ lines) true told known same = absurd (cc)
first_of_sent (h ∷ heard) [] over true known same = absurd (cc)
first_of_sent (h ∷ heard) [] over false known same = absurd (cc)
first_of_sent (h ∷ heard) (l ∷ lines) over told known same =
    let first : h ≡ as_own l = cc in
    let others : (map Line heard ++ over_mark over) ++ known ≡ lines_sent lines ++ over_mark told = cc in
    let rest = first_of_sent heard lines over told known others in
    record { unread = rest.unread; order = ap (λ (x : Typed). x ∷ map as_own lines) (sym first) ∙ ap (λ (xs : List Typed). h ∷ xs) rest.order; all = rest.all }

first_over : (h : Hearing) (hs : List Hearing) → AreOver (h ∷ hs) → IsOver h × AreOver hs
first_over h hs over = both_true (is_over_of h) (list_all is_over_of hs) over

over_parts : (over : Bool) (ahead : Option Typed) → (over && not (is_some ahead)) ≡ true → (over ≡ true) × (ahead_lines ahead ≡ [])
over_parts true None e = (refl, refl)
over_parts true (Some line) e = absurd (cc)
over_parts false ahead e = absurd (cc)

-- where all is over there is no line ahead
none_ahead : (h : Hearing) → IsOver h → (h.is_over ≡ true) × (ahead_lines h.ahead ≡ [])
none_ahead h over = over_parts h.is_over h.ahead over

heard_first : (lines : List Typed) (heard : List Typed) (h : Hearing) (known : List Heard) (sent : List Heard) (told : Bool) → IsHeardOf heard h → received h.lines ++ known ≡ sent
    → sent ≡ lines_sent lines ++ over_mark told → AreFirst (heard ++ ahead_lines h.ahead) lines h.is_over
heard_first lines heard h known sent told is fifo sent_is =
    first_of_sent (heard ++ ahead_lines h.ahead) lines h.is_over told known (ap (λ (l : List Heard). l ++ known) (sym is) ∙ fifo ∙ sent_is)

module _ {K W : Type 0} (typed : K → List Typed) (contents : W → Option (List ℕ)) (types reads : ℕ → Option (List ℕ)) (items : List Item) (shown : List ShownLine) (all_heard : Bool) where
  -- what a station leaves whose ends have met
  pub left_of : (station : ℕ) (h : Hearing) (a : AnswerRing) (t : Typist K) (p : Printer W) (left : StationLeft K W) (lines_known : List Heard) (answers_known : List (List ℕ))
      → IsHeardOfTypist typed types items station h t → IsHandedToPrinter contents reads shown station a p → (all_heard ≡ true → IsOver h)
      → received h.lines ++ lines_known ≡ sent t.lines → received p.answers ++ answers_known ≡ sent a
      → left.keyboard ≡ t.keyboard → left.end ≡ t.end → left.screen ≡ p.screen → (left.all_printed ≡ true → (p.all_printed ≡ true) × (answers_known ≡ []))
      → IsLeft typed contents types reads items shown all_heard station left
  left_of station h a t p left lines_known answers_known m o over lines_fifo answers_fifo keyboard end screen all =
      let s = m.typed_there in
      let split : shown_to station shown ≡ received p.answers ++ answers_known = sym o.handed ∙ sym answers_fifo in
      let said = lines_of station 1 items in
      let first = heard_first s.lines said h lines_known (sent t.lines) t.is_told m.heard lines_fifo s.sent_is in
      record {
        lines = s.lines;
        rest = s.rest;
        typed_is = ap (typed_at typed) keyboard ∙ s.read;
        own = s.own;
        end = subst (λ (e : LinesEnd). IsRest e s.rest) (sym end) s.end;
        are =
            subst (λ (k : Option K). AreTyped (types station) (typed_at typed k) left.end) (sym keyboard)
            (subst (λ (e : LinesEnd). AreTyped (types station) (typed_at typed t.keyboard) e) (sym end) s.are);
        unread = ahead_lines h.ahead ++ first.unread;
        read = first.order ∙ append_assoc said (ahead_lines h.ahead) first.unread;
        all = λ (e : all_heard ≡ true).
            let parts = none_ahead h (over e) in
            ap (λ (l : List Typed). l ++ first.unread) parts.1 ∙ first.all parts.0;
        printed =
            subst (λ (w : Option W). IsPrintedAt contents (reads station) w (shown_to station shown) left.all_printed) (sym screen)
            (printed_again contents (reads station) p.screen (received p.answers) answers_known (shown_to station shown) p.all_printed left.all_printed
            (λ (e : left.all_printed ≡ true).
            let both = all e in
            (both.0, split ∙ ap (λ (l : List (List ℕ)). received p.answers ++ l) both.1 ∙ append-nil (received p.answers)))
            split o.printed_there);
      }

  -- What is known of a station's lines in between: the ends belong together, and what was heard.
  record LinesBetween (station : ℕ) (e : StationEnds) (h : Hearing) : Type 0 where
    of : e.station ≡ station
    pair : IsPair e.lines h.lines
    heard : IsHeardOf (lines_of station 1 items) h

  record AnswersBetween (station : ℕ) (e : StationEnds) (a : AnswerRing) : Type 0 where
    of : e.station ≡ station
    pair : IsPair a e.answers
    handed : sent a ≡ shown_to station shown

  -- The ends of a station's ring of lines, and what is known of both.
  record LinesMet (station : ℕ) (h : Hearing) (t : Typist K) : Type 0 where
    pair : IsPair t.lines h.lines
    known : IsHeardOfTypist typed types items station h t

  record AnswersMet (station : ℕ) (a : AnswerRing) (p : Printer W) : Type 0 where
    pair : IsPair a p.answers
    known : IsHandedToPrinter contents reads shown station a p

  lines_between : (m : ℕ) (h0 : Hearing) (e : StationEnds) (h : Hearing) → IsLineRing m h0 e → IsHeard items m h0 h → LinesBetween m e h
  lines_between m h0 e h r is = record {
    of = r.ends_of;
    pair = (is.ring.0.0 ∙ r.pair.0, is.ring.0.1 ∙ r.pair.1, is.ring.0.2 ∙ r.pair.2, is.ring.0.3 ∙ r.pair.3);
    heard = is.heard;
  }

  lines_met : (m : ℕ) (e : StationEnds) (h : Hearing) (t : Typist K) → LinesBetween m e h → IsTypistEnd typed (types e.station) e.lines t → LinesMet m h t
  lines_met m e h t b is = record {
    pair = (b.pair.0 ∙ sym is.0.0.0, b.pair.1 ∙ sym is.0.0.1, b.pair.2 ∙ sym is.0.0.2, b.pair.3 ∙ sym is.0.0.3);
    known = record { heard = b.heard; typed_there = subst (λ (k : ℕ). IsSentBy typed (types k) t) b.of is.1 };
  }

  answers_between : (m : ℕ) (a0 : AnswerRing) (e : StationEnds) (a : AnswerRing) → IsAnswerRing m a0 e → IsHanded shown m a0 a → AnswersBetween m e a
  answers_between m a0 e a r is = record {
    of = r.ends_of;
    pair = (r.pair.0 ∙ sym is.ring_is.0.0, r.pair.1 ∙ sym is.ring_is.0.1, r.pair.2 ∙ sym is.ring_is.0.2, r.pair.3 ∙ sym is.ring_is.0.3);
    handed = is.sent_is;
  }

  answers_met : (m : ℕ) (e : StationEnds) (a : AnswerRing) (p : Printer W) → AnswersBetween m e a → IsPrinterEnd contents (reads e.station) e.answers p → AnswersMet m a p
  answers_met m e a p b is = record {
    pair = (is.0.0.0 ∙ b.pair.0, is.0.0.1 ∙ b.pair.1, is.0.0.2 ∙ b.pair.2, is.0.0.3 ∙ b.pair.3);
    known = record { handed = b.handed; printed_there = subst (λ (k : ℕ). IsPrintedBy contents (reads k) p) b.of is.1 };
  }

  all_lines : (hs0 hs : List Hearing) (rs0 : List AnswerRing) (es : List StationEnds) (ts : List (Typist K)) → AreRings 1 hs0 rs0 es → AreHeardFrom items 1 hs0 hs → HaveTypedFor typed types es ts
      → AreFrom (λ k h t. LinesMet k h t) 1 hs ts
  all_lines hs0 hs rs0 es ts rings heard typists =
      let between = pair_through (λ k h e. IsLineRing k h e) (λ k h0 h. IsHeard items k h0 h) (λ k e h. LinesBetween k e h) 1 hs0 es hs rings.lines heard lines_between in
      pair_through (λ k e h. LinesBetween k e h) (λ k e t. IsTypistEnd typed (types e.station) e.lines t) (λ k h t. LinesMet k h t) 1 es hs ts between typists lines_met

  all_answers : (hs0 : List Hearing) (rs0 rs : List AnswerRing) (es : List StationEnds) (ps : List (Printer W)) → AreRings 1 hs0 rs0 es → AreHandedFrom shown 1 rs0 rs
      → HavePrintedFor contents reads es ps → AreFrom (λ k a p. AnswersMet k a p) 1 rs ps
  all_answers hs0 rs0 rs es ps rings handed printers =
      let between = pair_through (λ k a e. IsAnswerRing k a e) (λ k a0 a. IsHanded shown k a0 a) (λ k e a. AnswersBetween k e a) 1 rs0 es rs rings.answers handed answers_between in
      pair_through (λ k e a. AnswersBetween k e a) (λ k e p. IsPrinterEnd contents (reads e.station) e.answers p) (λ k a p. AnswersMet k a p) 1 es rs ps between printers answers_met

  -- all stations' ends belong together
  pub all_met : (hs0 hs : List Hearing) (rs0 rs : List AnswerRing) (es : List StationEnds) (ts : List (Typist K)) (ps : List (Printer W)) → AreRings 1 hs0 rs0 es → AreHeardFrom items 1 hs0 hs
      → AreHandedFrom shown 1 rs0 rs → HaveTypedFor typed types es ts → HavePrintedFor contents reads es ps → AreMet 1 hs rs ts ps
  all_met hs0 hs rs0 rs es ts ps rings heard handed typists printers = record {
    lines = pair_all (λ k h t. LinesMet k h t) (λ k h t. IsPair t.lines h.lines) 1 hs ts (all_lines hs0 hs rs0 es ts rings heard typists) (λ m h t after met. met.pair);
    answers = pair_all (λ k a p. AnswersMet k a p) (λ k a p. IsPair a p.answers) 1 rs ps (all_answers hs0 rs0 rs es ps rings handed printers) (λ m a p after met. met.pair);
    many =
        sym (pair_length (λ k h0 h. IsHeard items k h0 h) 1 hs0 hs heard) ∙ pair_length (λ k h e. IsLineRing k h e) 1 hs0 es rings.lines
        ∙ sym (pair_length (λ k a e. IsAnswerRing k a e) 1 rs0 es rings.answers) ∙ pair_length (λ k a0 a. IsHanded shown k a0 a) 1 rs0 rs handed;
  }

  -- and this is known of them
  pub all_meet : (hs0 hs : List Hearing) (rs0 rs : List AnswerRing) (es : List StationEnds) (ts : List (Typist K)) (ps : List (Printer W)) → AreRings 1 hs0 rs0 es → AreHeardFrom items 1 hs0 hs
      → AreHandedFrom shown 1 rs0 rs → HaveTypedFor typed types es ts → HavePrintedFor contents reads es ps → (all_heard ≡ true → AreOver hs)
      → AreMeeting typed contents types reads items shown all_heard 1 hs rs ts ps
  all_meet hs0 hs rs0 rs es ts ps rings heard handed typists printers over = record {
    heard =
        pair_all (λ k h t. LinesMet k h t) (λ k h t. IsHeardOfTypist typed types items k h t) 1 hs ts (all_lines hs0 hs rs0 es ts rings heard typists) (λ m h t after met. met.known);
    handed =
        pair_all (λ k a p. AnswersMet k a p) (λ k a p. IsHandedToPrinter contents reads shown k a p) 1 rs ps (all_answers hs0 rs0 rs es ps rings handed printers) (λ m a p after met. met.known);
    over = over;
  }

-- nothing was heard of rings that have no use yet
unheard_one : (k : ℕ) (h : Hearing) (e : StationEnds) → IsLineRing k h e → IsHeard [] k h h
unheard_one k h e r = record {
  station_is = r.station_is;
  ring = ((refl, refl, refl, refl), refl);
  heard =
      r.unheard
      ∙ sym (ap (λ (ahead : Option Typed). map Line ([] ++ ahead_lines ahead) ++ over_mark h.is_over) r.none_ahead ∙ ap over_mark r.unended);
}

pub rings_unheard : (hs : List Hearing) (rs : List AnswerRing) (es : List StationEnds) → AreRings 1 hs rs es → AreHeardFrom [] 1 hs hs
rings_unheard hs rs es rings = pair_alone (λ k h e. IsLineRing k h e) (λ k f h. IsHeard [] k f h) 1 hs es rings.lines unheard_one

pub rings_unhanded : (hs : List Hearing) (rs : List AnswerRing) (es : List StationEnds) → AreRings 1 hs rs es → AreHandedFrom [] 1 rs rs
rings_unhanded hs rs es rings =
    pair_alone (λ k a e. IsAnswerRing k a e) (λ k f r. IsHanded [] k f r) 1 rs es rings.answers (λ k a e r. record { ring_is = ((refl, refl, refl, refl), refl); sent_is = r.unhanded })

unused_from : (n : ℕ) (hs : List Hearing) (rs : List AnswerRing) (es : List StationEnds) → AreFrom (λ k h e. IsLineRing k h e) n hs es → AreFrom (λ k a e. IsAnswerRing k a e) n rs es → AreUnused es
unused_from n [] rs [] lines answers = tt
unused_from n [] rs (e ∷ es) lines answers = absurd lines
unused_from n (h ∷ hs) rs [] lines answers = absurd lines
unused_from n (h ∷ hs) [] (e ∷ es) lines answers = absurd answers
unused_from n (h ∷ hs) (a ∷ rs) (e ∷ es) lines answers =
    (record { unsent = lines.0.unsent; untaken = answers.0.untaken }, unused_from (n + 1) hs rs es lines.1 answers.1)

pub rings_unused : (hs : List Hearing) (rs : List AnswerRing) (es : List StationEnds) → AreRings 1 hs rs es → AreUnused es
rings_unused hs rs es rings = unused_from 1 hs rs es rings.lines rings.answers

of_from : (n count : ℕ) (hs : List Hearing) (es : List StationEnds) → AreFrom (λ k h e. IsLineRing k h e) n hs es → 1 ≤ n → n + length es ≤ suc count → AreOf count es
of_from n count [] [] are first last = tt
of_from n count [] (e ∷ es) are first last = absurd are
of_from n count (h ∷ hs) [] are first last = absurd are
of_from n count (h ∷ hs) (e ∷ es) are first last =
    let station : e.station ≡ n = are.0.ends_of in
    let low : 1 ≤ e.station = omega (arith, station, first) in
    let high : e.station ≤ count = omega (arith, station, last) in
    let next : 1 ≤ n + 1 = omega arith in
    let others : (n + 1) + length es ≤ suc count = omega (arith, last) in
    ((low, high), of_from (n + 1) count hs es are.1 next others)

-- the rings are those of stations from 1 on
pub rings_of : (hs : List Hearing) (rs : List AnswerRing) (es : List StationEnds) → AreRings 1 hs rs es → AreOf (length es) es
rings_of hs rs es rings = of_from 1 (length es) hs es rings.lines (omega arith) (omega arith)

of_one : (count : ℕ) (before : List StationEnds) (e : StationEnds) (rest : List StationEnds) → AreOf count (before ++ e ∷ rest) → (1 ≤ e.station) × (e.station ≤ count)
of_one count [] e rest are = are.0
of_one count (b ∷ before) e rest are = of_one count before e rest are.1

-- a station's ends that come next are of one of so many stations
pub station_of : (count : ℕ) (before : List StationEnds) (e : StationEnds) (rest others all : List StationEnds) → others ≡ e ∷ rest → before ++ others ≡ all → AreOf count all
    → (1 ≤ e.station) × (e.station ≤ count)
station_of count before e rest others all next all_are are =
    of_one count before e rest (subst (AreOf count) (sym all_are ∙ ap (λ (l : List StationEnds). before ++ l) next) are)

pub as_many : (hs : List Hearing) (rs : List AnswerRing) (es : List StationEnds) → AreRings 1 hs rs es → length hs ≡ length es
as_many hs rs es rings = pair_length (λ k h e. IsLineRing k h e) 1 hs es rings.lines

pub same_length : {A B C : Type 0} (f : A → C) (h : B → C) (xs : List A) (ys : List B) → map f xs ≡ map h ys → length xs ≡ length ys
same_length f h xs ys same = sym (length-map xs f) ∙ ap length same ∙ length-map ys h

-- none came: there was none
pub no_more : {A : Type 0} (o : Option A) (n : ℕ) → o ≡ None → (IsSome o ↔ (0 < n)) → n ≡ 0
no_more None zero none some = refl
no_more None (suc n) none some = let there = some.1 (omega arith) in absurd (cc)
no_more (Some x) n none some = absurd (cc)

-- a day was lived of items, where nothing was read or shown before
pub lived_by : {D : Type 0} (m : DiskMeaning D) (opens : List ℕ → D → Type 0) (files : Option (List NamedFile)) (words : List Text) (all_heard all : Bool) (items first : List Item) (shown first_shown : List ShownLine)
    (ended : Result Lived (Ending (Failure LiveFailure)))
    → IfOk ended (λ lived. IsAskedLife m opens files words (IsAllTyped (all ≡ true) None None) (item_lines first) (item_lines items) first_shown shown (Ok lived))
    → IfErr ended (IsUnlived m opens files words (IsAllTyped (all ≡ true) None None) (item_lines first) (item_lines items) first_shown shown)
    → first ≡ [] → first_shown ≡ [] → all_heard ≡ all → IsLivedBy m opens files words all_heard items shown ended
lived_by m opens files words all_heard all items first shown first_shown (Ok lived) ok err none unshown same =
    subst (λ (b : Bool). IsAskedLife m opens files words (IsAllTyped (b ≡ true) None None) [] (item_lines items) [] shown (Ok lived)) (sym same)
    (subst (λ (s : List ShownLine). IsAskedLife m opens files words (IsAllTyped (all ≡ true) None None) [] (item_lines items) s shown (Ok lived)) unshown
    (subst (λ (f : List Item). IsAskedLife m opens files words (IsAllTyped (all ≡ true) None None) (item_lines f) (item_lines items) first_shown shown (Ok lived)) none ok))
lived_by m opens files words all_heard all items first shown first_shown (Err why) ok err none unshown same =
    subst (λ (b : Bool). IsUnlived m opens files words (IsAllTyped (b ≡ true) None None) [] (item_lines items) [] shown why) (sym same)
    (subst (λ (s : List ShownLine). IsUnlived m opens files words (IsAllTyped (all ≡ true) None None) [] (item_lines items) s shown why) unshown
    (subst (λ (f : List Item). IsUnlived m opens files words (IsAllTyped (all ≡ true) None None) (item_lines f) (item_lines items) first_shown shown why) none err))

-- nothing is known of what is left where nothing is left
pub none_known : {A : Type 0} (known : List A) (n : ℕ) → n ≡ 0 → n ≡ length known → known ≡ []
none_known [] n none same = refl
none_known (x ∷ known) n none same = absurd (omega (arith, none, same))

-- one station's rings more
pub rings_more : (hs next_hs : List Hearing) (rs next_rs : List AnswerRing) (es next_es : List StationEnds) (h : Hearing) (a : AnswerRing) (e : StationEnds) (i : ℕ) → AreRings 1 hs rs es → length hs ≡ i
    → next_hs ≡ hs ++ h ∷ [] → next_rs ≡ rs ++ a ∷ [] → next_es ≡ es ++ e ∷ [] → IsLineRing (i + 1) h e → IsAnswerRing (i + 1) a e → AreRings 1 next_hs next_rs next_es
rings_more hs next_hs rs next_rs es next_es h a e i rings long eh ea ee line answer =
    let many : length hs ≡ length es = pair_length (λ k x y. IsLineRing k x y) 1 hs es rings.lines in
    let number : i + 1 ≡ 1 + length es = omega (arith, long, many) in
    record {
      lines =
          subst (λ (l : List Hearing). AreFrom (λ k x y. IsLineRing k x y) 1 l next_es) (sym eh)
          (subst (λ (l : List StationEnds). AreFrom (λ k x y. IsLineRing k x y) 1 (hs ++ h ∷ []) l) (sym ee)
          (pair_snoc (λ k x y. IsLineRing k x y) 1 hs es h e rings.lines (subst (λ (k : ℕ). IsLineRing k h e) number line)));
      answers =
          subst (λ (l : List AnswerRing). AreFrom (λ k x y. IsAnswerRing k x y) 1 l next_es) (sym ea)
          (subst (λ (l : List StationEnds). AreFrom (λ k x y. IsAnswerRing k x y) 1 (rs ++ a ∷ []) l) (sym ee)
          (pair_snoc (λ k x y. IsAnswerRing k x y) 1 rs es a e rings.answers (subst (λ (k : ℕ). IsAnswerRing k a e) number answer)));
    }

module _ {K W : Type 0} where
  -- the next ends meet, and so belong the others together
  pub met_step : (n : ℕ) (hs hs' : List Hearing) (rs rs' : List AnswerRing) (ts ts' : List (Typist K)) (ps ps' : List (Printer W)) (h : Hearing) (a : AnswerRing) (t : Typist K) (p : Printer W)
      → hs ≡ h ∷ hs' → rs ≡ a ∷ rs' → ts ≡ t ∷ ts' → ps ≡ p ∷ ps' → AreMet n hs rs ts ps → IsPair t.lines h.lines × IsPair a p.answers × AreMet (n + 1) hs' rs' ts' ps'
  met_step n hs hs' rs rs' ts ts' ps ps' h a t p eh ea et ep met =
      let lines = subst (λ (l : List Hearing). AreFrom (λ k x y. IsPair y.lines x.lines) n l (t ∷ ts')) eh (subst (λ (l : List (Typist K)). AreFrom (λ k x y. IsPair y.lines x.lines) n hs l) et met.lines) in
      let answers = subst (λ (l : List AnswerRing). AreFrom (λ k x y. IsPair x y.answers) n l (p ∷ ps')) ea (subst (λ (l : List (Printer W)). AreFrom (λ k x y. IsPair x y.answers) n rs l) ep met.answers) in
      (lines.0, answers.0, record { lines = lines.1; answers = answers.1; many = let both : length (h ∷ hs') ≡ length (a ∷ rs') = ap length (sym eh) ∙ met.many ∙ ap length ea in omega (arith, both) })

  pub number_on : (room room' : List (StationLeft K W)) (left : StationLeft K W) (hs : List Hearing) (rs : List AnswerRing) (ts : List (Typist K)) (ps : List (Printer W)) → room' ≡ room ++ left ∷ []
      → AreMet ((1 + length room) + 1) hs rs ts ps → AreMet (1 + length room') hs rs ts ps
  number_on room room' left hs rs ts ps more met =
      let number : (1 + length room) + 1 ≡ 1 + length room' = omega (arith, ap length more, length-append room (left ∷ [])) in
      subst (λ (k : ℕ). AreMet k hs rs ts ps) number met

  module _ (typed : K → List Typed) (contents : W → Option (List ℕ)) (types reads : ℕ → Option (List ℕ)) (items : List Item) (shown : List ShownLine) (all_heard : Bool) where
    -- and so much is known of what stations have left
    pub left_step : (room room' : List (StationLeft K W)) (left : StationLeft K W) (hs hs' : List Hearing) (rs rs' : List AnswerRing) (ts ts' : List (Typist K)) (ps ps' : List (Printer W))
        (h : Hearing) (a : AnswerRing) (t : Typist K) (p : Printer W) → hs ≡ h ∷ hs' → rs ≡ a ∷ rs' → ts ≡ t ∷ ts' → ps ≡ p ∷ ps' → room' ≡ room ++ left ∷ []
        → ((station : ℕ) → IsHeardOfTypist typed types items station h t → IsHandedToPrinter contents reads shown station a p → (all_heard ≡ true → IsOver h) → IsLeft typed contents types reads items shown all_heard station left)
        → HaveLeft typed contents types reads items shown all_heard room × AreMeeting typed contents types reads items shown all_heard (1 + length room) hs rs ts ps
        → HaveLeft typed contents types reads items shown all_heard room' × AreMeeting typed contents types reads items shown all_heard (1 + length room') hs' rs' ts' ps'
    left_step room room' left hs hs' rs rs' ts ts' ps ps' h a t p eh ea et ep er leaves both =
        let n = 1 + length room in
        let m = both.1 in
        let heard = subst (λ (l : List Hearing). AreFrom (λ k x y. IsHeardOfTypist typed types items k x y) n l (t ∷ ts')) eh
        (subst (λ (l : List (Typist K)). AreFrom (λ k x y. IsHeardOfTypist typed types items k x y) n hs l) et m.heard) in
        let handed = subst (λ (l : List AnswerRing). AreFrom (λ k x y. IsHandedToPrinter contents reads shown k x y) n l (p ∷ ps')) ea
        (subst (λ (l : List (Printer W)). AreFrom (λ k x y. IsHandedToPrinter contents reads shown k x y) n rs l) ep m.handed) in
        let number : n + 1 ≡ 1 + length room' = omega (arith, ap length er, length-append room (left ∷ [])) in
        let one = leaves n heard.0 handed.0 (λ (e : all_heard ≡ true). (first_over h hs' (subst AreOver eh (m.over e))).0) in (
          subst (λ (l : List (StationLeft K W)). HaveLeft typed contents types reads items shown all_heard l) (sym er)
              (each_snoc (λ k l. IsLeft typed contents types reads items shown all_heard k l) 1 room left both.0 one),
          record {
            heard = subst (λ (k : ℕ). AreFrom (λ k x y. IsHeardOfTypist typed types items k x y) k hs' ts') number heard.1;
            handed = subst (λ (k : ℕ). AreFrom (λ k x y. IsHandedToPrinter contents reads shown k x y) k rs' ps') number handed.1;
            over = λ (e : all_heard ≡ true). (first_over h hs' (subst AreOver eh (m.over e))).1;
          },
        )

-- what the threads have left that had the ends of these stations
pub typed_for : {K T : Type 0} (typed : K → List Typed) (types : T → ℕ → Option (List ℕ)) (terminals : T) (stations : List StationEnds) (first : List (T × ℕ × LineRing)) (ends : List (Typist K))
    → first ≡ map (line_end terminals) stations → HaveTyped typed types first ends → HaveTypedFor typed (types terminals) stations ends
typed_for {K} {T} typed types terminals stations first ends same have =
    pair_of_map (IsTypistOf typed types) (line_end terminals) 1 stations ends
    (subst (λ (l : List (T × ℕ × LineRing)). HaveTyped typed types l ends) same have)

pub printed_for : {W T : Type 0} (contents : W → Option (List ℕ)) (reads : T → ℕ → Option (List ℕ)) (terminals : T) (stations : List StationEnds) (first : List (T × ℕ × AnswerEnd))
    (ends : List (Printer W)) → first ≡ map (answer_end terminals) stations → HavePrinted contents reads first ends → HavePrintedFor contents (reads terminals) stations ends
printed_for {W} {T} contents reads terminals stations first ends same have =
    pair_of_map (IsPrinterOf contents reads) (answer_end terminals) 1 stations ends
    (subst (λ (l : List (T × ℕ × AnswerEnd)). HavePrinted contents reads l ends) same have)
