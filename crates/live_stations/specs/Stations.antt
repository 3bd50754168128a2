-- What stations leave of a day.
use Rattle.std.specs.Prelude.{◌≡◌, ◌≤◌, true, false, ℕ, List, [], ◌++◌, length, map, Bool, Option, None, Result, Ok, Err, IfErr}
use Rattle.std.specs.List.{AllByRecursion}
use Rattle.clap.specs.Words.{Text}
use Rattle.files_in_place.specs.Disk.{DiskMeaning}
use Rattle.folders.specs.declared.named.NamedFile.{NamedFile}
use Rattle.program_frame.specs.declared.ending.Ending.{Ending}
use Rattle.program_frame.specs.declared.ending.Failure.{Failure}
use Rattle.live_program.specs.declared.failure.LiveFailure.{LiveFailure}
use Rattle.live_program.specs.declared.lived.Lived.{Lived}
use Rattle.live_program.specs.Lives.{IsAskedLife, IsUnlived}
use Rattle.live_day.specs.Faults.{IsDayFault}
use Rattle.live_day.specs.Groups.{IsNoQuit}
use Rattle.live_day.specs.Typing.{CanReadNoMore, IsAllTyped}
use Rattle.live_program.specs.Failures.{IsWhyUnlived}
use Rattle.live_stations.specs.declared.day.ScopeLeft.{ScopeLeft}
use Rattle.live_stations.specs.declared.day.StationsDay.{StationsDay}
use Rattle.rtrb.specs.Ring.{received, sent, IsPair}
use Rattle.live_day.specs.declared.keyboard.Typed.{Typed}
use Rattle.live_day.specs.Shows.{ShownLine}
use Rattle.live_stations.specs.declared.day.StationLeft.{StationLeft}
use Rattle.live_stations.specs.declared.hearing.Hearing.{Hearing}
use Rattle.live_stations.specs.declared.printer.Printer.{Printer}
use Rattle.live_stations.specs.declared.threads.Prints.{Prints}
use Rattle.live_stations.specs.declared.threads.StationEnds.{StationEnds}
use Rattle.live_stations.specs.declared.threads.Types.{Types}
use Rattle.live_stations.specs.declared.typist.Typist.{Typist}
use Rattle.live_stations.specs.Done.{AreNamed, AskNothing}
use Rattle.live_stations.specs.Handed.{AnswerEnd, AnswerRing, shown_to, AreHandedFrom, IsPrintedAt, IsPrintedBy, IsPrinterEnd}
use Rattle.live_stations.specs.Hearings.{AreHeardFrom, AreOver, IsHeardOf}
use Rattle.live_stations.specs.Items.{as_own, item_lines, lines_of, Item}
use Rattle.live_stations.specs.Pairs.{AreFrom, EachFrom}
use Rattle.live_stations.specs.Typists.{typed_at, AreTyped, IsRest, IsSentBy, IsTypistEnd, LineRing}

-- a text of each station, where it is known
abbrev pub StationTexts : Type 0
StationTexts = ℕ → Option (List ℕ)

-- a station's end of its ring of lines, of the terminals where it types
abbrev pub line_end : {T : Type 0} → T → StationEnds → T × ℕ × LineRing
line_end terminals e = (terminals, e.station, e.lines)

-- a station's end of its ring of answers, of the terminals where it reads
abbrev pub answer_end : {T : Type 0} → T → StationEnds → T × ℕ × AnswerEnd
answer_end terminals e = (terminals, e.station, e.answers)

-- and those of which a thread has promised what it leaves
abbrev pub typing_of : {T : Type 0} → Types T → T × ℕ × LineRing
typing_of promise = (promise.terminals.value, promise.station, promise.lines.value)

abbrev pub printing_of : {T : Type 0} → Prints T → T × ℕ × AnswerEnd
printing_of promise = (promise.terminals.value, promise.station, promise.answers.value)

-- nothing was sent or taken by a station's ends of its rings
pub record IsUnused (e : StationEnds) : Type 0 where
  pub unsent : sent e.lines ≡ []
  pub untaken : received e.answers ≡ []

-- nothing was sent or taken by the ends of each of these stations
abbrev pub AreUnused : List StationEnds → Type 0
AreUnused ends = AllByRecursion IsUnused ends

-- each is of one of so many stations
abbrev pub AreOf : ℕ → List StationEnds → Type 0
AreOf count ends = AllByRecursion (λ e. (1 ≤ e.station) × (e.station ≤ count)) ends

-- a thread that had this end of a ring has left this, of its station at its terminals
abbrev pub IsTypistOf : {K T : Type 0} → (K → List Typed) → (T → ℕ → Option (List ℕ)) → ℕ → T × ℕ × LineRing → Typist K → Type 0
IsTypistOf typed types n first e = IsTypistEnd typed (types first.0 first.1) first.2 e

abbrev pub IsPrinterOf : {W T : Type 0} → (W → Option (List ℕ)) → (T → ℕ → Option (List ℕ)) → ℕ → T × ℕ × AnswerEnd → Printer W → Type 0
IsPrinterOf contents reads n first e = IsPrinterEnd contents (reads first.0 first.1) first.2 e

-- what the threads that had these ends of the rings of lines have left
abbrev pub HaveTyped : {K T : Type 0} → (K → List Typed) → (T → ℕ → Option (List ℕ)) → List (T × ℕ × LineRing) → List (Typist K) → Type 0
HaveTyped typed types first ends = AreFrom (IsTypistOf typed types) 1 first ends

-- what the threads that had these ends of the rings of answers have left
abbrev pub HavePrinted : {W T : Type 0} → (W → Option (List ℕ)) → (T → ℕ → Option (List ℕ)) → List (T × ℕ × AnswerEnd) → List (Printer W) → Type 0
HavePrinted contents reads first ends = AreFrom (IsPrinterOf contents reads) 1 first ends

-- what the threads that had the line ends of these stations have left
abbrev pub HaveTypedFor : {K : Type 0} → (K → List Typed) → StationTexts → List StationEnds → List (Typist K) → Type 0
HaveTypedFor typed types stations ends = AreFrom (λ n s e. IsTypistEnd typed (types s.station) s.lines e) 1 stations ends

abbrev pub HavePrintedFor : {W : Type 0} → (W → Option (List ℕ)) → StationTexts → List StationEnds → List (Printer W) → Type 0
HavePrintedFor contents reads stations ends = AreFrom (λ n s e. IsPrinterEnd contents (reads s.station) s.answers e) 1 stations ends

-- A station's lines were read as it typed them of its text, in order, and its answers were printed as they were shown, in order, on its own screen after
-- what stood there: of both the first ones, or all, where that is said.
pub record IsLeft {K W : Type 0} (typed : K → List Typed) (contents : W → Option (List ℕ)) (types reads : StationTexts) (items : List Item)
    (shown : List ShownLine) (all_heard : Bool) (station : ℕ) (left : StationLeft K W) : Type 0 where
  pub lines : List Typed
  pub rest : List Typed
  pub typed_is : typed_at typed left.keyboard ≡ lines ++ rest
  pub own : AllByRecursion IsNoQuit lines
  pub end : IsRest left.end rest
  pub are : AreTyped (types station) (typed_at typed left.keyboard) left.end
  pub unread : List Typed
  pub read : map as_own lines ≡ lines_of station 1 items ++ unread
  pub all : all_heard ≡ true → unread ≡ []
  pub printed : IsPrintedAt contents (reads station) left.screen (shown_to station shown) left.all_printed

-- each station, counted from 1, has left this
abbrev pub HaveLeft : {K W : Type 0} → (K → List Typed) → (W → Option (List ℕ)) → StationTexts → StationTexts → List Item → List ShownLine → Bool
    → List (StationLeft K W) → Type 0
HaveLeft typed contents types reads items shown all_heard stations = EachFrom (IsLeft typed contents types reads items shown all_heard) 1 stations

-- A station's ring of lines, of which nothing was sent or heard: the day has one end of it and the station the other.
pub record IsLineRing (station : ℕ) (h : Hearing) (e : StationEnds) : Type 0 where
  pub pair : IsPair e.lines h.lines
  pub station_is : h.station ≡ station
  pub ends_of : e.station ≡ station
  pub unsent : sent e.lines ≡ []
  pub unheard : received h.lines ≡ []
  pub none_ahead : h.ahead ≡ None
  pub unended : h.is_over ≡ false

-- A station's ring of answers, of which nothing was handed or taken.
pub record IsAnswerRing (station : ℕ) (answers : AnswerRing) (e : StationEnds) : Type 0 where
  pub pair : IsPair answers e.answers
  pub ends_of : e.station ≡ station
  pub unhanded : sent answers ≡ []
  pub untaken : received e.answers ≡ []

-- of each station from this one on, the day has one end of each ring and the station the other, and nothing went through them
pub record AreRings (n : ℕ) (hs : List Hearing) (rings : List AnswerRing) (es : List StationEnds) : Type 0 where
  pub lines : AreFrom (λ k h e. IsLineRing k h e) n hs es
  pub answers : AreFrom (λ k a e. IsAnswerRing k a e) n rings es

-- the ends of stations' rings belong together
pub record AreMet {K W : Type 0} (n : ℕ) (hs : List Hearing) (rings : List AnswerRing) (ts : List (Typist K)) (ps : List (Printer W)) : Type 0 where
  pub lines : AreFrom (λ k h t. IsPair t.lines h.lines) n hs ts
  pub answers : AreFrom (λ k a p. IsPair a p.answers) n rings ps
  pub many : length hs ≡ length rings

-- What was heard of a station is what it said, and what was typed there was sent.
pub record IsHeardOfTypist {K : Type 0} (typed : K → List Typed) (types : StationTexts) (items : List Item) (station : ℕ) (h : Hearing)
    (t : Typist K) : Type 0 where
  pub heard : IsHeardOf (lines_of station 1 items) h
  pub typed_there : IsSentBy typed (types station) t

-- To a station was handed what it was shown, and what was received there was printed.
pub record IsHandedToPrinter {W : Type 0} (contents : W → Option (List ℕ)) (reads : StationTexts) (shown : List ShownLine) (station : ℕ)
    (answers : AnswerRing) (p : Printer W) : Type 0 where
  pub handed : sent answers ≡ shown_to station shown
  pub printed_there : IsPrintedBy contents (reads station) p

-- What is known of stations where the ends of their rings meet again.
pub record AreMeeting {K W : Type 0} (typed : K → List Typed) (contents : W → Option (List ℕ)) (types reads : StationTexts) (items : List Item)
    (shown : List ShownLine) (all_heard : Bool) (n : ℕ)
    (hs : List Hearing) (rings : List AnswerRing) (ts : List (Typist K)) (ps : List (Printer W)) : Type 0 where
  pub heard : AreFrom (λ k h t. IsHeardOfTypist typed types items k h t) n hs ts
  pub handed : AreFrom (λ k a p. IsHandedToPrinter contents reads shown k a p) n rings ps
  pub over : all_heard ≡ true → AreOver hs

-- how a day of these items ended, with these lines shown: as `run_program` says it of one keyboard
abbrev pub IsLivedBy : {D : Type 0} → DiskMeaning D → (List ℕ → D → Type 0) → Option (List NamedFile) → List Text → Bool → List Item → List ShownLine
    → Result Lived (Ending (Failure LiveFailure)) → Type 0
IsLivedBy m opens files words all_heard items shown (Ok lived) =
    IsAskedLife m opens files words (IsAllTyped (all_heard ≡ true) None None) [] (item_lines items) [] shown (Ok lived)
IsLivedBy m opens files words all_heard items shown (Err why) =
    IsUnlived m opens files words (IsAllTyped (all_heard ≡ true) None None) [] (item_lines items) [] shown why

-- why it ended before its time, where it did: a screen that takes no more lines is one of the day's own, by which answers are handed on
abbrev pub IsWhyNotLived : {D : Type 0} → DiskMeaning D → (List ℕ → D → Type 0) → Option (List NamedFile) → List Text → Bool → List Item
    → Result Lived (Ending (Failure LiveFailure)) → Type 0
IsWhyNotLived m opens files words unshown items ended =
    IfErr ended (IsWhyUnlived m opens (IsDayFault m (unshown ≡ true) (CanReadNoMore ⊥ (item_lines items))) files words)

-- A day was lived, and what the threads of its stations have left of it.
pub record IsScopeLeft {D K W O E : Type 0} (m : DiskMeaning D) (opens : List ℕ → D → Type 0) (files : Option (List NamedFile)) (words : List Text)
    (typed : K → List Typed) (contents : W → Option (List ℕ)) (types reads : StationTexts) (hearings : List Hearing) (answers : List AnswerRing)
    (stations : List StationEnds) (left : ScopeLeft K W O E) : Type 0 where
  pub items : List Item
  pub shown : List ShownLine
  pub unshown : Bool
  pub lived : IsLivedBy m opens files words left.all_heard items shown left.ended
  pub why : IsWhyNotLived m opens files words unshown items left.ended
  pub heard : AreHeardFrom items 1 hearings left.hearings.items
  pub over : left.all_heard ≡ true → AreOver left.hearings.items
  pub are_named : AreNamed (length left.hearings.items) items
  pub handed : AreHandedFrom shown 1 answers left.answers.items
  pub typed_there : HaveTypedFor typed types stations left.typists.items
  pub printed_there : HavePrintedFor contents reads stations left.printers.items

-- A day of several stations: it was lived of what they said, and each has left this. Only these are named, and what they say asks for nothing of
-- the keyboard.
pub record IsStationsDay {D K W O E : Type 0} (m : DiskMeaning D) (opens : List ℕ → D → Type 0) (files : Option (List NamedFile)) (words : List Text)
    (typed : K → List Typed) (contents : W → Option (List ℕ)) (types reads : StationTexts) (count : ℕ) (day : StationsDay K W O E) : Type 0 where
  pub items : List Item
  pub shown : List ShownLine
  pub unshown : Bool
  pub lived : IsLivedBy m opens files words day.all_heard items shown day.ended
  pub why : IsWhyNotLived m opens files words unshown items day.ended
  pub each : HaveLeft typed contents types reads items shown day.all_heard day.stations.items
  pub many : length day.stations.items ≡ count
  pub are_named : AreNamed count items
  pub own : 1 ≤ count → AskNothing items
