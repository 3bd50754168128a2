-- What was handed to the stations' screens.
use Rattle.std.specs.Prelude.{◌≡◌, Bool, true, false, ℕ, ◌==◌, List, [], ◌∷◌, ◌++◌, Option, Some, None}
use Rattle.std.specs.Io.KnownBytes.{Appends}
use Rattle.std.specs.Global.{Global}
use Rattle.rtrb.specs.declared.AnyItems.{AnyItems}
use Rattle.rtrb.specs.Ring.{sent, received, SameConsumer, SameProducer}
use Rattle.rtrb.specs.declared.consumer.Consumer.{Consumer}
use Rattle.rtrb.specs.declared.producer.Producer.{Producer}
use Rattle.live_day.specs.Shows.{ShownLine}
use Rattle.live_program.specs.Consoles.{shown_text, AppendsFront}
use Rattle.live_stations.specs.Pairs.{AreFrom}
use Rattle.live_stations.specs.declared.printer.Printer.{Printer}

-- the end of a ring of answers by which they are sent
abbrev pub AnswerRing : Type 0
AnswerRing = Producer (List ℕ) Global AnyItems

-- the end of a ring of answers by which they are received
abbrev pub AnswerEnd : Type 0
AnswerEnd = Consumer (List ℕ) Global AnyItems

-- a line, where it was shown to this station
abbrev pub if_shown_to : Bool → List ℕ → List (List ℕ)
if_shown_to true line = line ∷ []
if_shown_to false line = []

-- the lines that a station was shown, in order
abbrev pub shown_to : ℕ → List ShownLine → List (List ℕ)
shown_to n [] = []
shown_to n (s ∷ shown) = if_shown_to (s.station == n) s.line ++ shown_to n shown

-- lines as they are printed, one after another
abbrev pub printed_text : List (List ℕ) → List ℕ
printed_text [] = []
printed_text (line ∷ lines) = shown_text line ++ printed_text lines

-- Of a station's answers those were sent, by one end of one ring, that it was shown.
pub record IsHanded (shown : List ShownLine) (station : ℕ) (first ring : AnswerRing) : Type 0 where
  pub ring_is : SameProducer first ring
  pub sent_is : sent ring ≡ shown_to station shown

-- of each station from this one on, those of its answers were sent, by one end of one ring, that it was shown
abbrev pub AreHandedFrom : List ShownLine → ℕ → List AnswerRing → List AnswerRing → Type 0
AreHandedFrom shown n first rings = AreFrom (λ k f r. IsHanded shown k f r) n first rings

-- What contracts see of handed answers: the rings that they go in, what was shown, and whether a line may not be.
pub record HandedValue : Type 0 where
  pub rings : List AnswerRing
  pub shown : List ShownLine
  pub failed : Bool

-- What a screen has taken of these lines, since this stood there: all their text, or, where one was not printed, the first of it and nothing else.
abbrev pub HasShown : Option (List ℕ) → Option (List ℕ) → List (List ℕ) → Bool → Type 0
HasShown start now lines true = Appends start now (printed_text lines)
HasShown start now lines false = AppendsFront start now (printed_text lines)

-- Lines were taken, and the screen has shown them so.
pub record HasTaken (start now : Option (List ℕ)) (taken taken_then : List (List ℕ)) (all : Bool) : Type 0 where
  pub lines : List (List ℕ)
  pub more : taken_then ≡ taken ++ lines
  pub shown : HasShown start now lines all

-- A screen that was opened has shown these lines so, after what stood on it. Of one that was not, all are said to be shown only where there are none.
abbrev pub IsPrintedAt : {W : Type 0} → (W → Option (List ℕ)) → Option (List ℕ) → Option W → List (List ℕ) → Bool → Type 0
IsPrintedAt contents start None lines all = all ≡ true → lines ≡ []
IsPrintedAt contents start (Some screen) lines all = HasShown start (contents screen) lines all

-- what was received was printed, on a screen on which this stood
abbrev pub IsPrintedBy : {W : Type 0} → (W → Option (List ℕ)) → Option (List ℕ) → Printer W → Type 0
IsPrintedBy contents start e = IsPrintedAt contents start e.screen (received e.answers) e.all_printed

-- what a printer leaves: answers were received by this end of a ring, and were printed so
abbrev pub IsPrinterEnd : {W : Type 0} → (W → Option (List ℕ)) → Option (List ℕ) → AnswerEnd → Printer W → Type 0
IsPrinterEnd contents start first e = SameConsumer first e.answers × IsPrintedBy contents start e
