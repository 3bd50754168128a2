-- What was typed and shown, as lists of numbers.
use Rattle.std.specs.Prelude.{◌≡◌, Bool, ℕ, zero, suc, List, [], ◌∷◌, ◌++◌, Option, None}
use Rattle.std.specs.Io.KnownBytes.{Appends}
use Rattle.station_lines.specs.declared.script.format.TheConstants.{LF}
use Rattle.live_day.specs.declared.keyboard.Typed.{Typed}
use Rattle.live_day.specs.declared.keyboard.Typed.TheVariants.{Text, TooLong, Cut}
use Rattle.live_day.specs.declared.waiting.WaitingAnswer.{WaitingAnswer}
use Rattle.live_day.specs.Shows.{ShownLine}
use Rattle.live_program.specs.declared.reading.Origin.{Origin}
use Rattle.live_program.specs.declared.reading.Origin.TheVariants.{Pipe, Terminal}

-- a typed line: 1 and its bytes, nothing where it is too long, or 0 where it was cut
abbrev pub numbers_of_typed : Typed → List ℕ
numbers_of_typed (Text line) = 1 ∷ line
numbers_of_typed TooLong = []
numbers_of_typed Cut = 0 ∷ []

-- the typed line that such a list of numbers is
abbrev pub typed_of_numbers : List ℕ → Typed
typed_of_numbers [] = TooLong
typed_of_numbers (zero ∷ line) = Cut
typed_of_numbers (suc n ∷ line) = Text line

-- what is known of a text that is typed there: nothing at a terminal, where who types ends it
abbrev pub known_text : Origin → Option (List ℕ) → Option (List ℕ)
known_text Terminal text = None
known_text Pipe text = text

-- What contracts see of typed lines: where they come from and are read, what was typed, whether no more come, and whether one could not be read.
pub record TypedValue (R : Type 0) : Type 0 where
  pub origin : Origin
  pub reader : R
  pub typed : List Typed
  pub ended : Bool
  pub failed : Bool

-- a line that was shown: the moment, the count, the station, and its bytes
abbrev pub numbers_of_shown : ShownLine → List ℕ
numbers_of_shown s = s.moment ∷ (s.count ∷ (s.station ∷ s.line))

-- the line that was shown that such a list of numbers is
abbrev pub shown_of_numbers : List ℕ → ShownLine
shown_of_numbers (moment ∷ (count ∷ (station ∷ line))) = record { moment = moment; count = count; station = station; line = line }
shown_of_numbers other = record { moment = 0; count = 0; station = 0; line = [] }

-- What contracts see of printed answers: the writer that they are printed by, what was shown, and whether a line may not be.
pub record PrintedValue (W : Type 0) : Type 0 where
  pub out : W
  pub shown : List ShownLine
  pub failed : Bool

-- a line as it is printed, its LF too
abbrev pub shown_text : List ℕ → List ℕ
shown_text line = line ++ LF ∷ []

-- answers as they are printed, one after another
abbrev pub shown_texts : List WaitingAnswer → List ℕ
shown_texts [] = []
shown_texts (answer ∷ answers) = shown_text answer.line ++ shown_texts answers

-- All that a writer has taken since are the first of these bytes.
pub record AppendsFront (old now : Option (List ℕ)) (bytes : List ℕ) : Type 0 where
  pub front : List ℕ
  pub others : List ℕ
  pub order : bytes ≡ front ++ others
  pub gone : Appends old now front

-- A text of which the first part was printed since, and the rest waits on a page.
pub record HasPrinted (old now : Option (List ℕ)) (page text : List ℕ) : Type 0 where
  pub printed : List ℕ
  pub gone : Appends old now printed
  pub text_is : text ≡ printed ++ page
