-- What was heard of the stations.
use Rattle.std.specs.Prelude.{◌≡◌, ◌&&◌, Bool, true, false, not, is_some, ℕ, List, [], ◌∷◌, ◌++◌, map, Option, Some, None, length, ◌≤◌}
use Rattle.std.specs.List.{list_all}
use Rattle.rtrb.specs.Ring.{received, SameConsumer}
use Rattle.live_day.specs.declared.keyboard.Typed.{Typed}
use Rattle.live_stations.specs.declared.heard.Heard.{Heard}
use Rattle.live_stations.specs.declared.heard.Heard.TheVariants.{Line, Over}
use Rattle.live_stations.specs.declared.hearing.Hearing.{Hearing}
use Rattle.live_stations.specs.Done.{AreNamed}
use Rattle.live_stations.specs.Items.{Item, said, lines_of, seated_after}
use Rattle.live_stations.specs.Pairs.{AreFrom}

-- whether it was heard that no more lines come
abbrev pub over_mark : Bool → List Heard
over_mark true = Over ∷ []
over_mark false = []

-- the line that was looked for and not taken, if there is one
abbrev pub ahead_lines : Option Typed → List Typed
ahead_lines None = []
ahead_lines (Some line) = line ∷ []

-- what was heard of a station is these lines, which the day has had, and then the one that was looked for
abbrev pub IsHeardOf : List Typed → Hearing → Type 0
IsHeardOf given h = received h.lines ≡ map Line (given ++ ahead_lines h.ahead) ++ over_mark h.is_over

-- What was heard of a station, by one end of one ring, is what it said among these items.
pub record IsHeard (items : List Item) (station : ℕ) (first h : Hearing) : Type 0 where
  pub station_is : h.station ≡ station
  pub ring : SameConsumer first.lines h.lines
  pub heard : IsHeardOf (lines_of station 1 items) h

-- and so of each station from this one on
abbrev pub AreHeardFrom : List Item → ℕ → List Hearing → List Hearing → Type 0
AreHeardFrom items n first hearings = AreFrom (λ k f h. IsHeard items k f h) n first hearings

-- What contracts see of the lines that are heard: the stations, what was read, and whether all are over.
pub record HeardValue : Type 0 where
  pub hearings : List Hearing
  pub items : List Item
  pub ended : Bool

-- What holds of them: of each station was heard what it said, this one has the keyboard, and only these stations were given it.
pub record IsHearing (first hearings : List Hearing) (items : List Item) (seated : ℕ) : Type 0 where
  pub each : AreHeardFrom items 1 first hearings
  pub seat : seated ≡ seated_after 1 items
  pub are_named : AreNamed (length hearings) items

-- no more lines of a station come, and each was taken
abbrev pub is_over_of : Hearing → Bool
is_over_of h = h.is_over && not (is_some h.ahead)

-- no more lines of a station come, and each was taken
abbrev pub IsOver : Hearing → Type 0
IsOver h = is_over_of h ≡ true

-- of no station more lines come, and each was taken
abbrev pub AreOver : List Hearing → Type 0
AreOver hearings = list_all is_over_of hearings ≡ true

-- Of the stations was heard what was heard before: nothing was said since.
pub record IsHeardAgain (old new : List Hearing) : Type 0 where
  pub many : length new ≡ length old
  pub each : (items : List Item) (first : List Hearing) → AreHeardFrom items 1 first old → AreHeardFrom items 1 first new

-- Now a line of the station that has the keyboard was heard.
pub record IsSaidNow (seated : ℕ) (line : Typed) (old new : List Hearing) : Type 0 where
  pub many : length new ≡ length old
  pub each : (items : List Item) (first : List Hearing) → AreHeardFrom items 1 first old → seated ≡ seated_after 1 items → AreHeardFrom (items ++ said line ∷ []) 1 first new

-- the number of one of these stations, counted from 1
abbrev pub IsNumbered : ℕ → List Hearing → Type 0
IsNumbered n hearings = (1 ≤ n) × (n ≤ length hearings)
