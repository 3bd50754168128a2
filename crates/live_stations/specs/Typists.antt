-- What a station's thread sends of the lines that are typed there.
use Rattle.std.specs.Prelude.{◌≡◌, ◌≤◌, ℕ, ⊤, List, [], ◌∷◌, ◌++◌, length, map, Option, Some, None}
use Rattle.std.specs.List.{AllByRecursion}
use Rattle.live_day.specs.declared.keyboard.Typed.{Typed}
use Rattle.live_day.specs.declared.wish.Wish.TheVariants.{Quit}
use Rattle.live_day.specs.Groups.{IsNoQuit}
use Rattle.live_day.specs.Sessions.{IsWishTyped}
use Rattle.live_day.specs.Typing.{TypesLines}
use Rattle.live_stations.specs.declared.heard.Heard.{Heard}
use Rattle.live_stations.specs.declared.heard.Heard.TheVariants.{Line}
use Rattle.live_stations.specs.declared.typist.LinesEnd.{LinesEnd}
use Rattle.live_stations.specs.declared.typist.LinesEnd.TheVariants as ended
use Rattle.live_stations.specs.declared.typist.Typist.{Typist}
use Rattle.live_stations.specs.Hearings.{over_mark}
use Rattle.live_stations.specs.Items.{as_own}
use Rattle.std.specs.Global.{Global}
use Rattle.rtrb.specs.declared.AnyItems.{AnyItems}
use Rattle.rtrb.specs.Ring.{sent, SameProducer}
use Rattle.rtrb.specs.declared.producer.Producer.{Producer}

-- the end of a ring by which lines are sent
abbrev pub LineRing : Type 0
LineRing = Producer Heard Global AnyItems

-- a line, as it is sent
abbrev pub line_sent : Typed → Heard
line_sent typed = Line (as_own typed)

-- lines, as they are sent
abbrev pub lines_sent : List Typed → List Heard
lines_sent lines = map line_sent lines

-- what was typed after the last line that was sent: QUIT, or nothing; or, where the answers can't be printed or the day is over, one line
-- at most
abbrev pub IsRest : LinesEnd → List Typed → Type 0
IsRest ended.Quit rest = (line : Typed) × (rest ≡ line ∷ []) × IsWishTyped line Quit
IsRest ended.Unprinted rest = length rest ≤ 1
IsRest ended.DayOver rest = length rest ≤ 1
IsRest why rest = rest ≡ []

-- where the input has ended, nothing of its text is left
abbrev pub IsLeftOver : LinesEnd → List ℕ → Type 0
IsLeftOver ended.Ended rest = rest ≡ []
IsLeftOver why rest = Unit {0}

-- These lines are the first of a text, in order, and all of it where it has ended. Of a text that isn't known nothing is said.
abbrev pub AreTyped : Option (List ℕ) → List Typed → LinesEnd → Type 0
AreTyped None lines why = ⊤
AreTyped (Some text) lines why = (rest : List ℕ) × TypesLines text lines rest × IsLeftOver why rest

-- The lines that were typed since were sent, in order, none of them QUIT, up to what ended them.
pub record HasSent (text : Option (List ℕ)) (typed typed_then : List Typed) (sent sent_then : List Heard) (why : LinesEnd) : Type 0 where
  pub lines : List Typed
  pub rest : List Typed
  pub read : typed_then ≡ typed ++ (lines ++ rest)
  pub own : AllByRecursion IsNoQuit lines
  pub sent_is : sent_then ≡ sent ++ lines_sent lines
  pub end : IsRest why rest
  pub are : AreTyped text (lines ++ rest) why

-- what was typed at a keyboard, where it was opened
abbrev pub typed_at : {K : Type 0} → (K → List Typed) → Option K → List Typed
typed_at typed None = []
typed_at typed (Some keyboard) = typed keyboard

-- What was typed of a station's text was sent, up to QUIT or what else ended it.
pub record IsSentBy {K : Type 0} (typed : K → List Typed) (text : Option (List ℕ)) (e : Typist K) : Type 0 where
  pub lines : List Typed
  pub rest : List Typed
  pub read : typed_at typed e.keyboard ≡ lines ++ rest
  pub own : AllByRecursion IsNoQuit lines
  pub sent_is : sent e.lines ≡ lines_sent lines ++ over_mark e.is_told
  pub end : IsRest e.end rest
  pub are : AreTyped text (typed_at typed e.keyboard) e.end

-- what a typist leaves: what was typed of the text was sent, by this end of a ring
abbrev pub IsTypistEnd : {K : Type 0} → (K → List Typed) → Option (List ℕ) → LineRing → Typist K → Type 0
IsTypistEnd typed text first e = SameProducer first e.lines × IsSentBy typed text e
