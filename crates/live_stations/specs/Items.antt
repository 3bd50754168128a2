-- Lines of several stations, as one day reads them.
use Rattle.std.specs.Prelude.{Bool, true, false, ℕ, zero, suc, ◌==◌, List, [], ◌∷◌, ◌++◌, codes, map, take}
use Rattle.std.specs.Fmt.{decimal}
use Rattle.live_day.specs.declared.keyboard.Typed.{Typed}
use Rattle.live_day.specs.declared.keyboard.Typed.TheVariants.{Text, TooLong, Cut}
use Rattle.live_day.specs.declared.wish.TheConstants.{STATION_WORD_BYTES}
use Rattle.live_day.specs.Wishes.{is_station_word}

-- what the day reads: a station is given the keyboard, or the one that has it said a line
pub data Item : Type 0 where
  named : ℕ → Item
  said : Typed → Item

-- the line that gives a station the keyboard
abbrev pub station_line : ℕ → Typed
station_line n = Text (codes "STATION " ++ decimal n)

-- an item, as the day reads it
abbrev pub item_line : Item → Typed
item_line (named n) = station_line n
item_line (said line) = line

-- items, as the day reads them
abbrev pub item_lines : List Item → List Typed
item_lines items = map item_line items

-- which station has the keyboard after these items
abbrev pub seated_after : ℕ → List Item → ℕ
seated_after seated [] = seated
seated_after seated (named n ∷ items) = seated_after n items
seated_after seated (said line ∷ items) = seated_after seated items

-- a line, where it is this station's
abbrev pub if_said_by : Bool → Typed → List Typed
if_said_by true line = line ∷ []
if_said_by false line = []

-- what a station said, in order
abbrev pub lines_of : ℕ → ℕ → List Item → List Typed
lines_of n seated [] = []
lines_of n seated (named m ∷ items) = lines_of n m items
lines_of n seated (said line ∷ items) = if_said_by (seated == n) line ++ lines_of n seated items

-- a line of a station's own keyboard gives the keyboard to no other: it can't be read
abbrev pub unless_station : Bool → List ℕ → Typed
unless_station true line = TooLong
unless_station false line = Text line

-- a line of a station's own keyboard, as the day has it: one that begins with `STATION` and a blank can't be read
abbrev pub as_own : Typed → Typed
as_own (Text line) = unless_station (is_station_word (take STATION_WORD_BYTES line)) line
as_own TooLong = TooLong
as_own Cut = Cut

-- an item, as a list of numbers
abbrev pub numbers_of_item : Item → List ℕ
numbers_of_item (named n) = 0 ∷ (n ∷ [])
numbers_of_item (said (Text line)) = 1 ∷ line
numbers_of_item (said TooLong) = []
numbers_of_item (said Cut) = 0 ∷ []

-- the item that such a list of numbers is
abbrev pub item_of_numbers : List ℕ → Item
item_of_numbers [] = said TooLong
item_of_numbers (zero ∷ (n ∷ rest)) = named n
item_of_numbers (zero ∷ []) = said Cut
item_of_numbers (suc k ∷ line) = said (Text line)
