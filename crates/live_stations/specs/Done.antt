-- What is made of the lines that stations say.
use Rattle.std.specs.Prelude.{◌≡◌, ◌≤◌, ◌<◌, ◌^◌, ℕ, List, [], ◌∷◌, ◌++◌}
use Rattle.catalogue_core.specs.Replay.{History}
use Rattle.live_day.specs.declared.keyboard.Typed.{Typed}
use Rattle.live_day.specs.declared.wish.Wish.{Wish}
use Rattle.live_day.specs.declared.wish.Wish.TheVariants.{Perform}
use Rattle.live_day.specs.Sessions.{Told, IsLineDone, IsWishTyped}
use Rattle.live_stations.specs.Items.{Item, named, said}

-- a station's line was done, what was told of it is the first that was told, and it goes on so
pub record DoesFirst (goes_on : History → List Told → Type 0) (station : ℕ) (line : Typed) (old : History) (told : List Told) : Type 0 where
  pub mid : History
  pub first : List Told
  pub others : List Told
  pub done : IsLineDone station line old mid first
  pub rest : goes_on mid others
  pub told_is : told ≡ first ++ others

-- each line was done as one of the station that said it, one after another
abbrev pub AreDone : ℕ → List Item → History → History → List Told → Type 0
AreDone seated [] old new told = (new ≡ old) × (told ≡ [])
AreDone seated (named n ∷ items) old new told = AreDone n items old new told
AreDone seated (said line ∷ items) old new told = DoesFirst (λ mid others. AreDone seated items mid new others) seated line old told

-- each station that is named is one of so many
abbrev pub AreNamed : ℕ → List Item → Type 0
AreNamed stations [] = Unit {0}
AreNamed stations (named n ∷ items) = (1 ≤ n) × (n ≤ stations) × (n < 2 ^ 64) × AreNamed stations items
AreNamed stations (said line ∷ items) = AreNamed stations items

-- each line that is said asks for nothing of the keyboard
abbrev pub AskNothing : List Item → Type 0
AskNothing [] = Unit {0}
AskNothing (named n ∷ items) = AskNothing items
AskNothing (said line ∷ items) = ((wish : Wish) → IsWishTyped line wish → wish ≡ Perform) × AskNothing items
