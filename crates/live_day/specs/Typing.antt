-- The lines of a text, as they are typed.
use Rattle.std.specs.Prelude.{◌≡◌, ◌⊎◌, ◌≤◌, ◌<◌, ◌+◌, ◌^◌, ℕ, List, [], ◌∷◌, ◌++◌, length, ⊤, Option, Some, None, OnSome}
use Rattle.std.specs.Io.KnownBytes.{IsAtEnd}
use Rattle.station_lines.specs.Script.Lines.{lf, cr_lf, none, BeginsWithLine, Ending}
use Rattle.live_day.specs.declared.keyboard.Typed.{Typed}
use Rattle.live_day.specs.declared.keyboard.Typed.TheVariants.{Text, TooLong, Cut}
use Rattle.live_day.specs.declared.keyboard.TheConstants.{MAX_LINE_BYTES}

-- a line as it is typed: its bytes, or that it has too many
abbrev pub IsLineTyped : List ℕ → Typed → Type 0
IsLineTyped line (Text bytes) = (bytes ≡ line) × (length line ≤ MAX_LINE_BYTES)
IsLineTyped line TooLong = MAX_LINE_BYTES < length line
IsLineTyped line Cut = ⊥

-- a line as it is typed, by its ending: one without an ending was cut
abbrev pub IsTypedAs : Ending → List ℕ → Typed → Type 0
IsTypedAs lf line typed = IsLineTyped line typed
IsTypedAs cr_lf line typed = IsLineTyped line typed
IsTypedAs none line typed = typed ≡ Cut

-- the text's first line was typed, as a script's lines are cut (`BeginsWithLine`), and this stands after it
pub record TypesFirst (text : List ℕ) (typed : Typed) (rest : List ℕ) : Type 0 where
  pub line : List ℕ
  pub first : BeginsWithLine text line rest
  pub typed_is : IsTypedAs first.ending line typed

-- A line was typed of a text: its first one, or none where nothing is left of it. Of a text that isn't known nothing is said.
abbrev pub TypesNext : Option (List ℕ) → Option Typed → Option (List ℕ) → Type 0
TypesNext None typed rest = ⊤
TypesNext (Some text) typed None = ⊥
TypesNext (Some text) None (Some rest) = (text ≡ []) × (rest ≡ [])
TypesNext (Some text) (Some line) (Some rest) = TypesFirst text line rest

-- the text's first lines were typed, one after another, and this stands after them
abbrev pub TypesLines : List ℕ → List Typed → List ℕ → Type 0
TypesLines text [] rest = rest ≡ text
TypesLines text (line ∷ lines) rest = (after : List ℕ) × TypesFirst text line after × TypesLines after lines rest

-- the same of a text that may not be known
abbrev pub TypesKnown : Option (List ℕ) → List Typed → Option (List ℕ) → Type 0
TypesKnown None lines rest = ⊤
TypesKnown (Some text) lines None = ⊥
TypesKnown (Some text) lines (Some rest) = TypesLines text lines rest

-- What was typed since is the first lines of the text that was left then, in order, and what is left now stands after them.
pub record HasTyped (text rest : Option (List ℕ)) (typed typed_then : List Typed) : Type 0 where
  pub lines : List Typed
  pub more : typed_then ≡ typed ++ lines
  pub are : TypesKnown text lines rest

-- and so it is whatever is left of the text
abbrev pub HasTypedFirst : Option (List ℕ) → List Typed → List Typed → Type 0
HasTypedFirst text typed typed_then = (rest : Option (List ℕ)) × HasTyped text rest typed typed_then

-- no more lines come, and of a text that was known nothing is left
abbrev pub IsAllTyped : Type 0 → Option (List ℕ) → Option (List ℕ) → Type 0
IsAllTyped ended text rest = ended × OnSome text (IsAtEnd rest)

-- the lines can't be read: the keyboard has failed, or so many lines were typed that none is counted any more
abbrev pub CanReadNoMore : Type 0 → List Typed → Type 0
CanReadNoMore failed typed = failed ⊎ (2 ^ 64 ≤ length typed + 1)
