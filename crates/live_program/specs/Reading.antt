-- A line that is read in pieces.
use Rattle.std.specs.Prelude.{◌≡◌, ◌<◌, true, false, Bool, ℕ, List, [], ◌∷◌, ◌++◌, length, Option, OnSome}
use Rattle.std.specs.Io.KnownBytes.{Consumes, IsAtEnd}
use Rattle.station_lines.specs.Script.Lines.{has_no_lf}
use Rattle.station_lines.specs.declared.script.format.TheConstants.{LF}
use Rattle.live_program.specs.declared.reading.PieceEnd.{PieceEnd}
use Rattle.live_program.specs.declared.reading.PieceEnd.TheVariants.{Open, Line, Input}
use Rattle.live_program.specs.declared.reading.TheConstants.{MAX_KEPT_BYTES}

-- what is kept of the front of a line: all of it, unless that is too long
abbrev pub IsLineKept : List ℕ → Bool → List ℕ → Type 0
IsLineKept text false kept = kept ≡ text
IsLineKept text true kept = MAX_KEPT_BYTES < length text

-- the bytes after a piece that ends so
abbrev pub end_bytes : PieceEnd → List ℕ
end_bytes Open = []
end_bytes Line = LF ∷ []
end_bytes Input = []

-- bytes that go on with the front of a line: a piece of it, and the line's end where it ends; and this is kept then
pub record TakesPiece (text taken : List ℕ) (end : PieceEnd) (too_long : Bool) (kept : List ℕ) : Type 0 where
  pub piece : List ℕ
  pub taken_is : taken ≡ piece ++ end_bytes end
  pub inside : has_no_lf piece ≡ true
  pub part : IsLineKept (text ++ piece) too_long kept

-- such bytes were taken from a source, or it has ended
pub record ReadsPiece (text : List ℕ) (end : PieceEnd) (old new : Option (List ℕ)) (too_long : Bool) (kept : List ℕ) : Type 0 where
  pub taken : List ℕ
  pub takes : TakesPiece text taken end too_long kept
  pub gone : Consumes old new taken
  pub input : end ≡ Input → OnSome old (IsAtEnd new)

-- the front of a line was taken from a source, and this is kept of it
pub record HasPart (old new : Option (List ℕ)) (too_long : Bool) (kept : List ℕ) : Type 0 where
  pub text : List ℕ
  pub inside : has_no_lf text ≡ true
  pub gone : Consumes old new text
  pub part : IsLineKept text too_long kept
