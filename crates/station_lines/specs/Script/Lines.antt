-- The lines of a script.
use Rattle.std.specs.Prelude.{◌≡◌, ◌≢◌, ℕ, ◌-◌, Bool, true, not, ◌==◌, List, [], ◌∷◌, ◌++◌, length, take, slice_index, if◌then◌else◌}
use Rattle.std.specs.List.{list_all}
use Rattle.station_lines.specs.declared.script.format.TheConstants.{LF, CR}

abbrev pub has_no_lf : List ℕ → Bool
has_no_lf line = list_all (λ b. not (b == LF)) line

-- without one CR at the end
abbrev pub without_cr : List ℕ → List ℕ
without_cr line =
    if slice_index line (length line - 1) == CR then take (length line - 1) line else line

pub data Ending : Type 0 where
  lf : Ending
  cr_lf : Ending
  none : Ending

abbrev pub ending_bytes : Ending → List ℕ
ending_bytes lf = LF ∷ []
ending_bytes cr_lf = CR ∷ LF ∷ []
ending_bytes none = []

-- what stands after a line with this ending: LF ends it where no CR stands before it, and at the script's end a
-- line of some bytes may lack its ending
abbrev pub Ends : Ending → List ℕ → List ℕ → Type 0
Ends lf line rest = slice_index line (length line - 1) ≢ CR
Ends cr_lf line rest = Unit {0}
Ends none line rest = (line ≢ []) × (rest ≡ [])

-- the script's first line, and what stands after its ending
pub record BeginsWithLine (script line rest : List ℕ) : Type 0 where
  pub ending : Ending
  pub joined : script ≡ line ++ (ending_bytes ending ++ rest)
  pub one_line : has_no_lf line ≡ true
  pub ended : Ends ending line rest

-- the script is these lines, one after another with their endings, and nothing else
abbrev pub AreLines : List (List ℕ) → List ℕ → Type 0
AreLines [] script = script ≡ []
AreLines (line ∷ lines) script = (rest : List ℕ) × BeginsWithLine script line rest × AreLines lines rest
