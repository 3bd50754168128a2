-- A set of new files that takes its place with one file more.
use Rattle.std.specs.Prelude.{◌≡◌, ◌≢◌, ◌⊎◌, ℕ, List, false, Some}
use Rattle.files_in_place.specs.Folder.{Name, Folder, is_reserved, recovered}
use Rattle.files_in_place.specs.Recovery.{SameFree}
use Rattle.files_in_place.specs.Staged.{with_staged}

-- The set's files are in their places, and the file of the name with these bytes; each other file is as it was.
pub record HasPlaced (name : Name) (bytes : List ℕ) (names : List Name) (old new : Folder) : Type 0 where
  pub file : new name ≡ Some bytes
  pub others : (n : Name) → is_reserved n ≡ false → n ≢ name → new n ≡ with_staged names old n

-- Of what a crash leaves, recovery makes the old files or the new ones, that of the name among them.
abbrev pub IsOldOrPlacedWith : Name → List ℕ → List Name → Folder → Folder → Type 0
IsOldOrPlacedWith name bytes names old c = SameFree old (recovered c) ⊎ HasPlaced name bytes names old (recovered c)
