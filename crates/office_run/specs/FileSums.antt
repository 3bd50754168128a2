-- The files that a run reads and writes, in their order, as its journal tells them.
use Rattle.std.specs.Prelude.{◌≡◌, ℕ, List, [], ◌∷◌, flat_map, Option, Some, Ok}
use Rattle.journal_file.specs.declared.sum.FileSum.{FileSum}
use Rattle.journal_file.specs.WholeText.{sum_of_file}
use Rattle.folders.specs.declared.named.NamedFile.{NamedFile}
use Rattle.station_lines.specs.declared.setup.entry.SetupEntry.{SetupEntry}
use Rattle.setup_files.specs.Noted.{paths_of, AreNoted}
use Rattle.office_run.specs.WholeRun.{IsSaid}

-- ---- what is read

-- the paths of the files that entries name, in the order of reading
abbrev pub paths_in : List SetupEntry → List (List ℕ)
paths_in entries = flat_map paths_of entries

-- of the setup, and of each file that it names, one after another, the length and the digest were noted
pub record AreAllNoted (files : Option (List NamedFile)) (setup : List ℕ) (old new : Option (List FileSum)) : Type 0 where
  pub entries : List SetupEntry
  pub said : IsSaid files setup (Ok entries)
  pub noted_all : AreNoted files (setup ∷ paths_in entries) old new

-- whatever was noted of the setup's files, the same is noted of them among later ones that have each of them still
abbrev pub NotesAsBefore : List NamedFile → List NamedFile → List ℕ → Type 0
NotesAsBefore files later setup =
    (before now : List FileSum) → AreAllNoted (Some files) setup (Some []) (Some before) → AreAllNoted (Some later) setup (Some []) (Some now) → before ≡ now

-- ---- what is written

-- what is said of a file
abbrev pub sum_of_named : NamedFile → FileSum
sum_of_named file = sum_of_file file.name file.bytes
