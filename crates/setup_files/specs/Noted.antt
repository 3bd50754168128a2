-- What is noted of the files of an entry, for a journal.
use Rattle.std.specs.Prelude.{◌≡◌, ℕ, List, [], ◌∷◌, Option, Some, None}
use Rattle.journal_file.specs.declared.sum.FileSum.{FileSum}
use Rattle.journal_file.specs.WholeText.{sum_of_file, with_sum}
use Rattle.folders.specs.declared.named.NamedFile.{NamedFile}
use Rattle.folders.specs.Files.{IsFileOf}
use Rattle.station_lines.specs.declared.setup.entry.SetupEntry.{SetupEntry}
use Rattle.station_lines.specs.declared.setup.entry.SetupEntry.TheVariants.{Table, Index, Station}

-- the path of a memo file, where one is named
abbrev pub memo_paths : Option (List ℕ) → List (List ℕ)
memo_paths None = []
memo_paths (Some path) = path ∷ []

-- the paths of the files that an entry names, in the order of reading: a table's DBF, and then its DBT
abbrev pub paths_of : SetupEntry → List (List ℕ)
paths_of (Table name dbf dbt) = dbf ∷ memo_paths dbt
paths_of (Index table name ndx) = ndx ∷ []
paths_of (Station script) = script ∷ []

-- The files of these paths were read, one after another, and of each was noted how many bytes were read and their digest.
abbrev pub AreNoted : Option (List NamedFile) → List (List ℕ) → Option (List FileSum) → Option (List FileSum) → Type 0
AreNoted files [] old new = new ≡ old
AreNoted files (path ∷ paths) old new = (bytes : List ℕ) × IsFileOf files path bytes × AreNoted files paths (with_sum old (sum_of_file path bytes)) new
