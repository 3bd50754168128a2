-- What is said of a file that stays as it is beside the new one.
use Rattle.std.specs.Prelude.{ℕ, List, ◌++◌, ◌∷◌, [], codes}
use Rattle.kept_files.specs.declared.NewKind.{NewKind}
use Rattle.kept_files.specs.declared.NewKind.TheVariants.{Table, Memos, Index}
use Rattle.kept_files.specs.KeptFiles.{Kept, new_name}
use Rattle.station_lines.specs.declared.script.format.TheConstants.{LF}

-- what a new file is called in the line on a file that stays as it is
abbrev pub kind_word : NewKind → List ℕ
kind_word Table = codes "table"
kind_word Memos = codes "memo file"
kind_word Index = codes "index"

-- the words that the old file stays
abbrev pub old_words : List ℕ → List ℕ
old_words path = codes "station_server: " ++ (path ++ codes " stays as it is: the new ")

-- which name the new file has
abbrev pub new_words : Kept → List ℕ
new_words file = kind_word file.kind ++ (codes " is " ++ new_name file)

-- the line on a file that stays as it is, on standard error, its LF too
abbrev pub kept_line : Kept → List ℕ
kept_line file = old_words file.path ++ (new_words file ++ LF ∷ [])
