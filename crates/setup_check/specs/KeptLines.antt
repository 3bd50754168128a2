-- Files of a setup that stay as they are beside the new ones, in words.
use Rattle.std.specs.Prelude.{ℕ, List, [], ◌∷◌, ◌++◌, codes, Option, Some, None}
use Rattle.kept_files.specs.declared.NewKind.{NewKind}
use Rattle.kept_files.specs.declared.NewKind.TheVariants as new
use Rattle.kept_files.specs.KeptFiles.{Kept, new_name, kept_file_in, kept_memo_file_in}
use Rattle.station_lines.specs.declared.script.format.TheConstants.{LF}
use Rattle.station_lines.specs.declared.setup.entry.SetupEntry.{SetupEntry}

-- what a new file is
abbrev pub kind_words : NewKind → List ℕ
kind_words new.Table = codes "table"
kind_words new.Memos = codes "memo file"
kind_words new.Index = codes "index"

-- `staff.dbf stays as it is where new files go into its folder: the new table is STAFF.DBF`
abbrev pub kept_line : Kept → List ℕ
kept_line file =
    file.path ++ (codes " stays as it is where new files go into its folder: the new " ++ (kind_words file.kind ++ (codes " is " ++ (new_name file ++ LF ∷ []))))

-- a line for a file that stays as it is
abbrev pub kept_words : Option Kept → List ℕ
kept_words None = []
kept_words (Some file) = kept_line file

-- a line for each file of an entry that stays as it is: of its DBF or NDX file, and of its DBT file
abbrev pub entry_kept_lines : SetupEntry → List ℕ
entry_kept_lines entry = kept_words (kept_file_in entry) ++ kept_words (kept_memo_file_in entry)

-- a line for each file of a setup that stays as it is if new files go into its folder: those of all entries, in their order
abbrev pub kept_lines : List SetupEntry → List ℕ
kept_lines [] = []
kept_lines (entry ∷ entries) = entry_kept_lines entry ++ kept_lines entries
