-- Files of a setup whose names are not those of the new files that a run writes of them.
use Rattle.std.specs.Prelude.{Bool, List, ℕ, ◌++◌, Option, Some, None, bytes_eq, codes, if◌then◌else◌}
use Rattle.folders.specs.Paths.{name_at_end}
use Rattle.station_lines.specs.declared.setup.entry.SetupEntry.{SetupEntry}
use Rattle.station_lines.specs.declared.setup.entry.SetupEntry.TheVariants as entry
use Rattle.kept_files.specs.declared.KeptFile.{KeptFile}
use Rattle.kept_files.specs.declared.NewKind.{NewKind}
use Rattle.kept_files.specs.declared.NewKind.TheVariants.{Table, Memos, Index}

-- what the name of a new file ends with
abbrev pub ending_of : NewKind → List ℕ
ending_of Table = codes ".DBF"
ending_of Memos = codes ".DBT"
ending_of Index = codes ".NDX"

-- a file's path, the name of its table or index, and what the new file has
pub record Kept : Type 0 where
  pub path : List ℕ
  pub name : List ℕ
  pub kind : NewKind

abbrev pub kept : List ℕ → List ℕ → NewKind → Kept
kept path name kind = record { path = path; name = name; kind = kind }

abbrev pub kept_of : KeptFile → Kept
kept_of file = kept file.path.now file.name.now file.kind

-- the name of the new file of a table, of its memos or of an index
abbrev pub new_name : Kept → List ℕ
new_name file = file.name ++ ending_of file.kind

-- the path ends with the new file's name
abbrev pub has_own_name : Kept → Bool
has_own_name file = bytes_eq (name_at_end file.path) (new_name file)

-- the file, unless its path ends with the new file's name
abbrev pub kept_unless_named : Kept → Option Kept
kept_unless_named file = if bytes_eq (name_at_end file.path) (new_name file) then None else Some file

-- the path of the new file in a folder
abbrev pub path_in : List ℕ → Kept → List ℕ
path_in folder file = folder ++ (codes "/" ++ new_name file)

-- the DBF file of a table, or the NDX file of an index, that an entry of a setup names, if its path does not end with the name of
-- the new file
abbrev pub kept_file_in : SetupEntry → Option Kept
kept_file_in (entry.Table name dbf dbt) = kept_unless_named (kept dbf name Table)
kept_file_in (entry.Index table name ndx) = kept_unless_named (kept ndx name Index)
kept_file_in (entry.Station script) = None

-- the same of the DBT file of a table, if one is named
abbrev pub kept_memo_file_in : SetupEntry → Option Kept
kept_memo_file_in (entry.Table name dbf (Some dbt)) = kept_unless_named (kept dbt name Memos)
kept_memo_file_in other = None

-- the new file of a table's entry or an index's, and the file that the entry names
abbrev pub new_file_in : SetupEntry → Option Kept
new_file_in (entry.Table name dbf dbt) = Some (kept dbf name Table)
new_file_in (entry.Index table name ndx) = Some (kept ndx name Index)
new_file_in (entry.Station script) = None

-- the same of a table's memos, where a file of them is named
abbrev pub new_memo_file_in : SetupEntry → Option Kept
new_memo_file_in (entry.Table name dbf (Some dbt)) = Some (kept dbt name Memos)
new_memo_file_in other = None
