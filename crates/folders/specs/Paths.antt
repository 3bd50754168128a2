-- Paths: the name of a file, the folder that it lies in, and what may lie beside it.
use Rattle.std.specs.Prelude.{ℕ, zero, suc, ◌+◌, ◌-◌, ◌==◌, Bool, List, [], ◌∷◌, ◌++◌, length, take, drop, slice_index, if◌then◌else◌}
use Rattle.std.specs.Path.{slash}
use Rattle.files_in_place.specs.Folder.{is_reserved, list_name}

-- how many of the first bytes end with the last slash among them: none where there is no slash
abbrev pub through_last_slash : List ℕ → ℕ → ℕ
through_last_slash path zero = 0
through_last_slash path (suc n) = if slice_index path n == slash then suc n else through_last_slash path n

-- where the name begins that a path ends with: after its last slash
abbrev pub name_start : List ℕ → ℕ
name_start path = through_last_slash path (length path)

-- the name that a path ends with
abbrev pub name_at_end : List ℕ → List ℕ
name_at_end path = drop (name_start path) path

-- the name that a path ends with is kept for the files of a set that is not in place
abbrev pub is_reserved_path : List ℕ → Bool
is_reserved_path path = is_reserved (name_at_end path)

-- the folder that the file of a path lies in: . where the path has no slash, and / for the root
abbrev pub folder_of_path : List ℕ → List ℕ
folder_of_path path =
    if name_start path == 0 then 46 ∷ []
    else if name_start path == 1 then slash ∷ []
    else take (name_start path - 1) path

-- the path of the list of a set in the folder of a path
abbrev pub list_beside : List ℕ → List ℕ
list_beside path = take (name_start path) path ++ list_name
