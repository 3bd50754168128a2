-- A folder: which names have a file, and what is in it. What a folder that a crash left stands for.
use Rattle.std.specs.Prelude.{◌≡◌, ◌≢◌, ℕ, ◌-◌, List, [], ◌∷◌, ◌++◌, length, take, Bool, Option, None, Some, codes, nat_eq, if◌then◌else◌, ◌==◌}
use Rattle.std.specs.List.{list_any, starts_with}
use Rattle.std.specs.Str.{bytes_eq}
use Rattle.std.specs.Fmt.{decimal}

-- a name is its bytes
abbrev pub Name : Type 0
Name = List ℕ

-- of each name the bytes of its file, or none where it has no file
abbrev pub Folder : Type 0
Folder = Name → Option (List ℕ)

-- each other name has what it had
abbrev pub SameBut : Name → Folder → Folder → Type 0
SameBut name old new = (n : Name) → n ≢ name → new n ≡ old n

-- a name that begins with ~niqarthu is kept for this crate's own files
abbrev pub is_reserved : Name → Bool
is_reserved name = starts_with nat_eq name (codes "~niqarthu")

-- the temporary name of a new file: ~niqarthu~ and the name that it is to have
abbrev pub temporary : Name → Name
temporary name = codes "~niqarthu~" ++ name

-- the name of the list of new files: `~niqarthu.list`
abbrev pub list_name : Name
list_name = codes "~niqarthu.list"

-- a line for each name, ended by a line feed
abbrev pub name_lines : List Name → List ℕ
name_lines [] = []
name_lines (name ∷ names) = name ++ 10 ∷ name_lines names

-- what a list of so many names ends with: its name is reserved, so it is none of them
abbrev pub end_line : ℕ → Name
end_line count = codes "~niqarthu: " ++ (decimal count ++ codes " names")

-- the bytes of a list of names: a line for each, and one that says how many they are
abbrev pub list_bytes : List Name → List ℕ
list_bytes names = name_lines names ++ (end_line (length names) ++ 10 ∷ [])

-- a byte more at the front of the first line; where no line is whole, of none
abbrev pub onto_first : ℕ → List Name → List Name
onto_first b [] = []
onto_first b (name ∷ names) = (b ∷ name) ∷ names

-- the whole lines of any bytes
abbrev pub lines_of : List ℕ → List Name
lines_of [] = []
lines_of (b ∷ bytes) = if b == 10 then [] ∷ lines_of bytes else onto_first b (lines_of bytes)

-- the names of a list: its lines but the last
abbrev pub names_of : List ℕ → List Name
names_of bytes = take (length (lines_of bytes) - 1) (lines_of bytes)

-- the names in the list, if there is a list
abbrev pub names_in : Option (List ℕ) → List Name
names_in None = []
names_in (Some bytes) = names_of bytes

-- whether the folder's list has the name
abbrev pub is_listed : Folder → Name → Bool
is_listed folder name = list_any (λ listed. bytes_eq listed name) (names_in (folder list_name))

-- the first, or else the second
abbrev pub first_of : Option (List ℕ) → Option (List ℕ) → Option (List ℕ)
first_of (Some content) other = Some content
first_of None other = other

-- What recovery makes of a folder that a crash may have left: of a reserved name nothing; of a name in the list the file of its
-- temporary name, if there is one, and else what it has; of each other name what it has.
abbrev pub recovered : Folder → Folder
recovered folder name =
    if is_reserved name then None
    else if is_listed folder name then first_of (folder (temporary name)) (folder name)
    else folder name

-- the folder without the files of reserved names
abbrev pub without_reserved : Folder → Folder
without_reserved folder name = if is_reserved name then None else folder name
