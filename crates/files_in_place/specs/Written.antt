-- What the calls of a set write.
use Rattle.std.specs.Prelude.{◌≡◌, ◌≢◌, ℕ, List, [], ◌∷◌, ◌++◌, Bool, false, Option, None, Some, option_map, if◌then◌else◌}
use Rattle.std.specs.Str.{bytes_eq}
use Rattle.files_in_place.specs.Folder.{Name, Folder, SameBut, is_reserved, temporary, first_of}
use Rattle.files_in_place.specs.History.{AreAlike}

-- a call that writes: a file is begun, or bytes go to the file begun last
pub data Call : Type 0 where
  Begins : Name → Call
  Writes : List ℕ → Call

-- the name of the file begun last, where the latest call is the first
abbrev pub begun_last : List Call → Option Name
begun_last [] = None
begun_last (Begins name ∷ before) = Some name
begun_last (Writes bytes ∷ before) = begun_last before

-- whether it is this name
abbrev pub is_called : Option Name → Name → Bool
is_called None n = false
is_called (Some name) n = bytes_eq name n

-- with these bytes at the end, if it is the file begun last
abbrev pub with_more : Bool → List ℕ → Option (List ℕ) → Option (List ℕ)
with_more is_last bytes content = if is_last then option_map (λ before. before ++ bytes) content else content

-- Of each name all that the calls, the latest first, have written to its file, or nothing where they have begun none.
abbrev pub written : List Call → Folder
written [] n = None
written (Begins name ∷ before) n = if bytes_eq name n then Some [] else written before n
written (Writes bytes ∷ before) n = with_more (is_called (begun_last before) n) bytes (written before n)

-- The folder with what the calls have written under the names of their files. No reserved name has a file.
abbrev pub with_written : List Call → Folder → Folder
with_written calls folder n = if is_reserved n then None else first_of (written calls n) (folder n)

-- what contracts see of a set while it is written, and of its disk's folder
pub record Writing : Type 0 where
  pub names : List Name
  pub current : Option Name
  pub folder : Folder

-- what `begin` says at Ok
pub record HasBegun (name : Name) (old new : Writing) : Type 0 where
  pub begun : new.names ≡ old.names ++ name ∷ []
  pub current : new.current ≡ Some (temporary name)
  pub empty : new.folder (temporary name) ≡ Some []
  pub others : SameBut (temporary name) old.folder new.folder

-- what `write` says at Ok
pub record HasWritten (bytes : List ℕ) (old new : Writing) : Type 0 where
  pub written : (lies : Name) → old.current ≡ Some lies → new.folder lies ≡ option_map (λ content. content ++ bytes) (old.folder lies)
  pub others : (n : Name) → old.current ≢ Some n → new.folder n ≡ old.folder n
  pub names : new.names ≡ old.names
  pub current : new.current ≡ old.current

-- a set without files, over the folder
pub record IsNew (folder : Folder) (set : Writing) : Type 0 where
  pub names : set.names ≡ []
  pub current : set.current ≡ None
  pub same : AreAlike set.folder folder

-- The calls, the latest first, lead from a set without files over the folder to this set.
abbrev pub LeadsTo : List Call → Folder → Writing → Type 0
LeadsTo [] folder set = IsNew folder set
LeadsTo (Begins name ∷ before) folder set = (was : Writing) × LeadsTo before folder was × HasBegun name was set
LeadsTo (Writes bytes ∷ before) folder set = (was : Writing) × LeadsTo before folder was × HasWritten bytes was set
