-- What recovery does step by step, and what each step keeps.
use Rattle.std.specs.Prelude.{◌≡◌, ◌⊎◌, List, true, false, None}
use Rattle.std.specs.List.{AllByRecursion}
use Rattle.files_in_place.specs.Folder.{Name, Folder, is_reserved, temporary, list_name, is_listed, recovered, without_reserved}

-- no reserved name has a file
abbrev pub IsClean : Folder → Type 0
IsClean folder = (n : Name) → is_reserved n ≡ true → folder n ≡ None

-- recovery leaves each name that isn't reserved as it is
abbrev pub IsFinished : Folder → Type 0
IsFinished folder = (n : Name) → is_reserved n ≡ false → recovered folder n ≡ folder n

-- this is what recovery makes of the folder
abbrev pub RecoversTo : Folder → Folder → Type 0
RecoversTo meant folder = (n : Name) → recovered folder n ≡ meant n

-- each name that isn't reserved has what it had
abbrev pub SameFree : Folder → Folder → Type 0
SameFree old new = (n : Name) → is_reserved n ≡ false → new n ≡ old n

-- each name that is neither reserved nor in the old folder's list has what it had
abbrev pub SameUnlisted : Folder → Folder → Type 0
SameUnlisted old new = (n : Name) → is_reserved n ≡ false → is_listed old n ≡ false → new n ≡ old n

-- The old files are there: each name that isn't reserved has what it had, and recovery keeps it.
pub record HasOldFiles (old new : Folder) : Type 0 where
  pub same : SameFree old new
  pub recovers : RecoversTo (without_reserved old) new

-- each name that isn't reserved has what it had, and each reserved one that too or nothing
pub record LosesReserved (old new : Folder) : Type 0 where
  pub same : SameFree old new
  pub lost : (n : Name) → (new n ≡ old n) ⊎ (new n ≡ None)

-- each of the names that is reserved has no file
abbrev pub AreRemoved : List Name → Folder → Type 0
AreRemoved names folder = AllByRecursion (λ name. is_reserved name ≡ true → folder name ≡ None) names

-- each of the names is in the folder's list
abbrev pub AreListed : List Name → Folder → Type 0
AreListed names folder = AllByRecursion (λ name. is_listed folder name ≡ true) names

-- no file has the temporary name of one of the names any more
abbrev pub AreRenamed : List Name → Folder → Type 0
AreRenamed names folder = AllByRecursion (λ name. folder (temporary name) ≡ None) names

-- none of the names is reserved
abbrev pub NoneReserved : List Name → Type 0
NoneReserved names = AllByRecursion (λ name. is_reserved name ≡ false) names

-- the bytes of each of the files are on the disk, and those of the one that has its temporary name
abbrev pub AreOnDisk : (Name → Type 0) → List Name → Type 0
AreOnDisk is_whole names = AllByRecursion (λ name. is_whole name × is_whole (temporary name)) names

-- The bytes of each file that recovery leaves alone are on the disk.
abbrev pub OthersAreWhole : Folder → (Name → Type 0) → Type 0
OthersAreWhole folder is_whole = (n : Name) → is_reserved n ≡ false → is_listed folder n ≡ false → is_whole n

-- The list is the same, recovery makes the same of both, and a name that isn't in the list has what it had.
pub record KeepsRecovery (old new : Folder) : Type 0 where
  pub list : new list_name ≡ old list_name
  pub same : (n : Name) → recovered new n ≡ recovered old n
  pub unlisted : SameUnlisted old new

-- The list is on the disk. So is each file that has the temporary name of one of its names.
pub record CanRename (folder : Folder) (outcomes : Folder → Type 0) : Type 0 where
  pub list : (c : Folder) → outcomes c → c list_name ≡ folder list_name
  pub files : (n : Name) → is_listed folder n ≡ true → (folder (temporary n) ≡ None) ⊎ ((c : Folder) → outcomes c → c (temporary n) ≡ folder (temporary n))

-- Whatever a crash leaves, recovery has nothing to do but to remove reserved names.
pub record CanClean (folder : Folder) (outcomes : Folder → Type 0) : Type 0 where
  pub finished : IsFinished folder
  pub always : (c : Folder) → outcomes c → IsFinished c

-- Recovery makes the same of both, no name that isn't in the old list is touched, and the new list has no other names.
pub record StillRecovers (old new : Folder) : Type 0 where
  pub recovers : RecoversTo (recovered old) new
  pub unlisted : SameUnlisted old new
  pub no_more : (n : Name) → is_listed old n ≡ false → is_listed new n ≡ false
