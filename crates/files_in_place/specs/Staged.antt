-- A set of new files, and a folder before and after they have their names.
use Rattle.std.specs.Prelude.{◌≡◌, ◌≢◌, ◌⊎◌, ℕ, ◌≤◌, List, [], ◌∷◌, ◌++◌, length, Bool, true, false, not, ◌&&◌, ◌||◌, ◌==◌, nat_le, Option, None, Some, IsSome, if◌then◌else◌}
use Rattle.std.specs.List.{AllByRecursion, list_any, list_all}
use Rattle.std.specs.Str.{bytes_eq, is_utf8}
use Rattle.files_in_place.specs.declared.phase.Phase.{Phase}
use Rattle.files_in_place.specs.declared.phase.Phase.TheVariants.{Staging, Ended}
use Rattle.files_in_place.specs.Folder.{Name, Folder, is_reserved, temporary, list_name, list_bytes, names_of}
use Rattle.files_in_place.specs.Disk.{DiskMeaning, LeavesOnly}
use Rattle.files_in_place.specs.Recovery.{RecoversTo, SameFree, HasOldFiles}

-- What contracts see of a set: its disk, the names of its files, the temporary name of the file that is being written,
-- and how far it is.
pub record Set (D : Type 0) : Type 0 where
  pub disk : D
  pub names : List Name
  pub current : Option Name
  pub phase : Phase

-- whether the set has a file of the name
abbrev pub is_staged : List Name → Name → Bool
is_staged names name = list_any (λ staged. bytes_eq staged name) names

-- no NUL, no line feed, no slash
abbrev pub is_name_byte : ℕ → Bool
is_name_byte b = not (b == 0) && (not (b == 10) && not (b == 47))

-- no bytes, one dot or two dots
abbrev pub is_dots : Name → Bool
is_dots name = bytes_eq name [] || (bytes_eq name (46 ∷ []) || bytes_eq name (46 ∷ 46 ∷ []))

-- the most bytes of a file's name, so that its temporary name fits into 255
abbrev pub most_name_bytes : ℕ
most_name_bytes = 245

-- a name that a file of a set may have: not reserved, UTF-8, and one that each file system takes
abbrev pub is_file_name : Name → Bool
is_file_name name = not (is_reserved name) && (not (is_dots name) && (list_all is_name_byte name && (nat_le (length name) most_name_bytes && is_utf8 name)))

-- The bytes are a list that a set may have written: a line for each name, which a file may have, and the line that ends a list of so many.
pub record IsList (bytes : List ℕ) : Type 0 where
  pub whole : list_bytes (names_of bytes) ≡ bytes
  pub names : AllByRecursion (λ name. is_file_name name ≡ true) (names_of bytes)

-- the folder has a list, and it is none that a set may have written
abbrev pub HasBadList : Folder → Type 0
HasBadList folder = (bytes : List ℕ) × (folder list_name ≡ Some bytes) × ¬ (IsList bytes)

-- the folder has a list that was cut: what is left of one that a set may have written, of which bytes at its end are gone
abbrev pub HasCutList : Folder → Type 0
HasCutList folder = (front : List ℕ) × (gone : List ℕ) × (folder list_name ≡ Some front) × IsList (front ++ gone) × (gone ≢ [])

-- The folder once the set is in place: at each name of the set the bytes that were staged, at each other name what was
-- there, and no reserved name.
abbrev pub with_staged : List Name → Folder → Folder
with_staged names folder name =
    if is_reserved name then None
    else if is_staged names name then folder (temporary name)
    else folder name

-- What a crash leaves stands for the old files or for the new ones, all of them.
abbrev pub IsOldOrNew : List Name → Folder → Folder → Type 0
IsOldOrNew names old new = HasOldFiles old new ⊎ RecoversTo (with_staged names old) new

-- each name that is neither reserved nor one of the set has what it had
abbrev pub SameUnstaged : List Name → Folder → Folder → Type 0
SameUnstaged names old new = (n : Name) → is_reserved n ≡ false → is_staged names n ≡ false → new n ≡ old n

-- There is no list, whatever a crash leaves, and the names that aren't reserved have what is seen.
pub record IsUncommitted (folder : Folder) (outcomes : Folder → Type 0) : Type 0 where
  pub no_list : folder list_name ≡ None
  pub none_left : (c : Folder) → outcomes c → c list_name ≡ None
  pub same : (c : Folder) → outcomes c → SameFree folder c

-- it is the temporary name of a file of the set
abbrev pub IsStagedAs : List Name → Name → Type 0
IsStagedAs names lies = (n : Name) × (lies ≡ temporary n) × (is_staged names n ≡ true)

-- it is the temporary name of a file that the set doesn't have and may have
abbrev pub IsFreeFor : List Name → Name → Type 0
IsFreeFor names lies = (n : Name) × (lies ≡ temporary n) × (is_staged names n ≡ false) × (is_file_name n ≡ true)

module _ {D : Type 0} (m : DiskMeaning D) where
  -- While the set is written: its files are there under their temporary names, each other file is on the disk, and no other
  -- reserved name has a file.
  pub record AreStaged (names : List Name) (current : Option Name) (disk : D) : Type 0 where
    pub fit : AllByRecursion (λ name. is_file_name name ≡ true) names
    pub there : (n : Name) → is_staged names n ≡ true → IsSome (m.seen disk (temporary n))
    pub no_other : (n : Name) → is_staged names n ≡ false → m.seen disk (temporary n) ≡ None
    pub whole : (n : Name) → ¬ IsStagedAs names n → m.is_whole disk n
    pub named : (lies : Name) → current ≡ Some lies → IsStagedAs names lies
    pub fresh : (lies : Name) → current ≡ Some lies → m.is_new disk lies
    pub uncommitted : IsUncommitted (m.seen disk) (m.may_leave disk)

  -- Files of the set may be there in part, and nothing of them counts.
  pub record AreLeft (disk : D) : Type 0 where
    pub whole : (n : Name) → is_reserved n ≡ false → m.is_whole disk n
    pub uncommitted : IsUncommitted (m.seen disk) (m.may_leave disk)

  -- What is true of a disk in each phase of a set: while it is written its files are staged, and nothing of it counts until it
  -- is put in place or removed. Of a set that has ended nothing is known.
  pub record HoldsInPhase (phase : Phase) (names : List Name) (current : Option Name) (disk : D) : Type 0 where
    pub staged : phase ≡ Staging → AreStaged names current disk
    pub left : phase ≢ Ended → AreLeft disk

  -- All files of the set are on the disk, and so is its list, under a temporary name.
  pub record AreReady (names : List Name) (disk : D) : Type 0 where
    pub fit : AllByRecursion (λ name. is_file_name name ≡ true) names
    pub there : (n : Name) → is_staged names n ≡ true → IsSome (m.seen disk (temporary n))
    pub list : m.seen disk (temporary list_name) ≡ Some (list_bytes names)
    pub whole : (n : Name) → m.is_whole disk n
    pub uncommitted : IsUncommitted (m.seen disk) (m.may_leave disk)

  -- At some moment since this one the files of the set and its list were on the disk, and nothing was in place yet: each name that
  -- isn't reserved had what this folder has. It is a moment of the disk as it is now: what a crash might have left then is among
  -- what a crash since might have left.
  pub record HasBeenReady (names : List Name) (begin : ℕ) (old : Folder) (now : D) : Type 0 where
    pub earlier : D
    pub since : begin ≤ m.moment earlier
    pub later : m.moment earlier ≤ m.moment now
    pub reached : (c : Folder) → m.may_leave earlier c → m.left_since now (m.moment earlier) c
    pub ready : AreReady names earlier
    pub same : SameFree old (m.seen earlier)

  -- A run of calls in which there is no list: each name that isn't reserved has what it had, nothing of the set counts, and a
  -- crash at any moment leaves the old files.
  pub record RunsUncommitted (old new : D) : Type 0 where
    pub same : SameFree (m.seen old) (m.seen new)
    pub left : AreLeft new
    pub moments : LeavesOnly m old new (HasOldFiles (m.seen old))

-- The old files are there or the new ones, all of them, and each other name has what it had.
pub record IsPut (names : List Name) (old new : Folder) : Type 0 where
  pub either : IsOldOrNew names old new
  pub others : SameUnstaged names old new
