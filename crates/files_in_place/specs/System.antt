-- What contracts see of a folder of the system, and of what the calls of the system have answered.
use Rattle.std.specs.Prelude.{◌≡◌, ◌≢◌, ◌⊎◌, ◌∷◌, [], ◌++◌, ℕ, List, Option, Some, Bool, Result, Ok, Err, IsErr, OnOk, true, false}
use Rattle.std.specs.Io.KnownBytes.{Appends}
use Rattle.std.specs.Fs.{file_type, metadata_mode, IsDir, IsFile}
use Rattle.std.specs.List.{Contains}
use Rattle.std.specs.Str.{is_utf8}
use Rattle.std.specs.IoError.{error_kind}
use Rattle.std.specs.declared.io.Error.{Error}
use Rattle.std.specs.declared.io.ErrorKind.TheVariants.{NotFound, OutOfMemory}
use Rattle.std.specs.declared.fs.Metadata.{Metadata}
use Rattle.std.specs.declared.fs.TryLockError.{TryLockError}
use Rattle.std.specs.declared.fs.TryLockError.TheVariants as of_lock
use Rattle.files_in_place.specs.declared.faults.DiskFault.{DiskFault}
use Rattle.files_in_place.specs.declared.faults.DiskFault.TheVariants.{Failed}
use Rattle.files_in_place.specs.Folder.{temporary}
use Rattle.files_in_place.specs.Staged.{is_dots}

-- A folder of the system as contracts see it: its path, ended by a slash, the name of the file that is open to take bytes, whether
-- a sync has failed, and how often a call on it has failed. What its files hold is outside of the program.
pub record SystemFolder : Type 0 where
  pub path : List ℕ
  pub current : Option (List ℕ)
  pub has_failed_sync : Bool
  pub failures : ℕ

-- What a sync answers, where it is known before it and after it whether one has failed: after one that has, each fails.
pub record IsSyncMarked (before now : Bool) (result : Result (Unit {0}) DiskFault) : Type 0 where
  pub refused : before ≡ true → result ≡ Err Failed
  pub failed : IsErr result → now ≡ true
  pub synced : OnOk result (now ≡ false)

-- The file that was created last has this name and has taken these bytes, all of them and no others, after those that it had, where
-- these are known. A file is seen by its name and by what it holds.
abbrev pub HasTaken : {F : Type 0} → (F → List ℕ × Option (List ℕ)) → List ℕ → List ℕ → Option F → Option F → Type 0
HasTaken seen name bytes (Some old) (Some new) = ((seen old).0 ≡ name) × ((seen new).0 ≡ name) × Appends (seen old).1 (seen new).1 bytes
HasTaken seen name bytes old new = ⊥

-- What the calls of the system have answered, a member for each call. Each member holds of what such a call was given and has
-- answered, and nothing else is known of it: so whoever says that it holds has made the call. The other words of this file are said
-- of these. A path is its bytes.
pub record SystemAnswers (File Names : Type 0) : Type 1 where
  -- what has the path, a link not followed (`lstat`)
  pub finds : List ℕ → Result Metadata Error → Type 0
  -- what the path leads to (`stat`)
  pub leads_to : List ℕ → Result Metadata Error → Type 0
  -- this file was opened at the path, or made there; it may have taken bytes since
  pub is_at : File → List ℕ → Type 0
  -- this file was made, where the path had nothing (`open` with `O_CREAT` and `O_EXCL`); it may have taken bytes since
  pub makes : File → List ℕ → Type 0
  -- these are all the bytes that were left to read in this file
  pub reads : File → List ℕ → Type 0
  -- this file has the mode (`fchmod`)
  pub has_mode : File → ℕ → Type 0
  -- all bytes of this file are on the disk (`fsync`)
  pub syncs : File → Type 0
  -- the lock of this file is given (`flock`)
  pub locks : File → Type 0
  -- another run has the lock of this file
  pub is_busy : File → Type 0
  -- what has the first path has the second now (`rename`)
  pub renames : List ℕ → List ℕ → Type 0
  -- the path has nothing now (`unlink`)
  pub removes : List ℕ → Type 0
  -- the names of the folder at the path are being read
  pub opens_names : Names → List ℕ → Type 0
  -- no name is left to read
  pub ends : Names → Type 0
  -- a call was refused with this error
  pub refuses : Error → Type 0

-- No file of a folder has such a name: it is empty, a dot or two dots, has a slash, or is no UTF-8.
abbrev pub IsNoEntry : List ℕ → Type 0
IsNoEntry name = (is_dots name ≡ true) ⊎ Contains name 47 ⊎ (is_utf8 name ≡ false)

-- one of the names is that of no file of a folder
abbrev pub OneIsNoEntry : List (List ℕ) → Type 0
OneIsNoEntry names = (name : List ℕ) × Contains names name × IsNoEntry name

module _ {File Names : Type 0} (said : SystemAnswers File Names) where
  -- a call was refused, and not for want of memory
  abbrev pub IsRefused : Type 0
  IsRefused = (e : Error) × said.refuses e × (error_kind e ≢ OutOfMemory)

  -- the path has nothing
  abbrev pub HasNothing : List ℕ → Type 0
  HasNothing path = (e : Error) × said.finds path (Err e) × (error_kind e ≡ NotFound)

  -- the path has a folder
  abbrev pub HasFolder : List ℕ → Type 0
  HasFolder path = (m : Metadata) × said.finds path (Ok m) × IsDir (file_type m)

  -- the path has no file: nothing, or a folder
  abbrev pub HasNoFile : List ℕ → Type 0
  HasNoFile path = HasNothing path ⊎ HasFolder path

  -- the path has something, but no regular file
  abbrev pub HasNoRegularFile : List ℕ → Type 0
  HasNoRegularFile path = (m : Metadata) × said.finds path (Ok m) × ¬ IsFile (file_type m)

  -- the path has no bytes to bring to the disk: it has no file, or no regular one
  abbrev pub HasNoBytes : List ℕ → Type 0
  HasNoBytes path = HasNoFile path ⊎ HasNoRegularFile path

  -- the path has a file: anything but a folder
  abbrev pub HasFile : List ℕ → Type 0
  HasFile path = (m : Metadata) × said.finds path (Ok m) × ¬ IsDir (file_type m)

  -- these bytes were read from the file of the path, all that it has
  abbrev pub HasRead : List ℕ → List ℕ → Type 0
  HasRead path bytes = (f : File) × said.is_at f path × said.reads f bytes

  -- a file of the path is on the disk
  abbrev pub HasSynced : List ℕ → Type 0
  HasSynced path = (f : File) × said.is_at f path × said.syncs f

  -- one of these files was opened at the path, or the path has no bytes to bring to the disk
  abbrev pub IsOpenAmong : List File → List ℕ → Type 0
  IsOpenAmong files path = ((f : File) × said.is_at f path × Contains files f) ⊎ HasNoBytes path

  -- this is a file of the folder that was made under the name
  pub record IsMadeUnder (folder name : List ℕ) (file : File) : Type 0 where
    pub made : said.makes file (folder ++ name)
    pub at : said.is_at file (folder ++ name)

  -- a file that was made at the path has taken the bytes after those that it had, where these are known
  abbrev pub HasAppended : (File → Option (List ℕ)) → List ℕ → List ℕ → Type 0
  HasAppended contents path bytes = (old : File) × (new : File) × said.makes new path × Appends (contents old) (contents new) bytes

  -- The name is a temporary one, and the name for which it stands has something in the folder.
  abbrev pub Replaces : List ℕ → List ℕ → Metadata → Type 0
  Replaces folder name old = (own : List ℕ) × (name ≡ temporary own) × said.finds (folder ++ own) (Ok old)

  -- the name is no temporary one, or the name for which it stands has nothing in the folder
  abbrev pub ReplacesNothing : List ℕ → List ℕ → Type 0
  ReplacesNothing folder name = (own : List ℕ) → name ≡ temporary own → HasNothing (folder ++ own)

  -- a regular file gives its mode to the file that is to replace it
  abbrev pub HandsMode : Metadata → File → Type 0
  HandsMode old file = IsFile (file_type old) → said.has_mode file (metadata_mode old)

  -- the file has the mode of what it is to replace, if that is a regular file
  abbrev pub HasOldMode : List ℕ → List ℕ → File → Type 0
  HasOldMode folder name file = ReplacesNothing folder name ⊎ ((old : Metadata) × Replaces folder name old × HandsMode old file)

  -- a file was made under the name, with the mode of what it is to replace
  abbrev pub HasMade : List ℕ → List ℕ → Type 0
  HasMade folder name = (f : File) × said.makes f (folder ++ name) × HasOldMode folder name f

  -- What may keep a new file of the name from being begun: no file has such a name or the name for which it stands, or something has that name,
  -- and a rename might not replace it.
  abbrev pub CannotBegin : List ℕ → List ℕ → Type 0
  CannotBegin folder name = IsNoEntry name ⊎ ((own : List ℕ) × (name ≡ temporary own) × IsNoEntry own) ⊎ ((old : Metadata) × Replaces folder name old)

  -- the path leads to something that is no folder
  abbrev pub LeadsToNoFolder : List ℕ → Type 0
  LeadsToNoFolder path = (m : Metadata) × said.leads_to path (Ok m) × ¬ IsDir (file_type m)

  -- the folder of the path is locked
  abbrev pub HasLocked : List ℕ → Type 0
  HasLocked path = (f : File) × said.is_at f path × said.locks f

  -- this is the folder of the path, which a slash ends, and it is locked
  abbrev pub IsLockedFolder : List ℕ → File → Type 0
  IsLockedFolder path folder = (own : List ℕ) × (path ≡ own ++ 47 ∷ []) × said.is_at folder own × said.locks folder

  -- the names of the folder of the path, which a slash ends, are on the disk
  abbrev pub HasSyncedFolder : List ℕ → Type 0
  HasSyncedFolder path = (own : List ℕ) × (path ≡ own ++ 47 ∷ []) × HasSynced own

  -- another run has the folder of the path
  abbrev pub IsInUse : List ℕ → Type 0
  IsInUse path = (f : File) × said.is_at f path × said.is_busy f

  -- the lock was refused with an error; that another has it is none
  abbrev pub IsLockRefusal : TryLockError → Type 0
  IsLockRefusal (of_lock.Error cause) = said.refuses cause
  IsLockRefusal of_lock.WouldBlock = Unit {0}

  -- all names of the folder at the path were read
  abbrev pub HasReadNames : List ℕ → Type 0
  HasReadNames path = (n : Names) × said.opens_names n path × said.ends n

-- nothing is told of the answers
abbrev pub nothing_told : {File Names : Type 0} → SystemAnswers File Names
nothing_told = record {
  finds = λ path answer. Unit {0};
  leads_to = λ path answer. Unit {0};
  is_at = λ file path. Unit {0};
  makes = λ file path. Unit {0};
  reads = λ file bytes. Unit {0};
  has_mode = λ file mode. Unit {0};
  syncs = λ file. Unit {0};
  locks = λ file. Unit {0};
  is_busy = λ file. Unit {0};
  renames = λ from to. Unit {0};
  removes = λ path. Unit {0};
  opens_names = λ names path. Unit {0};
  ends = λ names. Unit {0};
  refuses = λ error. Unit {0};
}
