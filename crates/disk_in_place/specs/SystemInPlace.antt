-- What contracts see of a folder of the system of which a file is written over where it is, and of what the calls of the system have
-- answered for that.
use Rattle.std.specs.Prelude.{◌≡◌, ◌⊎◌, ◌++◌, ℕ, List, Bool, Option, Some, None}
use Rattle.files_in_place.specs.System.{SystemAnswers}

-- a file that is open to be written over, and its name
pub record FileInPlace (File : Type 0) : Type 0 where
  pub name : List ℕ
  pub file : File

-- What contracts see of a folder of the system with such a file: its path, ended by a slash, the file that is open to be written
-- over, whether a sync has failed, and how often a call on it has failed. What its files hold is outside of the program.
pub record SystemFolderInPlace (File : Type 0) : Type 0 where
  pub path : List ℕ
  pub opened : Option (FileInPlace File)
  pub has_failed_sync : Bool
  pub failures : ℕ

-- What the calls of the system that write over a file have answered. Each member holds of what such a call was given and has answered, and
-- nothing else is known of it: so whoever says that it holds has made the call.
pub record AnswersInPlace (File : Type 0) : Type 1 where
  -- this file was opened at the path to be written over (`open` with `O_WRONLY`), and nothing has been written over it since
  pub opens_over : File → List ℕ → Type 0
  -- all these bytes were written over those of the first file from an offset on (`pwrite`), and the second is that file since
  pub writes_over : File → ℕ → List ℕ → File → Type 0
  -- all bytes of this file, and its length, are on the disk (`fdatasync`)
  pub syncs_data : File → Type 0

module _ {File Names : Type 0} (said : SystemAnswers File Names) (over : AnswersInPlace File) where
  -- the file is the one that was open under the name, or was opened in the folder since
  abbrev pub IsReached : List ℕ → List ℕ → Option (FileInPlace File) → File → Type 0
  IsReached folder name None file = over.opens_over file (folder ++ name)
  IsReached folder name (Some was) file = ((was.name ≡ name) × (was.file ≡ file)) ⊎ over.opens_over file (folder ++ name)

  -- All these bytes were written from an offset on over those of a file of the folder and the name, the one that was open where one of
  -- the name was, and it is open now.
  pub record HasWrittenOver (folder name : List ℕ) (offset : ℕ) (bytes : List ℕ) (was : Option (FileInPlace File)) (now : FileInPlace File) : Type 0 where
    pub file : File
    pub reached : IsReached folder name was file
    pub at : said.is_at file (folder ++ name)
    pub written : over.writes_over file offset bytes now.file
    pub named : now.name ≡ name

  -- all bytes of the file of the folder and the name that is open now are on the disk, the one that was open where one of the name was
  pub record HasSyncedOver (folder name : List ℕ) (was : Option (FileInPlace File)) (now : FileInPlace File) : Type 0 where
    pub reached : IsReached folder name was now.file
    pub at : said.is_at now.file (folder ++ name)
    pub synced : over.syncs_data now.file
    pub named : now.name ≡ name

-- nothing is told of the answers
abbrev pub nothing_told_in_place : {File : Type 0} → AnswersInPlace File
nothing_told_in_place = record {
  opens_over = λ file path. Unit {0};
  writes_over = λ file offset bytes since. Unit {0};
  syncs_data = λ file. Unit {0};
}
