-- New files that are written for a folder of a disk, and the folder once they have their places.
use Rattle.std.specs.Prelude.{◌≡◌, ◌≢◌, ◌⊎◌, ℕ, List, [], ◌∷◌, ◌++◌, Option, Some, None, bytes_eq, map, false, if◌then◌else◌}
use Rattle.std.specs.List.{AllByRecursion, IsDistinct}
use Rattle.byte_io.specs.Sink.{grown}
use Rattle.files_in_place.specs.Folder.{Name, Folder, is_reserved, temporary, first_of}
use Rattle.files_in_place.specs.declared.phase.Phase.TheVariants.{Ended}
use Rattle.files_in_place.specs.Disk.{DiskMeaning, LeavesOnly}
use Rattle.files_in_place.specs.Recovery.{HasOldFiles, RecoversTo, SameFree}
use Rattle.files_in_place.specs.Staged.{Set, is_staged}
use Rattle.files_in_place.specs.declared.faults.SetFault.{SetFault}
use Rattle.folders.specs.declared.named.NamedFile.{NamedFile}
use Rattle.folders.specs.Files.{file_at, files_in, listing, IsOfBytes}

-- What contracts see of a `DiskFolder`, which takes new files for a folder of a disk: their set, the files as one list, how often a
-- call has failed, and why the last one that begins or writes a file did that has.
pub record NewFiles (D : Type 0) : Type 0 where
  pub set : Set D
  pub written : List ℕ
  pub failures : ℕ
  pub fault : Option SetFault

-- the folder with these files in the place of those of their names, and without the files of reserved names
abbrev pub with_files : List NamedFile → Folder → Folder
with_files files folder name = if is_reserved name then None else first_of (file_at files name) (folder name)

abbrev pub names_of : List NamedFile → List Name
names_of files = map (λ file. file.name) files

-- Since the disk was this, a crash at any moment leaves its old files, and where they can still be abandoned, each name that
-- isn't reserved has what it had.
pub record KeepsOld {D : Type 0} (m : DiskMeaning D) (start : D) (set : Set D) : Type 0 where
  pub same : set.phase ≢ Ended → SameFree (m.seen start) (m.seen set.disk)
  pub leaves : LeavesOnly m start set.disk (HasOldFiles (m.seen start))

-- the disk has each of these files under its temporary name
abbrev pub AreTemporary : List NamedFile → Folder → Type 0
AreTemporary files folder = AllByRecursion (λ file. folder (temporary file.name) ≡ Some file.bytes) files

-- the file that is being written is the last of these, and no other has its name
pub record IsBegunLast (files : List NamedFile) (current : Option Name) : Type 0 where
  pub before : List NamedFile
  pub last : NamedFile
  pub order : files ≡ before ++ last ∷ []
  pub begun : current ≡ Some (temporary last.name)
  pub other : is_staged (names_of before) last.name ≡ false

-- the file that is being written, where there is one, is the last of these
abbrev pub IsCurrent : List NamedFile → Option Name → Type 0
IsCurrent files None = files ≡ []
IsCurrent files (Some lies) = IsBegunLast files (Some lies)

-- none of the files has a reserved name
abbrev pub AreUnreserved : List NamedFile → Type 0
AreUnreserved files = AllByRecursion (λ file. is_reserved file.name ≡ false) files

-- The files of the set are those of the list, none of them has a reserved name, and the disk has them under their temporary names.
pub record AreWritten (written : List ℕ) (names : List Name) (current : Option Name) (folder : Folder) : Type 0 where
  pub files : List NamedFile
  pub listed : written ≡ listing files
  pub bytes : AllByRecursion IsOfBytes files
  pub named : names ≡ names_of files
  pub free : AreUnreserved files
  pub there : AreTemporary files folder
  pub last : IsCurrent files current

-- the folder has the files of the list in their places, and else what it had
abbrev pub IsPlaced : List ℕ → Folder → Folder → Type 0
IsPlaced written old new = (n : Name) → new n ≡ with_files (files_in written) old n

-- Files of different names, which are such, stand after what was written before. Names and files are of bytes, so what was written
-- tells these files, and no others.
pub record IsListedAfter (are_such : List NamedFile → Type 0) (old new : Option (List ℕ)) : Type 0 where
  pub files : List NamedFile
  pub such : are_such files
  pub written : new ≡ grown old (listing files)
  pub bytes : AllByRecursion IsOfBytes files
  pub told : files_in (listing files) ≡ files
  pub distinct : IsDistinct bytes_eq (names_of files)

-- what a crash leaves stands for the old files, or for those of the list in their places, all of them
abbrev pub IsOldOrPlaced : List ℕ → Folder → Folder → Type 0
IsOldOrPlaced written old left = HasOldFiles old left ⊎ RecoversTo (with_files (files_in written) old) left
