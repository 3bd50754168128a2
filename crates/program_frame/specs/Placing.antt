-- New files that stand in their places.
use Rattle.std.specs.Prelude.{◌≡◌, ◌≢◌, ◌⊎◌, ◌<◌, List, Some, None, true, false, Result, IfErr, IfOk, IsErr, IsErrOf, OnOk}
use Rattle.std.specs.List.{AllByRecursion}
use Rattle.files_in_place.specs.Disk.{AfterStep, DiskMeaning, IsSyncedDisk, LeavesOnly}
use Rattle.files_in_place.specs.Folder.{Name, Folder, is_reserved, recovered}
use Rattle.files_in_place.specs.Recovery.{IsClean, RecoversTo, StillRecovers}
use Rattle.files_in_place.specs.Staged.{HasBadList, HasBeenReady}
use Rattle.program_frame.specs.declared.ending.Failure.{Failure}
use Rattle.program_frame.specs.declared.ending.Failure.TheVariants as failure
use Rattle.program_frame.specs.declared.folder.FolderFault.TheVariants.{BadList, Unfinished, Unrecovered, Unreplaced, Unwritten}
use Rattle.program_frame.specs.Jobs.{AreFilesOf}
use Rattle.folders.specs.declared.named.NamedFile.{NamedFile}
use Rattle.folders.specs.Files.{file_at}
use Rattle.folders.specs.Placed.{names_of, with_files}

-- The new folder has each of these files under its name; each name that is neither one of theirs nor reserved has what it had; and
-- no reserved name has a file.
pub record HasFiles (files : List NamedFile) (old new : Folder) : Type 0 where
  pub there : AllByRecursion (λ file. new file.name ≡ Some file.bytes) files
  pub others : (name : Name) → is_reserved name ≡ false → file_at files name ≡ None → new name ≡ old name
  pub clean : (name : Name) → is_reserved name ≡ true → new name ≡ None

-- recovery makes of a folder what it makes of one of these
abbrev pub RecoversAsOneOf : (Folder → Type 0) → Folder → Type 0
RecoversAsOneOf outcomes left = (d : Folder) × outcomes d × RecoversTo (recovered d) left

-- Since the disk was this, what a crash leaves at any moment stands for the files before, or for a folder with new files in their
-- places, all of them: these files are such, and the same at each moment.
pub record MayPut {D : Type 0} (m : DiskMeaning D) (are_such : List NamedFile → Type 0) (before : Folder → Type 0) (old : Folder) (start now : D) : Type 0 where
  pub files : List NamedFile
  pub such : are_such files
  pub moments : LeavesOnly m start now (λ left. before left ⊎ RecoversTo (with_files files old) left)

-- so it was (`MayPut`), and now the new files are in their places
pub record HasPut {D : Type 0} (m : DiskMeaning D) (are_such : List NamedFile → Type 0) (before : Folder → Type 0) (old : Folder) (start now : D) : Type 0 where
  pub put : MayPut m are_such before old start now
  pub placed : HasFiles put.files old (m.seen now)

-- So it was (`MayPut`); at some moment since then all new files were on the disk, and none was in its place yet; and what is seen
-- now stands for one of the two: the files before, or the folder with the new ones.
pub record WasPutting {D : Type 0} (m : DiskMeaning D) (are_such : List NamedFile → Type 0) (before : Folder → Type 0) (old : Folder) (start now : D) : Type 0 where
  pub put : MayPut m are_such before old start now
  pub ready : HasBeenReady m (names_of put.files) (m.moment start) old now
  pub shown : before (m.seen now) ⊎ RecoversTo (with_files put.files old) (m.seen now)

-- How work that began on a disk ended, by its result, where a crash before left one of these folders, or this one with its files in
-- their places. At Ok its files are in place. If it failed, what a crash leaves, and what is seen, is one of the folders before,
-- unless some of the files may be in place: then all of them were on the disk. That they were not written is said only if a call of
-- the disk has failed.
pub record EndsInPlace {D R F : Type 0} (m : DiskMeaning D) (writes : List NamedFile → R → Type 0) (before : Folder → Type 0) (old : Folder)
    (start now : D) (ended : Result R (Failure F)) : Type 0 where
  pub placed : m.keeps_promises → IfOk ended (λ report. HasPut m (λ files. writes files report) before old start now)
  pub synced : m.keeps_promises → OnOk ended (IsSyncedDisk m now)
  pub old_files : m.keeps_promises → IfErr ended (λ why. why ≢ failure.Folder Unfinished → LeavesOnly m start now before)
  pub seen : m.keeps_promises → IfErr ended (λ why. why ≢ failure.Folder Unfinished → before (m.seen now))
  pub unwritten : IsErrOf ended (failure.Folder Unwritten) → m.faults start < m.faults now
  pub unfinished : m.keeps_promises → IsErrOf ended (failure.Folder Unfinished) → WasPutting m (AreFilesOf writes) before old start now

-- What an earlier run left on a disk was brought to its end: it is seen recovered, whole and without temporary files, and a crash at
-- any moment left what recovery makes the same of as of a folder that might have been left before.
pub record IsRecovered {D : Type 0} (m : DiskMeaning D) (start now : D) : Type 0 where
  pub same : (name : Name) → m.seen now name ≡ recovered (m.seen start) name
  pub moments : LeavesOnly m start now (AfterStep StillRecovers (m.may_leave start))
  pub synced : IsSyncedDisk m now
  pub clean : IsClean (m.seen now)
  pub good_list : ¬ HasBadList (m.seen start)

-- What is told of recovery. That the folder was not recovered, or that a file of it can't be replaced, is said only where a call of
-- the disk has failed; that its list is none of a run's only where it is so, and then nothing is touched.
pub record TellsRecovery {D R F : Type 0} (m : DiskMeaning D) (start now : D) (ended : Result R (Failure F)) : Type 0 where
  pub unrecovered : IsErrOf ended (failure.Folder Unrecovered) → m.faults start < m.faults now
  pub unreplaced : (name : Name) → IsErrOf ended (failure.Folder (Unreplaced name)) → m.faults start < m.faults now
  pub bad_list : m.keeps_promises → IsErrOf ended (failure.Folder BadList) → HasBadList (m.seen start)
  pub untouched : m.keeps_promises → HasBadList (m.seen start) → IsErr ended × (m.seen now ≡ m.seen start)

-- files were put into a folder that was opened so, and they are such
pub record HasPutInto {D : Type 0} (m : DiskMeaning D) (is_opened : D → Type 0) (are_such : List NamedFile → Type 0) : Type 0 where
  pub start : D
  pub end : D
  pub opened : is_opened start
  pub put : m.keeps_promises → HasPut m are_such (RecoversAsOneOf (m.may_leave start)) (recovered (m.seen start)) start end
