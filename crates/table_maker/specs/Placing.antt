-- Files that are made in the folder of a disk, and why they are not.
use Rattle.std.specs.Prelude.{◌≡◌, ◌⊎◌, ◌<◌, ℕ, Bool, false, List, None}
use Rattle.std.specs.List.{AllByRecursion}
use Rattle.files_in_place.specs.Disk.{DiskMeaning}
use Rattle.files_in_place.specs.Folder.{Folder, recovered}
use Rattle.folders.specs.declared.named.NamedFile.{NamedFile}
use Rattle.program_frame.specs.Jobs.{IsLoadFailure, IsPlaceFailure, IsRunFailure, IsStopped}
use Rattle.program_frame.specs.Placing.{HasPut, IsRecovered, RecoversAsOneOf}
use Rattle.program_frame.specs.declared.ending.Failure.{Failure}
use Rattle.program_frame.specs.declared.ending.Failure.TheVariants as failure

-- ---- the names

-- none of these names has a file
abbrev pub IsFree : List (List ℕ) → Folder → Type 0
IsFree names folder = AllByRecursion (λ name. folder name ≡ None) names

-- whatever was recovered on the disk is so still
abbrev pub StaysRecovered : {D : Type 0} → DiskMeaning D → D → D → Type 0
StaysRecovered {D} m old new = (start : D) → IsRecovered m start old → IsRecovered m start new

-- ---- why files are not in their places

-- the faults of looking for the names: one of them has a file, or the folder can't be read
pub record LookFaults (F : Type 0) : Type 0 where
  pub exists : F
  pub unread : F

-- why a name may not be taken: it has a file, or that is not known
abbrev pub IsLooking : {F : Type 0} → LookFaults F → F → F → Type 0
IsLooking look no_memory fault = (fault ≡ look.exists) ⊎ ((fault ≡ look.unread) ⊎ (fault ≡ no_memory))

-- the files may not be replaced, and one of the names has a file, or that is not known
abbrev pub IsTaken : {F : Type 0} → LookFaults F → Bool → Failure F → Type 0
IsTaken look replace why = (replace ≡ false) × ((why ≡ failure.Work look.exists) ⊎ (why ≡ failure.Work look.unread))

-- what is told where no file was begun: the work was stopped so, or the names may not be taken
abbrev pub IsUntried : {F : Type 0} → LookFaults F → (F → Type 0) → F → Bool → Failure F → Type 0
IsUntried look fails no_memory replace why = IsStopped fails no_memory why ⊎ IsTaken look replace why

-- why files are not in their places, where this is said of the work: it fails so, or it came to its end
abbrev pub IsUnplaced : {F : Type 0} → LookFaults F → F → (F → Type 0) → Type 0 → Bool → Failure F → Type 0
IsUnplaced look no_memory fails ended replace why = IsPlaceFailure fails no_memory ended why ⊎ IsTaken look replace why

-- what that says of the count of loads that failed
abbrev pub IsUnplacedLoad : {F : Type 0} → LookFaults F → F → (F → Type 0) → Type 0 → Bool → Failure F → Type 0
IsUnplacedLoad look no_memory loads same replace why = IsLoadFailure loads no_memory same why ⊎ (IsTaken look replace why × same)

-- also since the folder of a path can't be had
abbrev pub IsUnplacedInto : {F : Type 0} → LookFaults F → F → (F → Type 0) → Type 0 → Bool → Failure F → Type 0
IsUnplacedInto look no_memory fails ended replace why = IsRunFailure fails no_memory ended why ⊎ IsTaken look replace why

-- ---- in the folder of a path

-- a folder was opened so, and a file stood in the way: once it was recovered this was not true of it
pub record IsInTheWay {D : Type 0} (m : DiskMeaning D) (is_opened : D → Type 0) (is_free : Folder → Type 0) : Type 0 where
  pub start : D
  pub opened : is_opened start
  pub taken : m.keeps_promises → ¬ is_free (recovered (m.seen start))

-- a folder was opened so, and since then a call of its disk has failed
pub record HasFailed {D : Type 0} (m : DiskMeaning D) (is_opened : D → Type 0) : Type 0 where
  pub start : D
  pub end : D
  pub opened : is_opened start
  pub failed : m.faults start < m.faults end

-- files, which are such, were put into a folder that was opened so, of which this was true before
pub record HasMadeInto {D : Type 0} (m : DiskMeaning D) (is_opened : D → Type 0) (are_such : List NamedFile → Type 0) (is_free : Folder → Type 0) : Type 0 where
  pub start : D
  pub end : D
  pub opened : is_opened start
  pub free : m.keeps_promises → is_free (recovered (m.seen start))
  pub put : m.keeps_promises → HasPut m are_such (RecoversAsOneOf (m.may_leave start)) (recovered (m.seen start)) start end
