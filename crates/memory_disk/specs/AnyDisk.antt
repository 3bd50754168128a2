-- Any disk that keeps its promises, beside a disk in memory that has done the same calls.
use Rattle.std.specs.Prelude.{◌≡◌, ◌≢◌, List, [], ◌∷◌, None, IsSome}
use Rattle.files_in_place.specs.Folder.{Name, Folder}
use Rattle.files_in_place.specs.Disk.{IsDurable}
use Rattle.disk_in_place.specs.InPlace.{HasBytes}
use Rattle.memory_disk.specs.declared.disk_call.DiskCall.{DiskCall}
use Rattle.memory_disk.specs.declared.disk_call.DiskCall.TheVariants.{Create, Append, SyncFile, Rename, Remove, SyncFolder, WriteAt, SyncInPlace}
use Rattle.memory_disk.specs.Seen.{seen_after}
use Rattle.memory_disk.specs.Outcomes.{IsWhole, MayLeave}

-- a rename has two names
abbrev pub HasTwoNames : DiskCall → Type 0
HasTwoNames (Create name) = Unit {0}
HasTwoNames (Append name bytes) = Unit {0}
HasTwoNames (SyncFile name) = Unit {0}
HasTwoNames (Rename from to) = from ≢ to
HasTwoNames (Remove name) = Unit {0}
HasTwoNames SyncFolder = Unit {0}
HasTwoNames (WriteAt name offset bytes) = Unit {0}
HasTwoNames (SyncInPlace name) = Unit {0}

-- what a disk asks for before it does the call
abbrev pub CanDo : DiskCall → Folder → (Name → Type 0) → (Folder → Type 0) → Type 0
CanDo (Create name) folder is_new outcomes = folder name ≡ None
CanDo (Append name bytes) folder is_new outcomes = is_new name
CanDo (SyncFile name) folder is_new outcomes = Unit {0}
CanDo (Rename from to) folder is_new outcomes = IsDurable from folder outcomes
CanDo (Remove name) folder is_new outcomes = Unit {0}
CanDo SyncFolder folder is_new outcomes = Unit {0}
CanDo (WriteAt name offset bytes) folder is_new outcomes = HasBytes offset (folder name)
CanDo (SyncInPlace name) folder is_new outcomes = (c : Folder) → outcomes c → IsSome (c name)

-- the file that the call has made, or written to at its end
abbrev pub IsWritten : DiskCall → Name → Type 0
IsWritten (Create name) n = n ≡ name
IsWritten (Append name bytes) n = n ≡ name
IsWritten (SyncFile name) n = ⊥
IsWritten (Rename from to) n = ⊥
IsWritten (Remove name) n = ⊥
IsWritten SyncFolder n = ⊥
IsWritten (WriteAt name offset bytes) n = ⊥
IsWritten (SyncInPlace name) n = ⊥

-- the file that the latest of the calls has made, or written to at its end
abbrev pub IsWrittenLast : List DiskCall → Name → Type 0
IsWrittenLast [] n = ⊥
IsWrittenLast (call ∷ before) n = IsWritten call n

-- Each of the calls, the latest first, may be done after those before it: a file is made where there is none and is written in one go,
-- a file that is renamed is on the disk, and one that is written over has so many bytes.
abbrev pub AreAllowed : List DiskCall → Type 0
AreAllowed [] = Unit {0}
AreAllowed (call ∷ before) = AreAllowed before × HasTwoNames call × CanDo call (seen_after before) (IsWrittenLast before) (MayLeave before)

-- The disk shows what the disk in memory does, all bytes that are on that disk are on this one, and a crash leaves no more than there.
pub record LeavesNoMore (folder : Folder) (is_whole : Name → Type 0) (outcomes : Folder → Type 0) (calls : List DiskCall) : Type 0 where
  pub seen : (n : Name) → folder n ≡ seen_after calls n
  pub whole : (n : Name) → IsWhole calls n → is_whole n
  pub no_more : (c : Folder) → outcomes c → MayLeave calls c
