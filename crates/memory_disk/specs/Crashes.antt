-- One of the folders that a crash may leave.
use Rattle.std.specs.Prelude.{◌≡◌, ◌≢◌, ◌⊎◌, ℕ, length, List, [], ◌∷◌, Bool, true, false, Option, None, Some, if◌then◌else◌}
use Rattle.std.specs.Str.{bytes_eq}
use Rattle.files_in_place.specs.Folder.{Name, Folder, SameBut}
use Rattle.files_in_place.specs.Disk.{MayMove, MayRemove}
use Rattle.disk_in_place.specs.InPlace.{MayTear}
use Rattle.memory_disk.specs.declared.disk_call.DiskCall.{DiskCall}
use Rattle.memory_disk.specs.declared.disk_call.DiskCall.TheVariants.{Create, Append, SyncFile, Rename, Remove, SyncFolder, WriteAt, SyncInPlace}
use Rattle.memory_disk.specs.Seen.{seen_after}

-- The bytes of the name's file have been synced since they were written; or they have been written over where they are, or synced
-- there, and not written in another way since.
abbrev pub AreKept : List DiskCall → Name → Type 0
AreKept [] n = Unit {0}
AreKept (Create name ∷ before) n = (n ≢ name) × AreKept before n
AreKept (Append name bytes ∷ before) n = (n ≢ name) × AreKept before n
AreKept (SyncFile name ∷ before) n = (n ≡ name) ⊎ AreKept before n
AreKept (Rename from to ∷ before) n = ((n ≡ to) × AreKept before from) ⊎ ((n ≢ to) × AreKept before n)
AreKept (Remove name ∷ before) n = AreKept before n
AreKept (SyncFolder ∷ before) n = AreKept before n
AreKept (WriteAt name offset bytes ∷ before) n = (n ≡ name) ⊎ AreKept before n
AreKept (SyncInPlace name ∷ before) n = (n ≡ name) ⊎ AreKept before n

-- the name has no file, or its bytes are kept
abbrev pub IsKept : List DiskCall → Name → Type 0
IsKept calls n = (seen_after calls n ≡ None) ⊎ AreKept calls n

-- each name whose bytes are on the disk, or written over where they are, has what is seen
abbrev pub KeepsWhole : List DiskCall → Folder → Type 0
KeepsWhole calls c = (n : Name) → IsKept calls n → c n ≡ seen_after calls n

-- the step of a call that changes a file or a name, as far as a crash lets it
abbrev pub MayStep : DiskCall → Folder → Folder → Type 0
MayStep (Create name) = SameBut name
MayStep (Append name bytes) = SameBut name
MayStep (SyncFile name) = λ old new. new ≡ old
MayStep (Rename from to) = MayMove from to
MayStep (Remove name) = MayRemove name
MayStep SyncFolder = λ old new. new ≡ old
MayStep (WriteAt name offset bytes) = MayTear name offset (length bytes)
MayStep (SyncInPlace name) = λ old new. new ≡ old

-- whether the bytes of the name's file are kept: `AreKept` as the code tests it
abbrev pub are_kept : List DiskCall → Name → Bool
are_kept [] n = true
are_kept (Create name ∷ before) n = if bytes_eq name n then false else are_kept before n
are_kept (Append name bytes ∷ before) n = if bytes_eq name n then false else are_kept before n
are_kept (SyncFile name ∷ before) n = if bytes_eq name n then true else are_kept before n
are_kept (Rename from to ∷ before) n = if bytes_eq to n then are_kept before from else are_kept before n
are_kept (Remove name ∷ before) n = are_kept before n
are_kept (SyncFolder ∷ before) n = are_kept before n
are_kept (WriteAt name offset bytes ∷ before) n = if bytes_eq name n then true else are_kept before n
are_kept (SyncInPlace name ∷ before) n = if bytes_eq name n then true else are_kept before n

-- whether a crash may make anything of a file, by whether its bytes are kept, and what it has
abbrev pub is_torn_by : Bool → Option (List ℕ) → Bool
is_torn_by true content = false
is_torn_by false None = false
is_torn_by false (Some bytes) = true
