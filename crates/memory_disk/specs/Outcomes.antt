-- What a crash may leave of a disk in memory: as much as the calls of a disk allow. The latest call is the first.
use Rattle.std.specs.Prelude.{◌≡◌, ◌≢◌, ◌⊎◌, ℕ, ◌≤◌, List, [], ◌∷◌, length, None}
use Rattle.files_in_place.specs.Folder.{Name, Folder, SameBut}
use Rattle.files_in_place.specs.Disk.{AfterStep, MayMove, MayRemove}
use Rattle.disk_in_place.specs.InPlace.{MayTear}
use Rattle.memory_disk.specs.declared.disk_call.DiskCall.{DiskCall}
use Rattle.memory_disk.specs.declared.disk_call.DiskCall.TheVariants.{Create, Append, SyncFile, Rename, Remove, SyncFolder, WriteAt, SyncInPlace}
use Rattle.memory_disk.specs.Seen.{seen_after}

-- the bytes of the name's file have been synced since they were written, under this name or under the one that the file had before
abbrev pub AreSynced : List DiskCall → Name → Type 0
AreSynced [] n = Unit {0}
AreSynced (Create name ∷ before) n = (n ≢ name) × AreSynced before n
AreSynced (Append name bytes ∷ before) n = (n ≢ name) × AreSynced before n
AreSynced (SyncFile name ∷ before) n = (n ≡ name) ⊎ AreSynced before n
AreSynced (Rename from to ∷ before) n = ((n ≡ to) × AreSynced before from) ⊎ ((n ≢ to) × AreSynced before n)
AreSynced (Remove name ∷ before) n = AreSynced before n
AreSynced (SyncFolder ∷ before) n = AreSynced before n
AreSynced (WriteAt name offset bytes ∷ before) n = (n ≢ name) × AreSynced before n
AreSynced (SyncInPlace name ∷ before) n = (n ≡ name) ⊎ AreSynced before n

-- the name has no file, or all bytes of its file are on the disk
abbrev pub IsWhole : List DiskCall → Name → Type 0
IsWhole calls n = (seen_after calls n ≡ None) ⊎ AreSynced calls n

-- a file was created under the name, and since then nothing was renamed from it or to it, and nothing removed
abbrev pub IsCreated : List DiskCall → Name → Type 0
IsCreated [] n = ⊥
IsCreated (Create name ∷ before) n = (n ≡ name) ⊎ IsCreated before n
IsCreated (Append name bytes ∷ before) n = IsCreated before n
IsCreated (SyncFile name ∷ before) n = IsCreated before n
IsCreated (Rename from to ∷ before) n = (n ≢ from) × (n ≢ to) × IsCreated before n
IsCreated (Remove name ∷ before) n = (n ≢ name) × IsCreated before n
IsCreated (SyncFolder ∷ before) n = IsCreated before n
IsCreated (WriteAt name offset bytes ∷ before) n = IsCreated before n
IsCreated (SyncInPlace name ∷ before) n = IsCreated before n

-- What a crash after the calls may leave: at first no file; each call makes its own step, as far as a crash lets it, from each
-- folder that could be left before it. A sync of the folder takes away those in which a name whose bytes are on the disk hasn't what is
-- seen, and a sync of a file that was written over where it is those in which the file hasn't.
abbrev pub MayLeave : List DiskCall → Folder → Type 0
MayLeave [] c = (n : Name) → c n ≡ None
MayLeave (Create name ∷ before) c = AfterStep (SameBut name) (MayLeave before) c
MayLeave (Append name bytes ∷ before) c = AfterStep (SameBut name) (MayLeave before) c
MayLeave (SyncFile name ∷ before) c = MayLeave before c
MayLeave (Rename from to ∷ before) c = AfterStep (MayMove from to) (MayLeave before) c
MayLeave (Remove name ∷ before) c = AfterStep (MayRemove name) (MayLeave before) c
MayLeave (SyncFolder ∷ before) c = MayLeave before c × ((n : Name) → IsWhole before n → c n ≡ seen_after before n)
MayLeave (WriteAt name offset bytes ∷ before) c = AfterStep (MayTear name offset (length bytes)) (MayLeave before) c
MayLeave (SyncInPlace name ∷ before) c = MayLeave before c × (c name ≡ seen_after before name)

-- what a crash at some moment might have left, once so many of the calls had been done or more
abbrev pub MightHaveLeft : ℕ → List DiskCall → Folder → Type 0
MightHaveLeft t [] c = MayLeave [] c
MightHaveLeft t (call ∷ before) c = MayLeave (call ∷ before) c ⊎ ((t ≤ length before) × MightHaveLeft t before c)
