-- What a disk in memory has done, and what it shows.
use Rattle.std.specs.Prelude.{ℕ, List, [], ◌∷◌, ◌++◌, length, Bool, false, None, Some, option_map, nat_le, if◌then◌else◌}
use Rattle.std.specs.Str.{bytes_eq}
use Rattle.files_in_place.specs.Folder.{Name, Folder}
use Rattle.disk_in_place.specs.InPlace.{written_over}
use Rattle.memory_disk.specs.declared.disk_call.DiskCall.{DiskCall}
use Rattle.memory_disk.specs.declared.disk_call.DiskCall.TheVariants.{Create, Append, SyncFile, Rename, Remove, SyncFolder, WriteAt, SyncInPlace}

-- What contracts see of a disk in memory: the calls that it has done, the latest first, and how often it has failed.
pub record DiskHistory : Type 0 where
  pub calls : List DiskCall
  pub failures : ℕ

-- the bytes with these ones in the place of those from an offset on; a file that has fewer bytes stays as it is
abbrev pub with_over : ℕ → List ℕ → List ℕ → List ℕ
with_over offset bytes content = if nat_le offset (length content) then written_over offset bytes content else content

-- the files as reads show them after the calls, the latest first
abbrev pub seen_after : List DiskCall → Folder
seen_after [] n = None
seen_after (Create name ∷ before) n = if bytes_eq name n then Some [] else seen_after before n
seen_after (Append name bytes ∷ before) n = if bytes_eq name n then option_map (λ content. content ++ bytes) (seen_after before n) else seen_after before n
seen_after (SyncFile name ∷ before) n = seen_after before n
seen_after (Rename from to ∷ before) n = if bytes_eq to n then seen_after before from else if bytes_eq from n then None else seen_after before n
seen_after (Remove name ∷ before) n = if bytes_eq name n then None else seen_after before n
seen_after (SyncFolder ∷ before) n = seen_after before n
seen_after (WriteAt name offset bytes ∷ before) n = if bytes_eq name n then option_map (with_over offset bytes) (seen_after before n) else seen_after before n
seen_after (SyncInPlace name ∷ before) n = seen_after before n

-- whether the call may give the name a file
abbrev pub gives_file : DiskCall → Name → Bool
gives_file (Create name) n = bytes_eq name n
gives_file (Append name bytes) n = false
gives_file (SyncFile name) n = false
gives_file (Rename from to) n = bytes_eq to n
gives_file (Remove name) n = false
gives_file SyncFolder n = false
gives_file (WriteAt name offset bytes) n = false
gives_file (SyncInPlace name) n = false
