-- A disk at the beginning of a run of calls.
use Rattle.std.proofs.Common.{◌<◌, length, arith, ◌≡◌, List, [], ◌∷◌, None, ◌∙◌}
use Rattle.files_in_place.specs.Folder.{Name, Folder}
use Rattle.files_in_place.specs.Disk.{IsSynced}
use Rattle.memory_disk.specs.declared.disk_call.DiskCall.{DiskCall}
use Rattle.memory_disk.specs.AnyDisk.{LeavesNoMore}

-- a disk without files, all of whose bytes and names are on the disk
pub without_files : (f : Folder) (w : Name → Type 0) (o : Folder → Type 0) (calls : List DiskCall) → length calls < 1 → ((n : Name) → f n ≡ None) → IsSynced f w o → LeavesNoMore f w o calls
without_files f w o [] less empty synced = record {
  seen = empty;
  whole = λ n whole. synced.whole n;
  no_more = λ c left n. synced.only c left n ∙ empty n;
}
without_files f w o (call ∷ before) less empty synced = absurd (omega arith)
