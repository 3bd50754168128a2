-- A disk that was only read.
use Rattle.std.proofs.Common.{◌≡◌, ◌∙◌, sym, ap}
use Rattle.files_in_place.specs.Disk.{DiskMeaning, IsSyncedDisk, Shrinks}
use Rattle.files_in_place.specs.Folder.{Folder, Name}
use Rattle.files_in_place.specs.Recovery.{IsClean}

module _ {D : Type 0} (m : DiskMeaning D) where
  -- all that is seen is still on it
  pub still_synced : (old new : D) → m.seen new ≡ m.seen old → Shrinks (m.may_leave old) (m.may_leave new) → ((n : Name) → m.is_whole old n → m.is_whole new n) → IsSyncedDisk m old → IsSyncedDisk m new
  still_synced old new seen fewer whole synced = record {
    only = λ c may n. synced.only c (fewer c may) n ∙ ap (λ (folder : Folder). folder n) (sym seen);
    whole = λ n. whole n (synced.whole n);
  }

  -- there is no reserved name still
  pub still_clean : (old new : D) → m.seen new ≡ m.seen old → IsClean (m.seen old) → IsClean (m.seen new)
  still_clean old new seen clean n reserved = ap (λ (folder : Folder). folder n) seen ∙ clean n reserved
