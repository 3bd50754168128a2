-- A log in a folder of a disk: what is true of it between two groups, and what a crash leaves while one is put.
use Rattle.std.specs.Prelude.{◌≡◌, ℕ, ◌+◌, List, [], ◌++◌, length, Bool, Some}
use Rattle.files_in_place.specs.Folder.{Name, Folder, SameBut}
use Rattle.files_in_place.specs.Disk.{DiskMeaning, IsSyncedDisk}
use Rattle.files_in_place.specs.Recovery.{IsClean}
use Rattle.station_lines.specs.JournalLines.{HaveSmallNumbers}
use Rattle.live_log.specs.Gates.{LineParts, gated, log_of, StandsForEither}

-- What contracts see of a log: the disk of its folder, its name, what stands before its first gate, and whether it takes groups.
pub record LogValue (D : Type 0) : Type 0 where
  pub disk : D
  pub name : Name
  pub head : List ℕ
  pub takes : Bool

-- the name's file is this head, and behind it the log of these entries and of nothing else
pub record HasLog (name : Name) (head : List ℕ) (es : List LineParts) (folder : Folder) : Type 0 where
  pub there : folder name ≡ Some (head ++ log_of es)
  pub small : HaveSmallNumbers es

-- a crash left the head, behind it the log with the group or without it, and each other file as it was
pub record IsLogPut (name : Name) (head : List ℕ) (folder : Folder) (es group : List LineParts) (c : Folder) : Type 0 where
  pub log : List ℕ
  pub there : c name ≡ Some (head ++ log)
  pub stands : StandsForEither log es group
  pub elsewhere : SameBut name folder c

module _ {D : Type 0} (m : DiskMeaning D) where
  -- Between two groups: behind its head the log is that of some entries and ends in the gate at the offset, all that is seen is on the disk, and
  -- there is no reserved name.
  pub record IsBetweenGroups (name : Name) (offset : ℕ) (disk : D) : Type 0 where
    pub head : List ℕ
    pub entries : List LineParts
    pub log : HasLog name head entries (m.seen disk)
    pub offset_is : offset ≡ length head + length (gated entries [])
    pub synced : IsSyncedDisk m disk
    pub clean : IsClean (m.seen disk)
