use Rattle.std.proofs.Common.{ℕ, ◌<◌, ◌≤◌, get_or}
use Rattle.files_in_place.specs.Folder.{Name}
use Rattle.files_in_place.specs.Disk.{OnlyReads}
use Rattle.files_in_place.proofs.disk.Disk.sync_files.Given as goal

-- the files of the names so far are on the disk
abbrev pub invariant-loop-name : goal.invariant-loop-name
invariant-loop-name g l = record {
  whole : (k : ℕ) (d : Name) → k < l.name-index → g.Self.Disk.meaning.is_whole l.self (get_or l.names k d);
  only : OnlyReads g.Self.Disk.meaning l.fn.self l.self;
  later : g.Self.Disk.meaning.faults l.fn.self ≤ g.Self.Disk.meaning.faults l.self;
}
