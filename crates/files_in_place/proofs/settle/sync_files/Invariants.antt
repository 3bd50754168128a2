use Rattle.std.proofs.Common.{◌≡◌, ◌≤◌, take}
use Rattle.files_in_place.specs.Folder.{Name}
use Rattle.files_in_place.specs.Disk.{Shrinks, LeavesOnly}
use Rattle.files_in_place.specs.Recovery.{AreOnDisk}
use Rattle.files_in_place.proofs.settle.sync_files.Given as goal

-- the files of the names so far are on the disk
abbrev pub invariant-loop-name : goal.invariant-loop-name
invariant-loop-name g l = record {
  whole : AreOnDisk (g.D.Disk.meaning.is_whole l.disk) (take l.name-index l.names);
  kept : (n : Name) → g.D.Disk.meaning.is_whole l.fn.disk n → g.D.Disk.meaning.is_whole l.disk n;
  seen : g.D.Disk.meaning.seen l.disk ≡ g.D.Disk.meaning.seen l.fn.disk;
  crash : Shrinks (g.D.Disk.meaning.may_leave l.fn.disk) (g.D.Disk.meaning.may_leave l.disk);
  any_moment : LeavesOnly g.D.Disk.meaning l.fn.disk l.disk (g.D.Disk.meaning.may_leave l.fn.disk);
  later : g.D.Disk.meaning.faults l.fn.disk ≤ g.D.Disk.meaning.faults l.disk;
}
