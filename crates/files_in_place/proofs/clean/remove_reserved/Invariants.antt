use Rattle.std.proofs.Common.{◌≤◌, take}
use Rattle.files_in_place.specs.Folder.{Name}
use Rattle.files_in_place.specs.Disk.{Steps}
use Rattle.files_in_place.specs.Recovery.{LosesReserved, AreRemoved}
use Rattle.files_in_place.proofs.clean.remove_reserved.Given as goal

-- the files of the names so far are removed
abbrev pub invariant-loop-name : goal.invariant-loop-name
invariant-loop-name g l = record {
  done : g.D.Disk.meaning.keeps_promises → AreRemoved (take l.name-index l.names) (g.D.Disk.meaning.seen l.disk);
  others : g.D.Disk.meaning.keeps_promises → LosesReserved (g.D.Disk.meaning.seen l.fn.disk) (g.D.Disk.meaning.seen l.disk);
  whole : (n : Name) → g.D.Disk.meaning.is_whole l.fn.disk n → g.D.Disk.meaning.is_whole l.disk n;
  steps : Steps g.D.Disk.meaning LosesReserved l.fn.disk l.disk;
  later : g.D.Disk.meaning.faults l.fn.disk ≤ g.D.Disk.meaning.faults l.disk;
}
