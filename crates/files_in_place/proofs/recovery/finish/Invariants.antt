use Rattle.std.proofs.Common.{◌≡◌, ◌≤◌, take}
use Rattle.files_in_place.specs.Folder.{Name}
use Rattle.files_in_place.specs.Disk.{Steps}
use Rattle.files_in_place.specs.Recovery.{KeepsRecovery, CanRename, AreRenamed}
use Rattle.files_in_place.proofs.recovery.finish.Given as goal

-- the files of the names so far have their names
abbrev pub invariant-loop-name : goal.invariant-loop-name
invariant-loop-name g l = record {
  counted : l.place ≡ l.name-index;
  done : g.D.Disk.meaning.keeps_promises → AreRenamed (take l.name-index l.names) (g.D.Disk.meaning.seen l.disk);
  keeps : g.D.Disk.meaning.keeps_promises → KeepsRecovery (g.D.Disk.meaning.seen l.fn.disk) (g.D.Disk.meaning.seen l.disk);
  can : g.D.Disk.meaning.keeps_promises → CanRename (g.D.Disk.meaning.seen l.disk) (g.D.Disk.meaning.may_leave l.disk);
  whole : g.D.Disk.meaning.keeps_promises → (n : Name) → g.D.Disk.meaning.is_whole l.fn.disk n → g.D.Disk.meaning.is_whole l.disk n;
  steps : g.D.Disk.meaning.keeps_promises → Steps g.D.Disk.meaning KeepsRecovery l.fn.disk l.disk;
  later : g.D.Disk.meaning.faults l.fn.disk ≤ g.D.Disk.meaning.faults l.disk;
}
