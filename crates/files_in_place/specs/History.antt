-- Start after start.
use Rattle.std.specs.Prelude.{◌≡◌, List, [], ◌∷◌}
use Rattle.files_in_place.specs.Folder.{Name, Folder, recovered}
use Rattle.files_in_place.specs.Disk.{DiskMeaning, AfterStep}
use Rattle.files_in_place.specs.Recovery.{StillRecovers}

-- the folders have the same files
abbrev pub AreAlike : Folder → Folder → Type 0
AreAlike one other = (n : Name) → one n ≡ other n

-- Recovery began on the one disk and didn't end; the next start finds the other. What may be left there is what a crash at some
-- moment of that recovery might have left. Where the machine crashed that is one folder, and it is what is seen. Where the
-- program was stopped, or gave up, nothing of it need be on the disk.
abbrev pub IsStopped : {D : Type 0} → DiskMeaning D → D → D → Type 0
IsStopped m disk next = (c : Folder) → m.may_leave next c → AfterStep StillRecovers (m.may_leave disk) c

-- Recovery begins on the first disk and is stopped in turn, so that each next start finds the next disk, and ends in the last folder.
abbrev pub EndsAfter : {D : Type 0} → DiskMeaning D → List D → D → Folder → Type 0
EndsAfter m [] first last = AreAlike last (recovered (m.seen first))
EndsAfter m (next ∷ others) first last = IsStopped m first next × EndsAfter m others next last
