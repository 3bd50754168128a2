-- A run that is started again and again, whatever crashes meanwhile.
use Rattle.std.specs.Prelude.{◌≡◌, ◌⊎◌, List, [], ◌∷◌, Option, Result, map}
use Rattle.std.specs.List.{AllByRecursion}
use Rattle.files_in_place.specs.Disk.{DiskMeaning}
use Rattle.files_in_place.specs.Folder.{Name, Folder, recovered}
use Rattle.files_in_place.specs.History.{AreAlike}
use Rattle.files_in_place.specs.Recovery.{RecoversTo}
use Rattle.program_frame.specs.declared.ending.Failure.{Failure}
use Rattle.program_frame.specs.Jobs.{AreFilesOf}
use Rattle.program_frame.specs.Placing.{EndsInPlace, RecoversAsOneOf}
use Rattle.folders.specs.declared.named.NamedFile.{NamedFile}
use Rattle.folders.specs.Placed.{names_of, with_files}
use Rattle.office_run.specs.declared.fault.ServeFault.{ServeFault}
use Rattle.server_program.specs.declared.options.Options.{Options}
use Rattle.server_program.specs.declared.served.Served.{Served}
use Rattle.server_program.specs.Program.{IsServedBy}

-- the files that a run reads, where they are known
abbrev pub Input : Type 0
Input = Option (List NamedFile)

-- a run of these options on this input came to its end, and these are its files
abbrev pub IsSetOf : Options → Input → List NamedFile → Type 0
IsSetOf options input set = AreFilesOf (IsServedBy input options) set

-- a start of a run: what the run reads, and the disk that the next start finds
pub record Start (D : Type 0) : Type 0 where
  pub input : Input
  pub next : D

-- what each of the runs reads
abbrev pub inputs_of : {D : Type 0} → List (Start D) → List Input
inputs_of starts = map (λ start. start.input) starts

-- A run of these options was started on the one disk, and the next start finds the other. What may be left there is what a crash
-- might have left at some moment of that run, or after it: the run may have come to its end, have failed or have been cut off.
pub record IsStartedAgain {D : Type 0} (m : DiskMeaning D) (options : Options) (input : Input) (start next : D) : Type 0 where
  pub end : D
  pub ended : Result Served (Failure ServeFault)
  pub ends : EndsInPlace m (IsServedBy input options) (RecoversAsOneOf (m.may_leave start)) (recovered (m.seen start)) start end ended
  pub left : (c : Folder) → m.may_leave next c → m.left_since end (m.moment start) c

-- A run of these options was started on the first disk, and one on each that was found, in turn, and at last the folder was recovered.
abbrev pub EndsAfterStarts : {D : Type 0} → DiskMeaning D → Options → List (Start D) → D → Folder → Type 0
EndsAfterStarts m options [] first last = AreAlike last (recovered (m.seen first))
EndsAfterStarts m options (start ∷ others) first last =
    IsStartedAgain m options start.input first start.next × EndsAfterStarts m options others start.next last

-- whatever a crash may leave now, recovery makes these files of it
abbrev pub StandsFor : {D : Type 0} → DiskMeaning D → Folder → D → Type 0
StandsFor m old disk = (c : Folder) → m.may_leave disk c → RecoversTo old c

-- Of runs of these options on these inputs each in turn left the folder as it was, or put all its files into it.
abbrev pub HasWholeSets : Options → List Input → Folder → Folder → Type 0
HasWholeSets options [] old last = AreAlike last old
HasWholeSets options (input ∷ others) old last =
    HasWholeSets options others old last ⊎ ((set : List NamedFile) × IsSetOf options input set × HasWholeSets options others (with_files set old) last)

-- on each of these inputs a run of these options writes files of these names
abbrev pub WriteNames : Options → List Name → List Input → Type 0
WriteNames options names inputs = AllByRecursion (λ input. (set : List NamedFile) → IsSetOf options input set → names_of set ≡ names) inputs

-- the folder has the old files, or all those of one of the runs
abbrev pub HasOldOrOneSet : Options → List Input → Folder → Folder → Type 0
HasOldOrOneSet options [] old last = AreAlike last old
HasOldOrOneSet options (input ∷ others) old last =
    HasOldOrOneSet options others old last ⊎ ((set : List NamedFile) × IsSetOf options input set × AreAlike last (with_files set old))
