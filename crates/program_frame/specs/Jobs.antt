-- Why the files of a program's work are not in place.
use Rattle.std.specs.Prelude.{◌≡◌, ◌⊎◌, Bool, true, List, Option, Some, Result, Err, IsOk}
use Rattle.files_in_place.specs.declared.faults.SetFault.{SetFault}
use Rattle.files_in_place.specs.declared.faults.SetFault.TheVariants as set
use Rattle.folders.specs.declared.named.NamedFile.{NamedFile}
use Rattle.program_frame.specs.declared.ending.Failure.{Failure}
use Rattle.program_frame.specs.declared.ending.Failure.TheVariants as failure
use Rattle.program_frame.specs.declared.folder.FolderFault.{FolderFault}
use Rattle.program_frame.specs.declared.folder.FolderFault.TheVariants as folder
use Rattle.program_frame.specs.PlaceFaults.{IsOfRecovery}

-- the work of a program came to its end, with these files and this report
abbrev pub ComesToItsEnd : {R : Type 0} → (List NamedFile → R → Type 0) → Type 0
ComesToItsEnd {R} writes = (files : List NamedFile) × (report : R) × writes files report

-- these are the files of work that came to its end
abbrev pub AreFilesOf : {R : Type 0} → (List NamedFile → R → Type 0) → List NamedFile → Type 0
AreFilesOf {R} writes files = (report : R) × writes files report

-- why a folder that was locked and opened has not got the files: it was not recovered, a day is open in it or where the work reads, or
-- that is not known; or the work came to its end and its files were not put in place
abbrev pub IsFolderFault : Type 0 → FolderFault → Type 0
IsFolderFault ended folder.InUse = ⊥
IsFolderFault ended folder.Unopened = ⊥
IsFolderFault ended folder.Unrecovered = Unit {0}
IsFolderFault ended folder.BadList = Unit {0}
IsFolderFault ended (folder.Unreplaced name) = Unit {0}
IsFolderFault ended folder.DayOpen = Unit {0}
IsFolderFault ended (folder.UnknownDay log why) = Unit {0}
IsFolderFault ended folder.Unwritten = ended
IsFolderFault ended folder.Unfinished = ended

-- why the files are not in place, where this says of the work that it came to its end: memory was refused, the work failed, or the
-- folder has not got them
abbrev pub IsPlaceFailure : {F : Type 0} → (F → Type 0) → F → Type 0 → Failure F → Type 0
IsPlaceFailure fails no_memory ended failure.BadDate = ⊥
IsPlaceFailure fails no_memory ended (failure.Work fault) = (fault ≡ no_memory) ⊎ fails fault
IsPlaceFailure fails no_memory ended (failure.Folder why) = IsFolderFault ended why

-- what a failure says of the count of loads that failed, where no load has failed unless the work says so
abbrev pub IsLoadFailure : {F : Type 0} → (F → Type 0) → F → Type 0 → Failure F → Type 0
IsLoadFailure loads no_memory same (failure.Work fault) = (fault ≡ no_memory) ⊎ loads fault
IsLoadFailure loads no_memory same why = same

-- why work failed, if its folder lacked memory, by what the folder says of its last call that failed: a file that was not written
-- out of memory is no fault of the disk
abbrev pub given_up : {F : Type 0} → Bool → F → Option SetFault → F → F
given_up true no_memory (Some set.NoMemory) fault = no_memory
given_up is_unwritten no_memory why fault = fault

-- why work into the folder of a path failed, where this says of it that it came to its end: also since the folder can't be had
abbrev pub IsRunFailure : {F : Type 0} → (F → Type 0) → F → Type 0 → Failure F → Type 0
IsRunFailure fails no_memory ended (failure.Folder folder.InUse) = Unit {0}
IsRunFailure fails no_memory ended (failure.Folder folder.Unopened) = Unit {0}
IsRunFailure fails no_memory ended why = IsPlaceFailure fails no_memory ended why

-- why a folder was not recovered: memory was refused, or the disk failed, or it has another's list
abbrev pub IsUnrecovered : {F : Type 0} → F → Failure F → Type 0
IsUnrecovered no_memory failure.BadDate = ⊥
IsUnrecovered no_memory (failure.Work fault) = fault ≡ no_memory
IsUnrecovered no_memory (failure.Folder why) = IsOfRecovery why

-- why work was not begun in a folder: a day is open in it, or it was not recovered
abbrev pub IsUnbegun : {F : Type 0} → F → Failure F → Type 0
IsUnbegun no_memory (failure.Folder folder.DayOpen) = Unit {0}
IsUnbegun no_memory why = IsUnrecovered no_memory why

-- why work did not come to its end, or was not begun: it failed so, memory was refused, or the folder was not such
abbrev pub IsStopped : {F : Type 0} → (F → Type 0) → F → Failure F → Type 0
IsStopped fails no_memory why = IsPlaceFailure fails no_memory ⊥ why

-- why the files of work are not in place that ended so: it failed for this, or memory was refused; or it came to its end
abbrev pub IsFailureOf : {R F : Type 0} → Result R F → F → Failure F → Type 0
IsFailureOf ended no_memory failure.BadDate = ⊥
IsFailureOf ended no_memory (failure.Work fault) = (fault ≡ no_memory) ⊎ (ended ≡ Err fault)
IsFailureOf ended no_memory (failure.Folder why) = IsOk ended
