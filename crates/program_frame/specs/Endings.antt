-- Why a call of a program has not done what it was asked for: the exit status, and what is printed.
use Rattle.std.specs.Prelude.{ℕ, List, ◌++◌, ◌∷◌, [], codes, Option, Some}
use Rattle.std.specs.declared.io.ErrorKind.{ErrorKind as IoKind}
use Rattle.std.specs.declared.io.ErrorKind.TheVariants as io
use Rattle.clap.specs.Words.{kind_of}
use Rattle.station_lines.specs.declared.script.format.TheConstants.{LF}
use Rattle.program_frame.specs.declared.ending.Ending.{Ending}
use Rattle.program_frame.specs.declared.ending.Ending.TheVariants as ended
use Rattle.program_frame.specs.declared.ending.Failure.{Failure}
use Rattle.program_frame.specs.declared.ending.Failure.TheVariants as failure
use Rattle.program_frame.specs.declared.folder.FolderFault.TheVariants as folder
use Rattle.program_frame.specs.declared.folder.PlaceFault.{PlaceFault}
use Rattle.program_frame.specs.declared.folder.PlaceFault.TheVariants as place
use Rattle.program_frame.specs.Reasons.{folder_reason}
use Rattle.program_frame.specs.Telling.{mistake_line, mistake_status, no_text_line, no_text_status}

-- ---- of a program that puts new files in place, where this is told of its work

-- the exit status: 1 for the date, 2 for a log that can't be read, 4 for the folder
abbrev pub failure_status : {F : Type 0} → (F → ℕ) → Failure F → ℕ
failure_status status failure.BadDate = 1
failure_status status (failure.Work fault) = status fault
failure_status status (failure.Folder (folder.UnknownDay log why)) = 2
failure_status status (failure.Folder fault) = 4

-- why such a program failed, in words
abbrev pub failure_words : {F : Type 0} → (F → List ℕ) → Failure F → List ℕ
failure_words words failure.BadDate = codes "bad date: --today wants a day like 19870315, of the years 1900 to 2155"
failure_words words (failure.Work fault) = words fault
failure_words words (failure.Folder fault) = folder_reason fault

-- the failure of such a program if new files are not in place
abbrev pub place_failure : {F : Type 0} → F → PlaceFault → Failure F
place_failure no_memory place.NoMemory = failure.Work no_memory
place_failure no_memory (place.Folder fault) = failure.Folder fault

-- ---- of any program, where this is told of a failure

-- of any program, the exit status of a call that has not done what it was asked for
abbrev pub ending_status : {F : Type 0} → (F → ℕ) → Ending F → ℕ
ending_status status ended.NoText = no_text_status
ending_status status (ended.CommandLine error) = mistake_status (kind_of error)
ending_status status (ended.Failed why) = status why

-- a line of the program of this name, its LF too
abbrev pub program_line : List ℕ → List ℕ → List ℕ
program_line program words = program ++ (codes ": " ++ (words ++ LF ∷ []))

-- of any program, the line of such a call on standard error; `None` if it is a text of `clap`
abbrev pub ending_line : {F : Type 0} → (F → List ℕ) → F → List ℕ → Ending F → Option (List ℕ)
ending_line words no_memory program ended.NoText = Some no_text_line
ending_line words no_memory program (ended.CommandLine error) = mistake_line (program_line program (words no_memory)) (kind_of error)
ending_line words no_memory program (ended.Failed why) = Some (program_line program (words why))

-- why the arguments can't be read: memory was refused, and else one is no UTF-8 text
abbrev pub unread_arguments : {F : Type 0} → F → IoKind → Ending F
unread_arguments no_memory io.OutOfMemory = ended.Failed no_memory
unread_arguments no_memory _ = ended.NoText
