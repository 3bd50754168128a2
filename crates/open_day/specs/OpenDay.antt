-- Whether a day is open in a folder, and what its log has.
use Rattle.std.specs.Prelude.{◌≡◌, ◌≢◌, ◌⊎◌, ℕ, ◌-◌, ◌<◌, ◌^◌, ◌==◌, Bool, false, not, ◌||◌, bytes_eq, slice_index, List, [], ◌∷◌, ◌++◌, length, take, Option, Some, None, codes}
use Rattle.std.specs.Fmt.{decimal}
use Rattle.dbf_fields.specs.declared.format.TheConstants.{BLANK}
use Rattle.station_lines.specs.declared.script.format.TheConstants.{LF}
use Rattle.files_in_place.specs.Folder.{Name, Folder}
use Rattle.folders.specs.Paths.{name_at_end}
use Rattle.journal_file.specs.WholeText.{BeginsWithReads}
use Rattle.live_log.specs.Gates.{LineParts, StandsFor}
use Rattle.live_log.specs.declared.gates.TheConstants.{SHUT_GATE}

-- the name of the log of a live day
abbrev pub log_name : Name
log_name = codes "STATIONS.LOG"

-- the log of a day that is open: its first byte is not the shut gate
abbrev pub is_open_log : List ℕ → Bool
is_open_log log = not (slice_index log 0 == SHUT_GATE)

-- the same of the file of the log, where there is one
abbrev pub is_open_file : Option (List ℕ) → Bool
is_open_file None = false
is_open_file (Some log) = is_open_log log

-- a day is open in the folder
abbrev pub has_open_day : Folder → Bool
has_open_day folder = is_open_file (folder log_name)

-- ---- the head of a log: the lines of the files with which its day began, and one of the day that was closed before

-- the word before the number of commands of that day
abbrev pub earlier_word : List ℕ
earlier_word = codes "earlier "

-- what stands after the number and a blank
abbrev pub commands_line : List ℕ
commands_line = codes "commands" ++ LF ∷ []

-- how many commands the day had that was closed before, 0 where there was none
abbrev pub earlier_and : ℕ → List ℕ → List ℕ
earlier_and count rest = earlier_word ++ (decimal count ++ (BLANK ∷ (commands_line ++ rest)))

-- the line of it is first
pub record BeginsWithEarlier (text : List ℕ) (count : ℕ) (rest : List ℕ) : Type 0 where
  pub is : text ≡ earlier_and count rest
  pub small : count < 2 ^ 64

-- no such line is first
abbrev pub BeginsWithNoEarlier : List ℕ → Type 0
BeginsWithNoEarlier text = (count : ℕ) (rest : List ℕ) → count < 2 ^ 64 → text ≢ earlier_and count rest

-- a head is first in the log
pub record BeginsWithLogHead (log body : List ℕ) : Type 0 where
  pub counted : List ℕ
  pub reads : BeginsWithReads log counted
  pub count : ℕ
  pub told : BeginsWithEarlier counted count body

-- no head is first in it
abbrev pub BeginsWithNoLogHead : List ℕ → Type 0
BeginsWithNoLogHead log = (counted : List ℕ) (count : ℕ) (body : List ℕ) → BeginsWithReads log counted → BeginsWithEarlier counted count body → ⊥

-- what stands in a log behind its head; all of it, if it has none
abbrev pub IsBodyOf : List ℕ → List ℕ → Type 0
IsBodyOf log body = BeginsWithLogHead log body ⊎ (BeginsWithNoLogHead log × (body ≡ log))

-- ---- its entries

-- behind its head the log stands for so many entries; or for none, since it is no log, or somebody has changed it
abbrev pub IsEntryCount : List ℕ → Option ℕ → Type 0
IsEntryCount log (Some count) = (body : List ℕ) × IsBodyOf log body × (entries : List LineParts) × StandsFor body entries × (length entries ≡ count)
IsEntryCount log None = (body : List ℕ) × IsBodyOf log body × ((entries : List LineParts) → StandsFor body entries → ⊥)

-- the log of a day that was closed with so many commands
abbrev pub closed_log : ℕ → List ℕ
closed_log count = SHUT_GATE ∷ (decimal count ++ (codes " commands" ++ LF ∷ []))

-- the log is that of no day that was closed with a count of commands
abbrev pub TellsNoCount : List ℕ → Type 0
TellsNoCount log = (count : ℕ) → count < 2 ^ 64 → log ≢ closed_log count

-- how many commands the day had that was closed with this log, and 0 where the log tells no count
abbrev pub IsEarlier : List ℕ → ℕ → Type 0
IsEarlier log count = (log ≡ closed_log count) ⊎ (TellsNoCount log × (count ≡ 0))

-- the name of the mark of a day whose log lies elsewhere
abbrev pub mark_name : Name
mark_name = codes "STATIONS.DAY"

-- the path ends with the name of one of a day's own files
abbrev pub is_day_file : List ℕ → Bool
is_day_file path = bytes_eq (name_at_end path) log_name || bytes_eq (name_at_end path) mark_name

-- the path of the file of a name in the folder of a path
abbrev pub file_beside : List ℕ → Name → List ℕ
file_beside path name = take (length path - length (name_at_end path)) path ++ name

-- the path of the log in the folder of a path
abbrev pub log_beside : List ℕ → List ℕ
log_beside path = file_beside path log_name

-- the path of the mark there
abbrev pub mark_beside : List ℕ → List ℕ
mark_beside path = file_beside path mark_name
