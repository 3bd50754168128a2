-- Days that are open beside the tables of a setup.
use Rattle.std.specs.Prelude.{◌≡◌, ℕ, true, false, List, [], ◌∷◌, ◌++◌, codes, Option, Some, None}
use Rattle.std.specs.Fmt.{decimal}
use Rattle.catalogue_core.specs.Names.{with_name}
use Rattle.folders.specs.declared.named.NamedFile.{NamedFile}
use Rattle.folders.specs.Files.{IsFileOf}
use Rattle.open_day.specs.OpenDay.{is_open_log, log_beside, IsEntryCount}
use Rattle.station_lines.specs.declared.script.format.TheConstants.{LF}
use Rattle.station_lines.specs.declared.setup.entry.SetupEntry.{SetupEntry}
use Rattle.station_lines.specs.declared.setup.entry.SetupEntry.TheVariants.{Table}
use Rattle.setup_files.specs.Loads.{IsRefusedLoad}
use Rattle.setup_check.specs.declared.open_days.LogFinding.{LogFinding}
use Rattle.setup_check.specs.declared.open_days.LogFinding.TheVariants.{Closed, Open, Unread}

-- ---- the logs of a setup

-- the paths, and that of the log in the folder of an entry's table, unless it is among them
abbrev pub with_log : List (List ℕ) → SetupEntry → List (List ℕ)
with_log paths (Table name dbf dbt) = with_name paths (log_beside dbf)
with_log paths entry = paths

-- the paths, and those of the logs in the folders of the tables of entries
abbrev pub with_logs : List (List ℕ) → List SetupEntry → List (List ℕ)
with_logs paths [] = paths
with_logs paths (entry ∷ entries) = with_logs (with_log paths entry) entries

-- the paths of the logs in the folders of a setup's tables, each once
abbrev pub log_paths : List SetupEntry → List (List ℕ)
log_paths entries = with_logs [] entries

-- ---- what is found

-- what is found of a log of these bytes: a day is open, and the log stands for so many commands; or no day is open
abbrev pub IsFoundOfLog : List ℕ → LogFinding → Type 0
IsFoundOfLog log (Open count) = (is_open_log log ≡ true) × IsEntryCount log count
IsFoundOfLog log Closed = is_open_log log ≡ false
IsFoundOfLog log (Unread why) = ⊥

-- What is found of the log of a path: what its bytes say, or why it was not read; and what that does to the count of loads that failed.
abbrev pub IsLogFinding : Option (List NamedFile) → List ℕ → Option ℕ → Option ℕ → LogFinding → Type 0
IsLogFinding files path before after (Unread why) = IsRefusedLoad files path before after why
IsLogFinding files path before after finding = (log : List ℕ) × IsFileOf files path log × IsFoundOfLog log finding × (after ≡ before)

-- the same of the logs of some paths, one after another
abbrev pub AreLogFindings : Option (List NamedFile) → Option ℕ → Option ℕ → List (List ℕ) → List LogFinding → Type 0
AreLogFindings files before after [] [] = after ≡ before
AreLogFindings files before after [] (finding ∷ findings) = ⊥
AreLogFindings files before after (path ∷ paths) [] = ⊥
AreLogFindings files before after (path ∷ paths) (finding ∷ findings) =
    (next : Option ℕ) × IsLogFinding files path before next finding × AreLogFindings files next after paths findings

-- ---- in words

-- what a log says that is not the one without entries
abbrev pub log_words : Option ℕ → List ℕ
log_words (Some count) = codes ": a day is open, " ++ (decimal count ++ codes " commands")
log_words None = codes ": no log of a day, or a damaged one"

-- a line for a day that is open: `DATA/STATIONS.LOG: a day is open, 17 commands`
abbrev pub day_line : List ℕ → LogFinding → List ℕ
day_line path (Open count) = path ++ (log_words count ++ LF ∷ [])
day_line path finding = []

-- the lines for days that are open, of the logs of some paths
abbrev pub day_lines : List (List ℕ) → List LogFinding → List ℕ
day_lines [] findings = []
day_lines (path ∷ paths) [] = []
day_lines (path ∷ paths) (finding ∷ findings) = day_line path finding ++ day_lines paths findings

-- the text tells what is found of the logs in the folders of a setup's tables
pub record AreDaysTold (files : Option (List NamedFile)) (before after : Option ℕ) (entries : List SetupEntry) (text : List ℕ) : Type 0 where
  pub findings : List LogFinding
  pub found : AreLogFindings files before after (log_paths entries) findings
  pub told : text ≡ day_lines (log_paths entries) findings
