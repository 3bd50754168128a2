-- What each station was answered, by its file and by the journal.
use Rattle.std.specs.Prelude.{◌≡◌, ℕ, ◌+◌, ◌<◌, Bool, true, List, [], ◌∷◌, map, slice_get, Contains, Option, Some}
use Rattle.dbf_fields.specs.declared.day.Day.{Day}
use Rattle.catalogue_core.specs.declared.entry.Entry.{Entry}
use Rattle.catalogue_core.specs.Replay.{Opened, History}
use Rattle.shared_catalogue.specs.OwnCalls.{of_station}
use Rattle.folders.specs.declared.named.NamedFile.{NamedFile}
use Rattle.journal_file.specs.WholeText.{whole_text, CanBeTold, WholeJournal}
use Rattle.station_lines.specs.JournalLines.{line_parts}
use Rattle.office_run.specs.declared.counts.CommandCounts.{CommandCounts}
use Rattle.office_run.specs.Closing.{answer_name}
use Rattle.office_run.specs.JournalFile.{journal_file}
use Rattle.office_run.specs.Reports.{Shown, answered, status, IsReport}
use Rattle.office_run.specs.Served.{IsServed}

-- what was shown, but for the status rows
abbrev pub without_rows : List Shown → List Shown
without_rows [] = []
without_rows (answered r ∷ xs) = answered r ∷ without_rows xs
without_rows (status row ∷ xs) = without_rows xs

-- the file of a station's answers
abbrev pub answer_file : ℕ → List ℕ → NamedFile
answer_file station text = record { name = answer_name station; bytes = text }

-- The file of a station's answers is there, and its text is the report of the station's script. But for status rows it has the
-- answers to the station's entries in the journal, in order, and nothing else.
pub record HasAnswers (is_there : NamedFile → Type 0) (opened : Opened) (journal : List Entry) (station : ℕ) (script : List ℕ) : Type 0 where
  pub text : List ℕ
  pub file : is_there (answer_file station text)
  pub report : IsReport opened journal station script text
  pub answers : without_rows report.shown ≡ map answered (of_station journal station)

-- the file of each station's answers is there, of each station of a history, where these are the scripts
abbrev pub AllHaveAnswers : (NamedFile → Type 0) → History → List (List ℕ) → Type 0
AllHaveAnswers is_there h scripts =
    (i : ℕ) → i < h.opened.stations → (script : List ℕ) × (slice_get scripts i ≡ Some script) × HasAnswers is_there h.opened h.journal (i + 1) script

-- the journal's file is there, and the lines of its entries are those of these entries
pub record HasEntries (is_there : NamedFile → Type 0) (journal : List Entry) : Type 0 where
  pub told : WholeJournal
  pub whole : CanBeTold told
  pub file : is_there (journal_file (whole_text told))
  pub entries : told.entries ≡ map line_parts journal

-- the files of a run have all stations' answers
abbrev pub WritesAnswers : Option (List NamedFile) → List ℕ → Type 0
WritesAnswers files setup =
    (reindex : Bool) (today : Day) (journal : Bool) (written : List NamedFile) (counts : CommandCounts)
    (served : IsServed files setup reindex today journal written counts) → AllHaveAnswers (Contains written) served.run.history served.run.read.scripts

-- if the journal is asked for, the files of a run have the entries of its journal that were answered so
abbrev pub WritesEntries : Option (List NamedFile) → List ℕ → Type 0
WritesEntries files setup =
    (reindex : Bool) (today : Day) (written : List NamedFile) (counts : CommandCounts)
    (served : IsServed files setup reindex today true written counts) → HasEntries (Contains written) served.run.history.journal
