-- The files of a day's end.
use Rattle.std.specs.Prelude.{◌≡◌, ◌≢◌, ◌⊎◌, ℕ, zero, suc, ◌==◌, List, [], ◌∷◌, ◌++◌, length, flat_map, Option, None, if◌then◌else◌}
use Rattle.byte_io.specs.Sink.{grown}
use Rattle.dbf_fields.specs.declared.day.Day.{Day}
use Rattle.files_in_place.specs.Folder.{Folder}
use Rattle.files_in_place.specs.Recovery.{HasOldFiles, RecoversTo}
use Rattle.folders.specs.declared.named.NamedFile.{NamedFile}
use Rattle.folders.specs.Files.{files_in, listing}
use Rattle.folders.specs.Placed.{with_files}
use Rattle.catalogue_core.specs.declared.entry.Entry.{Entry}
use Rattle.catalogue_core.specs.Replay.{History}
use Rattle.station_lines.specs.AnswerLines.{line_of}
use Rattle.station_lines.specs.declared.script.format.TheConstants.{LF}
use Rattle.open_day.specs.OpenDay.{closed_log, log_name}
use Rattle.office_run.specs.declared.closed.ClosedTable.{ClosedTable}
use Rattle.office_run.specs.Closing.{answer_name, first_blocked}
use Rattle.office_run.specs.HandedOver.{AreHandedOver}
use Rattle.office_run.specs.TablesWritten.{dated_files}
use Rattle.live_program.specs.declared.closing.DayEnd.{DayEnd}

-- the line of an entry's answer, where the entry is the station's
abbrev pub own_line : ℕ → Entry → List ℕ
own_line station e = if e.station == station then line_of e.answer ++ LF ∷ [] else []

-- the lines of a station's answers in a journal
abbrev pub answers_in : ℕ → List Entry → List ℕ
answers_in station journal = flat_map (own_line station) journal

-- the one file of this name, with these bytes
abbrev pub file_of_bytes : List ℕ → List ℕ → List NamedFile
file_of_bytes name bytes = record { name = name; bytes = bytes } ∷ []

-- the files of the answers of the first so many stations
abbrev pub answer_files_of : ℕ → List Entry → List NamedFile
answer_files_of zero journal = []
answer_files_of (suc n) journal = answer_files_of n journal ++ file_of_bytes (answer_name (suc n)) (answers_in (suc n) journal)

-- the file of the log of a day that was closed with so many commands
abbrev pub closed_log_file : ℕ → List NamedFile
closed_log_file count = file_of_bytes log_name (closed_log count)

-- The files of the end of a day that has commands: those of the tables and indexes at the journal's end, dated, of each station's answers,
-- and the closed log, which tells how many commands there are. None of the tables has more blocks than its file can have.
pub record AreDayFiles (h : History) (today : Day) (files : List NamedFile) : Type 0 where
  pub tables : List ClosedTable
  pub handed : AreHandedOver h tables
  pub few_blocks : first_blocked 1 tables ≡ None
  pub files_are : files ≡ dated_files today tables ++ (answer_files_of h.opened.stations h.journal ++ closed_log_file (length h.journal))

-- these files stand after what was written before
pub record AreFilesWritten (h : History) (today : Day) (old new : Option (List ℕ)) : Type 0 where
  pub files : List NamedFile
  pub such : AreDayFiles h today files
  pub written : new ≡ grown old (listing files)
  pub told : files_in (listing files) ≡ files

-- The files of a day's end. Where the day has no command it is the closed log alone, which tells still of the day before it: the files of
-- tables and answers stay as they are.
abbrev pub AreEndFiles : History → DayEnd → List NamedFile → Type 0
AreEndFiles h end files = ((h.journal ≡ []) × (files ≡ closed_log_file end.earlier)) ⊎ ((h.journal ≢ []) × AreDayFiles h end.today files)

-- the files of a day's end stand after what was written before
pub record AreDayWritten (h : History) (end : DayEnd) (old new : Option (List ℕ)) : Type 0 where
  pub files : List NamedFile
  pub such : AreEndFiles h end files
  pub written : new ≡ grown old (listing files)
  pub told : files_in (listing files) ≡ files

-- the folder has these files in their places, the closed log among them, and each other file as it was
pub record IsDayPlaced (h : History) (end : DayEnd) (old new : Folder) : Type 0 where
  pub files : List NamedFile
  pub such : AreEndFiles h end files
  pub placed : (n : List ℕ) → new n ≡ with_files files old n

-- what a crash leaves stands for the old files, their log among them, or for those of the day's end, the closed log among them
abbrev pub IsOldOrDay : History → DayEnd → Folder → Folder → Type 0
IsOldOrDay h end old left = HasOldFiles old left ⊎ ((files : List NamedFile) × AreEndFiles h end files × RecoversTo (with_files files old) left)
