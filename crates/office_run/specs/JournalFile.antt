-- The journal as the last file of a run.
use Rattle.std.specs.Prelude.{◌≡◌, ℕ, Bool, List, [], ◌∷◌, ◌++◌, codes, map, Option, Some}
use Rattle.dbf_fields.specs.declared.day.Day.{Day}
use Rattle.byte_io.specs.Output.{Puts}
use Rattle.byte_io.specs.declared.sink.writer.SinkWriter.{SinkWriter}
use Rattle.catalogue_core.specs.declared.entry.Entry.{Entry}
use Rattle.office_run.specs.declared.close_fault.CloseFault.TheVariants.{Write}
use Rattle.office_run.specs.declared.closed.ClosedTable.{ClosedTable}
use Rattle.folders.specs.declared.named.NamedFile.{NamedFile}
use Rattle.office_run.specs.Closing.{run_files}
use Rattle.station_lines.specs.JournalLines.{line_parts, journal_text, HaveSmallNumbers}
use Rattle.journal_file.specs.declared.sum.FileSum.{FileSum}
use Rattle.journal_file.specs.WholeText.{whole_text, WholeJournal}
use Rattle.office_run.specs.declared.fault.ServeFault.{ServeFault}
use Rattle.office_run.specs.declared.journal.JournalText.{JournalText}
use Rattle.office_run.specs.declared.fault.ServeFault.TheVariants.{Close, NoMemory}
use Rattle.office_run.specs.FileSums.{AreAllNoted, sum_of_named}

-- ---- the file

-- its name, which is that of no table, memo, index or answer file
abbrev pub journal_name : List ℕ
journal_name = codes "JOURNAL.TXT"

-- a file of this name, with this text
abbrev pub journal_under : List ℕ → List ℕ → NamedFile
journal_under name text = record { name = name; bytes = text }

-- the file JOURNAL.TXT with a text
abbrev pub journal_file : List ℕ → NamedFile
journal_file text = journal_under journal_name text

-- these files, and the journal's with this text after them
abbrev pub and_journal : List NamedFile → List ℕ → List NamedFile
and_journal files text = files ++ journal_file text ∷ []

-- the files of a run, and the journal's with this text after them
abbrev pub all_files : Day → List ClosedTable → List (List ℕ) → List ℕ → List NamedFile
all_files today tables answers text = and_journal (run_files today tables answers) text

-- what the journal of a run tells: the files that it read, whether it made the indexes anew, its entries, and the other files
-- that it wrote
abbrev pub told_run : List FileSum → Bool → List Entry → List NamedFile → WholeJournal
told_run read reindex journal wrote = record { read = read; reindex = reindex; entries = map line_parts journal; wrote = map sum_of_named wrote }

-- the text of the journal of a run
abbrev pub run_text : List FileSum → Bool → List Entry → List NamedFile → List ℕ
run_text read reindex journal wrote = whole_text (told_run read reindex journal wrote)

-- The text of a run's journal: of the setup and of each file that it names how many bytes were read and their digest, the
-- entries, and of each file that is written the same as of those that were read.
pub record IsJournalText (files : Option (List NamedFile)) (setup : List ℕ) (reindex : Bool) (journal : List Entry) (wrote : List NamedFile) (text : List ℕ) : Type 0 where
  pub read : List FileSum
  pub noted : AreAllNoted files setup (Some []) (Some read)
  pub text_is : text ≡ run_text read reindex journal wrote

-- ---- writing it

-- the text of these parts: what stands before the lines of the entries, these lines, and what stands after them
abbrev pub parts_text : JournalText → List ℕ
parts_text parts = parts.head.now ++ (journal_text parts.entries.now ++ parts.tail.now)

-- the numbers in the lines of the entries are of 64 bits
abbrev pub HaveSmallEntries : JournalText → Type 0
HaveSmallEntries parts = HaveSmallNumbers (map line_parts parts.entries.now)

-- a front part of these bytes was put into a writer, and this is left of them
pub record PutsAllBut {S : Type 0} {g : _} (old : SinkWriter S g) (bytes left : List ℕ) (new : SinkWriter S g) : Type 0 where
  pub front : List ℕ
  pub whole : front ++ left ≡ bytes
  pub put : Puts old front new

-- a front part of these bytes was put into a writer
abbrev pub PutsFront : {S : Type 0} {g : _} → SinkWriter S g → List ℕ → SinkWriter S g → Type 0
PutsFront old bytes new = (left : List ℕ) × PutsAllBut old bytes left new

-- why the journal's file is not written, or not whole: the folder failed at it, or memory was refused
abbrev pub IsJournalFault : ServeFault → Type 0
IsJournalFault NoMemory = Unit {0}
IsJournalFault (Close (Write name)) = name ≡ journal_name
IsJournalFault fault = ⊥
