-- A whole run that is asked for, with its journal's file or without.
use Rattle.std.specs.Prelude.{◌≡◌, ◌≢◌, ◌⊎◌, ◌<◌, ◌≤◌, ℕ, Bool, true, List, length, Option, None, if◌then◌else◌}
use Rattle.dbf_fields.specs.declared.day.Day.{Day}
use Rattle.catalogue_core.specs.declared.entry.Entry.{Entry}
use Rattle.office_run.specs.declared.close_fault.CloseFault.TheVariants.{Write}
use Rattle.office_run.specs.declared.closed.ClosedTable.{ClosedTable}
use Rattle.folders.specs.declared.named.NamedFile.{NamedFile}
use Rattle.folders.specs.declared.source.TheConstants.{MAX_FILE_BYTES}
use Rattle.office_run.specs.Closing.{first_blocked, run_files, IsCutAt}
use Rattle.journal_file.specs.declared.sum.FileSum.{FileSum}
use Rattle.journal_file.specs.WholeText.{CanBeTold}
use Rattle.office_run.specs.declared.asked.Asked.{Asked}
use Rattle.office_run.specs.declared.counts.CommandCounts.{CommandCounts}
use Rattle.office_run.specs.declared.fault.ServeFault.{ServeFault}
use Rattle.office_run.specs.declared.fault.ServeFault.TheVariants.{Close, NoMemory}
use Rattle.office_run.specs.Counts.{AreRefusedIn}
use Rattle.office_run.specs.JournalFile.{all_files, and_journal, journal_name, run_text, told_run, IsJournalText}
use Rattle.office_run.specs.WholeRun.{IsWholeRun}

-- ---- the files

-- the files of a run of these tables and answers: that of its journal, with this text, only where it is asked for
abbrev pub asked_files : Bool → Day → List ClosedTable → List (List ℕ) → List ℕ → List NamedFile
asked_files journal today tables answers text = if journal then all_files today tables answers text else run_files today tables answers

-- if the journal is asked for, its text says what was read, performed and written, and nothing else, and a file of it can be read
abbrev pub IsAskedText : Option (List NamedFile) → List ℕ → Bool → Bool → List Entry → List NamedFile → List ℕ → Type 0
IsAskedText files setup reindex journal entries wrote text =
    journal ≡ true → (told : IsJournalText files setup reindex entries wrote text) × CanBeTold (told_run told.read reindex entries wrote) × length text ≤ MAX_FILE_BYTES

-- the files of a run that was asked for so, of these tables, answers and entries, and of these files that it read
abbrev pub files_to_write : Asked → List ClosedTable → List (List ℕ) → List Entry → List FileSum → List NamedFile
files_to_write asked tables answers entries read =
    asked_files asked.journal asked.today tables answers (run_text read asked.reindex entries (run_files asked.today tables answers))

-- ---- the whole

-- A whole run came to its end, and these are its files: those of its tables and answers, and that of its journal if it is asked
-- for. So many commands were performed and refused, as counted, and none of the tables has more blocks than its file can have. That
-- these files stand after what was written before is `IsListedAfter` of folders.
pub record IsServed (files : Option (List NamedFile)) (setup : List ℕ) (reindex : Bool) (today : Day) (journal : Bool)
    (written : List NamedFile) (counts : CommandCounts) : Type 0 where
  pub tables : List ClosedTable
  pub answers : List (List ℕ)
  pub run : IsWholeRun files setup reindex tables answers counts.all
  pub refused : AreRefusedIn run.history counts
  pub few_blocks : first_blocked 1 tables ≡ None
  pub text : List ℕ
  pub told_text : IsAskedText files setup reindex journal run.history.journal (run_files today tables answers) text
  pub written_is : written ≡ asked_files journal today tables answers text

-- ---- faults of its writing

-- it holds unless files may be begun: a file could not be written, or memory was refused where the journal is asked for
abbrev pub UnlessBegun : Bool → ServeFault → Type 0 → Type 0
UnlessBegun journal fault holds = (journal ≡ true → fault ≢ NoMemory) → ((name : List ℕ) → fault ≢ Close (Write name)) → holds

-- the journal is asked for, this is the name of its file, and it holds
abbrev pub IsHeld : Bool → List ℕ → Type 0 → Type 0
IsHeld journal name holds = (journal ≡ true) × (name ≡ journal_name) × holds

-- No file is begun. This name is that of the journal's file, whose text has more bytes than a file that is read may have.
pub record IsHeldBack (name : List ℕ) (files : List NamedFile) (old new : Option (List ℕ)) : Type 0 where
  pub name_is : name ≡ journal_name
  pub others : List NamedFile
  pub text : List ℕ
  pub files_are : files ≡ and_journal others text
  pub long : MAX_FILE_BYTES < length text
  pub unwritten : new ≡ old

-- the file of this name could not be written, or not whole, and those before it are whole; or the journal is asked for, and all are
-- held back
abbrev pub IsUnwrittenAt : Bool → List ℕ → List NamedFile → Option (List ℕ) → Option (List ℕ) → Type 0
IsUnwrittenAt journal name files old new = IsCutAt name old new files ⊎ ((journal ≡ true) × IsHeldBack name files old new)

-- Where one of these files could not be written, those before it are whole, or all are held back. Where memory was refused none is
-- begun, or the journal is asked for, and all are whole but its own. Of other faults nothing is said.
abbrev pub IsCutFiles : Bool → List NamedFile → Option (List ℕ) → Option (List ℕ) → ServeFault → Type 0
IsCutFiles journal files old new (Close (Write name)) = IsUnwrittenAt journal name files old new
IsCutFiles journal files old new NoMemory = (new ≡ old) ⊎ ((journal ≡ true) × IsCutAt journal_name old new files)
IsCutFiles journal files old new fault = Unit {0}

-- a whole run of which the file of this name could not be written, or not whole: those before it are whole, or all are held back
pub record IsCutRunAt (files : Option (List NamedFile)) (setup : List ℕ) (reindex : Bool) (today : Day) (journal : Bool)
    (old new : Option (List ℕ)) (name : List ℕ) : Type 0 where
  pub tables : List ClosedTable
  pub answers : List (List ℕ)
  pub count : ℕ
  pub run : IsWholeRun files setup reindex tables answers count
  pub text : List ℕ
  pub told_text : journal ≡ true → IsJournalText files setup reindex run.history.journal (run_files today tables answers) text
  pub cut : IsUnwrittenAt journal name (asked_files journal today tables answers text) old new

-- Where a file of a run could not be written, those before it are whole, or all are held back. Where memory was refused none is begun, or the journal
-- is asked for, and all are whole but its own. Of other faults nothing is said.
abbrev pub IsCutRun : Option (List NamedFile) → List ℕ → Bool → Day → Bool → Option (List ℕ) → Option (List ℕ) → ServeFault → Type 0
IsCutRun files setup reindex today journal old new (Close (Write name)) = IsCutRunAt files setup reindex today journal old new name
IsCutRun files setup reindex today journal old new NoMemory =
    (new ≡ old) ⊎ ((journal ≡ true) × IsCutRunAt files setup reindex today journal old new journal_name)
IsCutRun files setup reindex today journal old new fault = Unit {0}
