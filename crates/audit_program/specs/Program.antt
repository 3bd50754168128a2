-- The audit of a journal with the options of a command line.
use Rattle.std.specs.Prelude.{◌≡◌, ◌≢◌, ◌⊎◌, ℕ, Bool, true, false, List, [], length, Option, Some, None}
use Rattle.byte_io.specs.Sink.{Rises}
use Rattle.catalogue_core.specs.Replay.{Opened, History}
use Rattle.journal_file.specs.declared.sum.FileSum.{FileSum}
use Rattle.journal_file.specs.WholeText.{begins_as_journal, whole_text, wrote_word, CanBeTold, IsNotWhole, WholeJournal}
use Rattle.folders.specs.declared.named.NamedFile.{NamedFile}
use Rattle.folders.specs.Files.{IsFileOf, IsTooLong}
use Rattle.station_lines.specs.JournalLines.{lines_and}
use Rattle.audit.specs.declared.fault.AuditFault.{AuditFault}
use Rattle.audit.specs.declared.fault.AuditFault.TheVariants as fault
use Rattle.audit.specs.Audits.{IsJournalOf, RefutesAll, IsAuditFault}
use Rattle.office_run.specs.declared.fault.FileFault.TheVariants as file
use Rattle.office_run.specs.declared.fault.ServeFault.TheVariants as serve
use Rattle.office_run.specs.FileSums.{AreAllNoted}
use Rattle.office_run.specs.Loading.{Read, IsFailure, IsUnloaded}
use Rattle.office_run.specs.OpenedSetup.{IsOpenedBy, IsOpenedFrom, IsOpenFault, IsUnopened}
use Rattle.office_run.specs.WholeRun.{IsReadFault}
use Rattle.audit_program.specs.declared.audited.Audited.{Audited}
use Rattle.audit_program.specs.declared.failure.AuditFailure.{AuditFailure}
use Rattle.audit_program.specs.declared.failure.AuditFailure.TheVariants.{Serve, Unread, UnrecoveredJournal, NoJournal, CutJournal, OtherReindex, OtherFile, Audit}
use Rattle.audit_program.specs.declared.options.Options.{Options}
use Rattle.audit_program.specs.Comparing.{AreLinesOf, first_other}

-- ---- the journal

-- the file of this path has the whole text of a journal, which says this
pub record IsJournalIn (files : Option (List NamedFile)) (path : List ℕ) (journal : WholeJournal) : Type 0 where
  pub text : List ℕ
  pub found : IsFileOf files path text
  pub whole : CanBeTold journal
  pub text_is : text ≡ whole_text journal

-- the file of a path has the whole text of no journal, and begins as one or not
abbrev pub IsNoJournalIn : Option (List NamedFile) → List ℕ → Bool → Type 0
IsNoJournalIn files path begun = (text : List ℕ) × IsFileOf files path text × IsNotWhole text × (begins_as_journal text ≡ begun)

-- The journal is that of a run with the command line's options, which read the files that the setup names: of these is noted what
-- the journal tells of them.
pub record IsOfRun (files : Option (List NamedFile)) (options : Options) (journal : WholeJournal) (read : List FileSum) : Type 0 where
  pub in_file : IsJournalIn files options.journal.now journal
  pub reindex : journal.reindex ≡ options.reindex
  pub noted : AreAllNoted files options.setup.now (Some []) (Some read)
  pub same : first_other journal.read read ≡ None

-- ---- the audit

-- what is audited: these are the tables that the setup of the command line names, as a run opens them, and this is the journal
-- of a run over the files that were read
pub record IsAsked (files : Option (List NamedFile)) (options : Options) (opened : Opened) (journal : WholeJournal) (read : List FileSum) : Type 0 where
  pub tables : IsOpenedBy files options.setup.now options.reindex opened
  pub of_run : IsOfRun files options journal read

-- All entries hold: the journal's lines of entries are those of a legal history on the tables, and this is the history. It is
-- said how many there are, which files were read, and which ones the run wrote.
pub record IsAuditedTo (files : Option (List NamedFile)) (options : Options) (h : History) (audited : Audited) : Type 0 where
  pub journal : WholeJournal
  pub asked : IsAsked files options h.opened journal audited.read.items
  pub holds : IsJournalOf h.opened (lines_and journal.entries []) h.journal
  pub counted : audited.count ≡ length h.journal
  pub wrote : AreLinesOf wrote_word audited.wrote journal.wrote

-- all entries hold, and nothing is written
pub record IsAuditedBy (files : Option (List NamedFile)) (options : Options) (audited : Audited) : Type 0 where
  pub history : History
  pub all : IsAuditedTo files options history audited
  pub unwritten : audited.written.items ≡ []

-- An entry does not hold: the journal's lines of entries are those of no legal history on these tables, and up to the fault they
-- are those of one.
pub record IsRefuted (files : Option (List NamedFile)) (options : Options) (why : AuditFault) : Type 0 where
  pub opened : Opened
  pub journal : WholeJournal
  pub read : List FileSum
  pub asked : IsAsked files options opened journal read
  pub refuted : RefutesAll opened (lines_and journal.entries []) why
  pub at : IsAuditFault opened (lines_and journal.entries []) why

-- what a fault of an audit is in the program: want of memory is the same everywhere
abbrev pub audit_failure : AuditFault → AuditFailure
audit_failure fault.NoMemory = Serve serve.NoMemory
audit_failure why = Audit why

-- the run made its indexes anew, and is to be audited as one that did not, or the other way round
abbrev pub IsOtherReindex : Option (List NamedFile) → Options → Bool → Type 0
IsOtherReindex files options of_run =
    (journal : WholeJournal) × IsJournalIn files options.journal.now journal × (journal.reindex ≡ of_run) × (of_run ≢ options.reindex)

-- the run read other files than the setup names, and the first has this path
abbrev pub IsOtherFile : Option (List NamedFile) → Options → List ℕ → Type 0
IsOtherFile files options path =
    (journal : WholeJournal) × (read : List FileSum) × IsJournalIn files options.journal.now journal × (journal.reindex ≡ options.reindex)
    × AreAllNoted files options.setup.now (Some []) (Some read) × (first_other journal.read read ≡ Some path)

-- why it is not said that all entries hold
abbrev pub IsFailedBy : Option (List NamedFile) → Options → AuditFailure → Type 0
IsFailedBy files options (Serve why) = IsUnopened files options.setup.now options.reindex why
IsFailedBy files options Unread = IsUnloaded files options.journal.now file.CannotRead
IsFailedBy files options (UnrecoveredJournal path) = (path ≡ options.journal.now) × IsUnloaded files options.journal.now file.Unrecovered
IsFailedBy files options (NoJournal path) = (path ≡ options.journal.now) × IsNoJournalIn files options.journal.now false
IsFailedBy files options (CutJournal path) = (path ≡ options.journal.now) × IsNoJournalIn files options.journal.now true
IsFailedBy files options (OtherReindex of_run) = IsOtherReindex files options of_run
IsFailedBy files options (OtherFile path) = IsOtherFile files options path
IsFailedBy files options (Audit fault.NoMemory) = ⊥
IsFailedBy files options (Audit why) = IsRefuted files options why

-- ---- its steps

-- why the journal of this path is not read, and what that says of the count of loads that failed
abbrev pub IsJournalFault : Option (List NamedFile) → List ℕ → Option ℕ → Option ℕ → AuditFailure → Type 0
IsJournalFault files path before after (Serve serve.NoMemory) = Unit {0}
IsJournalFault files path before after Unread = IsUnloaded files path file.CannotRead × (Rises before after ⊎ IsTooLong files path)
IsJournalFault files path before after (UnrecoveredJournal told) = (told ≡ path) × IsUnloaded files path file.Unrecovered × (after ≡ before)
IsJournalFault files path before after why = ⊥

-- why this text is not that of a run's journal with these options
abbrev pub IsTextFault : Options → List ℕ → AuditFailure → Type 0
IsTextFault options text (Serve serve.NoMemory) = Unit {0}
IsTextFault options text (NoJournal path) = (path ≡ options.journal.now) × IsNotWhole text × (begins_as_journal text ≡ false)
IsTextFault options text (CutJournal path) = (path ≡ options.journal.now) × IsNotWhole text × (begins_as_journal text ≡ true)
IsTextFault options text (OtherReindex of_run) =
    (journal : WholeJournal) × CanBeTold journal × (text ≡ whole_text journal) × (journal.reindex ≡ of_run) × (of_run ≢ options.reindex)
IsTextFault options text why = ⊥

-- why the setup's files are not read, or are not those that were told
abbrev pub IsFilesFault : Option (List NamedFile) → List ℕ → List FileSum → AuditFailure → Type 0
IsFilesFault files setup told (Serve why) = IsReadFault files setup why
IsFilesFault files setup told (OtherFile path) = (read : List FileSum) × AreAllNoted files setup (Some []) (Some read) × (first_other told read ≡ Some path)
IsFilesFault files setup told why = ⊥

-- why the tables that were read are not opened, or not all entries hold on them
abbrev pub IsEntriesFault : Bool → Read → List ℕ → AuditFailure → Type 0
IsEntriesFault reindex read entries (Serve why) = IsOpenFault reindex read why
IsEntriesFault reindex read entries (Audit fault.NoMemory) = ⊥
IsEntriesFault reindex read entries (Audit why) = (opened : Opened) × IsOpenedFrom reindex read opened × RefutesAll opened entries why × IsAuditFault opened entries why
IsEntriesFault reindex read entries why = ⊥

-- what a failure says of the count of loads that failed
abbrev pub IsLoadFailure : Option (List NamedFile) → Options → Option ℕ → Option ℕ → AuditFailure → Type 0
IsLoadFailure files options before after (Serve why) = IsFailure files before after why
IsLoadFailure files options before after Unread = Rises before after ⊎ IsTooLong files options.journal.now
IsLoadFailure files options before after why = after ≡ before
