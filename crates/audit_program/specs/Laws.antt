-- What an audit says of the journal that a run has written.
use Rattle.std.specs.Prelude.{◌≡◌, ◌⊎◌, ℕ, ◌^◌, ◌<◌, Bool, true, List, [], length, map, Option, Some}
use Rattle.byte_io.specs.Sink.{Rises}
use Rattle.catalogue_core.specs.declared.entry.Entry.{Entry}
use Rattle.catalogue_core.specs.Replay.{Opened, History}
use Rattle.dbf_fields.specs.declared.day.Day.{Day}
use Rattle.journal_file.specs.WholeText.{whole_text, wrote_word, CanBeTold, IsNotWhole, WholeJournal}
use Rattle.folders.specs.declared.named.NamedFile.{NamedFile}
use Rattle.folders.specs.Files.{IsFileOf, IsTooLong}
use Rattle.station_lines.specs.JournalLines.{journal_text, line_parts, lines_and}
use Rattle.audit.specs.declared.fault.AuditFault.{AuditFault}
use Rattle.audit.specs.declared.fault.AuditFault.TheVariants.{Differs, NoMemory}
use Rattle.audit.specs.declared.fault.Difference.{Difference}
use Rattle.audit.specs.Audits.{IsJournalOf, RefutesAll}
use Rattle.audit.specs.FirstOther.{CanBeAudited, IsFirstOther}
use Rattle.office_run.specs.declared.counts.CommandCounts.{CommandCounts}
use Rattle.office_run.specs.declared.fault.FileFault.TheVariants as file
use Rattle.office_run.specs.declared.fault.ServeFault.TheVariants as serve
use Rattle.office_run.specs.JournalFile.{journal_file}
use Rattle.office_run.specs.OpenedSetup.{IsOpenedBy, HaveStill}
use Rattle.office_run.specs.Served.{IsServed}
use Rattle.audit_program.specs.declared.audited.Audited.{Audited}
use Rattle.audit_program.specs.declared.failure.AuditFailure.{AuditFailure}
use Rattle.audit_program.specs.declared.failure.AuditFailure.TheVariants.{Serve, Unread, NoJournal, CutJournal, OtherReindex, OtherFile, Audit}
use Rattle.audit_program.specs.declared.options.Options.{Options}
use Rattle.audit_program.specs.Comparing.{IfLinesOf, are_of_run}
use Rattle.audit_program.specs.Program.{IsAuditedTo, IsFailedBy, IsJournalIn, IsLoadFailure}
use Rattle.audit_program.specs.Writing.{IsWrittenBy}

-- the bytes of the journal's file of a run
abbrev pub journal_bytes : {files : Option (List NamedFile)} {setup : List ℕ} {reindex : Bool} {today : Day} {written : List NamedFile} {counts : CommandCounts}
    → IsServed files setup reindex today true written counts → List ℕ
journal_bytes served = (journal_file served.text).bytes

-- The run's tables are opened as an audit opens those of its setup.
abbrev pub OpensAsAnAudit : Option (List NamedFile) → List ℕ → Type 0
OpensAsAnAudit files setup =
    (reindex : Bool) (today : Day) (written : List NamedFile) (counts : CommandCounts) (served : IsServed files setup reindex today true written counts)
    → IsOpenedBy files setup reindex served.run.history.opened

-- the last file of a run whose journal is written has a journal's whole text
abbrev pub WritesAWholeText : Option (List NamedFile) → List ℕ → Type 0
WritesAWholeText files setup =
    (reindex : Bool) (today : Day) (written : List NamedFile) (counts : CommandCounts) (served : IsServed files setup reindex today true written counts)
    → IsNotWhole (journal_bytes served) → ⊥

-- What this text tells is that the indexes were made anew or not as the run made them, and its lines of entries are the journal
-- of a legal history on the tables as they were opened, and each of its commands is one that a line of a script means: that of the
-- run.
abbrev pub WritesAJournal : Option (List NamedFile) → List ℕ → Type 0
WritesAJournal files setup =
    (reindex : Bool) (today : Day) (written : List NamedFile) (counts : CommandCounts) (served : IsServed files setup reindex today true written counts)
    → (journal : WholeJournal) → CanBeTold journal → journal_bytes served ≡ whole_text journal
    → (journal.reindex ≡ reindex) × IsJournalOf served.run.history.opened (lines_and journal.entries []) served.run.history.journal

-- No audit of these lines on these tables finds an entry that does not hold: where not all hold, memory was refused.
abbrev pub HoldsInAudits : Option (List NamedFile) → List ℕ → Type 0
HoldsInAudits files setup =
    (reindex : Bool) (today : Day) (written : List NamedFile) (counts : CommandCounts) (served : IsServed files setup reindex today true written counts)
    → (journal : WholeJournal) → CanBeTold journal → journal_bytes served ≡ whole_text journal
    → (fault : AuditFault) → RefutesAll served.run.history.opened (lines_and journal.entries []) fault → fault ≡ NoMemory

-- it is said that the journal is none, or that of another run, or that an entry does not hold
abbrev pub IsRefutation : AuditFailure → Type 0
IsRefutation (NoJournal path) = Unit {0}
IsRefutation (CutJournal path) = Unit {0}
IsRefutation (OtherReindex of_run) = Unit {0}
IsRefutation (OtherFile path) = Unit {0}
IsRefutation (Audit why) = Unit {0}
IsRefutation why = ⊥

-- The program, if it is given the journal's file of the run and the files of the run as they were, among others, and the run's
-- options, never says that an entry does not hold, nor that the journal is none, is cut or is another run's.
abbrev pub NeverRefutes : List NamedFile → List NamedFile → Options → Type 0
NeverRefutes files later options =
    (today : Day) (written : List NamedFile) (counts : CommandCounts) (served : IsServed (Some files) options.setup.now options.reindex today true written counts)
    → HaveStill files later → IsFileOf (Some later) options.journal.now (journal_bytes served)
    → (why : AuditFailure) → IsRefutation why → IsFailedBy (Some later) options why → ⊥

-- it is said that memory was refused; or that a file can't be read, and a load has failed, or a file of the setup is over the limit
abbrev pub IsOfMemoryOrLoads : Option (List NamedFile) → Option ℕ → Option ℕ → AuditFailure → Type 0
IsOfMemoryOrLoads files before after (Serve serve.NoMemory) = Unit {0}
IsOfMemoryOrLoads files before after (Serve (serve.File path file.CannotRead)) = Rises before after ⊎ IsTooLong files path
IsOfMemoryOrLoads files before after Unread = Rises before after
IsOfMemoryOrLoads files before after why = ⊥

-- Over the run's files, with the run's options, the program fails for nothing but memory that was refused, or a file that can't be
-- read.
abbrev pub FailsForLoadsAlone : List NamedFile → List NamedFile → Options → Type 0
FailsForLoadsAlone files later options =
    (today : Day) (written : List NamedFile) (counts : CommandCounts)
    (served : IsServed (Some files) options.setup.now options.reindex today true written counts)
    → HaveStill files later → IsFileOf (Some later) options.journal.now (journal_bytes served)
    → (before after : Option ℕ) (why : AuditFailure) → IsFailedBy (Some later) options why → IsLoadFailure (Some later) options before after why
    → IsOfMemoryOrLoads (Some later) before after why

-- The files that it writes then with the run's date are the run's, where the stations and the bytes of the entries' lines are
-- counted by numbers of 64 bits.
abbrev pub WritesTheSame : List NamedFile → List NamedFile → Options → Type 0
WritesTheSame files later options =
    (today : Day) (written : List NamedFile) (counts : CommandCounts) (served : IsServed (Some files) options.setup.now options.reindex today true written counts)
    → HaveStill files later → IsFileOf (Some later) options.journal.now (journal_bytes served)
    → served.run.history.opened.stations < 2 ^ 64 → length (journal_text served.run.history.journal) < 2 ^ 64
    → (made : List NamedFile) (audited : Audited) → IsWrittenBy (Some later) options today made audited
    → IfLinesOf wrote_word audited.wrote (λ wrote. are_of_run wrote audited.written.items ≡ true)

-- ---- a journal that was changed

-- the file of this path has a journal's whole text, whose lines of entries are those of these entries
pub record TellsEntriesOf (files : List NamedFile) (path : List ℕ) (entries : List Entry) : Type 0 where
  pub journal : WholeJournal
  pub in_file : IsJournalIn (Some files) path journal
  pub lines : journal.entries ≡ map line_parts entries

-- Where the tables open so, and the journal has these entries, of which this is the first that does not hold, then the program, where it
-- says of the journal that an entry does not hold, says this.
abbrev pub NamesTheFirst : List NamedFile → Options → Type 0
NamesTheFirst files options =
    (opened : Opened) (entries : List Entry) (d : Difference) → IsOpenedBy (Some files) options.setup.now options.reindex opened
    → TellsEntriesOf files options.journal.now entries → CanBeAudited opened entries → IsFirstOther opened entries d
    → (why : AuditFault) → IsFailedBy (Some files) options (Audit why) → why ≡ Differs d

-- And the program never says that all hold.
abbrev pub NeverPasses : List NamedFile → Options → Type 0
NeverPasses files options =
    (opened : Opened) (entries : List Entry) (d : Difference) → IsOpenedBy (Some files) options.setup.now options.reindex opened
    → TellsEntriesOf files options.journal.now entries → CanBeAudited opened entries → IsFirstOther opened entries d
    → (h : History) (audited : Audited) → ¬ IsAuditedTo (Some files) options h audited
