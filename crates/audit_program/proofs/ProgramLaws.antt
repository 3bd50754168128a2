-- What a command line asked for, and what came of it.
use Rattle.std.proofs.Common.{◌≡◌, ℕ, Bool, List, [], Option, Some, None, Result, Ok, Err, sym, subst, ◌∙◌}
use Rattle.std.specs.Prelude.{IfErr, IsErrAnd}
use Rattle.catalogue_core.specs.Replay.{Opened}
use Rattle.journal_file.specs.declared.cutting.JournalParts.{JournalParts}
use Rattle.journal_file.specs.declared.sum.FileSum.{FileSum}
use Rattle.journal_file.specs.WholeText.{read_word, IsCutInto}
use Rattle.folders.specs.declared.named.NamedFile.{NamedFile}
use Rattle.folders.specs.Files.{IsFileOf}
use Rattle.audit.specs.declared.fault.AuditFault.{AuditFault}
use Rattle.audit.specs.declared.fault.AuditFault.TheVariants as fault
use Rattle.audit.specs.Audits.{RefutesAll, IsAuditFault}
use Rattle.office_run.specs.declared.fault.ServeFault.{ServeFault}
use Rattle.office_run.specs.declared.fault.ServeFault.TheVariants as serve
use Rattle.office_run.specs.FileSums.{AreAllNoted}
use Rattle.office_run.specs.Loading.{Read}
use Rattle.office_run.specs.OpenedSetup.{IsOpenedFrom, IsOpenFault, IsUnopened}
use Rattle.office_run.specs.WholeRun.{IsAllRead}
use Rattle.audit_program.specs.declared.failure.AuditFailure.{AuditFailure}
use Rattle.audit_program.specs.declared.failure.AuditFailure.TheVariants.{Serve, Unread, UnrecoveredJournal, NoJournal, CutJournal, OtherReindex, OtherFile, Audit}
use Rattle.audit_program.specs.declared.options.Options.{Options}
use Rattle.audit_program.specs.Comparing.{AreLinesOf, first_other}
use Rattle.audit_program.specs.Program.{IsJournalIn, IsAsked, IsRefuted, IsFailedBy, IsEntriesFault}

-- the failure that `?` hands on
pub err_exit : {T : Type 0} {failure : AuditFailure} (r : Result T AuditFailure) (P : AuditFailure → Type 0) → IsErrAnd r (λ y. y ≡ failure) → P failure → IfErr r P
err_exit (Ok x) P h p = absurd h
err_exit (Err y) P h p = subst P (sym h) p

-- ---- a journal that was cut into its parts

-- the lines of the files that the run read
pub read_lines : (text : List ℕ) (parts : JournalParts) (cut : IsCutInto text parts) → AreLinesOf read_word parts.read.now cut.journal.read
read_lines text parts cut = record { are = cut.whole.read; is = cut.read }

pub journal_in : (files : Option (List NamedFile)) (path text : List ℕ) (parts : JournalParts) (cut : IsCutInto text parts) → IsFileOf files path text → IsJournalIn files path cut.journal
journal_in files path text parts cut found = record { text = text; found = found; whole = cut.whole; text_is = cut.text_is }

-- ---- the entries

-- what was read is of a run with this journal, and opens as these tables
pub asked : (files : Option (List NamedFile)) (options : Options) (text : List ℕ) (parts : JournalParts) (cut : IsCutInto text parts) (read : Read) (sums : List FileSum) (opened : Opened) → IsFileOf files options.journal.now text
    → parts.reindex ≡ options.reindex → IsAllRead files options.setup.now read → AreAllNoted files options.setup.now (Some []) (Some sums) → first_other cut.journal.read sums ≡ None → IsOpenedFrom options.reindex read opened
    → IsAsked files options opened cut.journal sums
asked files options text parts cut read sums opened found same all noted none from = record {
  tables = record { read = read; all = all; from = from };
  of_run = record { in_file = journal_in files options.journal.now text parts cut found; reindex = sym cut.reindex ∙ same; noted = noted; same = none };
}

unopened_tables : (files : Option (List NamedFile)) (setup : List ℕ) (reindex : Bool) (read : Read) (why : ServeFault) → IsAllRead files setup read → IsOpenFault reindex read why → IsUnopened files setup reindex why
unopened_tables files setup reindex read (serve.Setup bad) all h = absurd h
unopened_tables files setup reindex read (serve.File p f) all h = absurd h
unopened_tables files setup reindex read (serve.Refused f) all h = (read, all, h)
unopened_tables files setup reindex read (serve.Run f) all h = absurd h
unopened_tables files setup reindex read (serve.Close f) all h = absurd h
unopened_tables files setup reindex read serve.NoMemory all h = tt

module _ (files : Option (List NamedFile)) (options : Options) (text : List ℕ) (parts : JournalParts) (cut : IsCutInto text parts) (read : Read) (sums : List FileSum) (found : IsFileOf files options.journal.now text)
    (same : parts.reindex ≡ options.reindex) (all : IsAllRead files options.setup.now read) (noted : AreAllNoted files options.setup.now (Some []) (Some sums)) (none : first_other cut.journal.read sums ≡ None) where
  refuted_entries : (why : AuditFault) (opened : Opened) → IsOpenedFrom options.reindex read opened → RefutesAll opened parts.entries.now why → IsAuditFault opened parts.entries.now why → IsRefuted files options why
  refuted_entries why opened from refuted at = record {
    opened = opened;
    journal = cut.journal;
    read = sums;
    asked = asked files options text parts cut read sums opened found same all noted none from;
    refuted = subst (λ (lines : List ℕ). RefutesAll opened lines why) cut.entries refuted;
    at = subst (λ (lines : List ℕ). IsAuditFault opened lines why) cut.entries at;
  }

  pub failed_entries : (why : AuditFailure) → IsEntriesFault options.reindex read parts.entries.now why → IsFailedBy files options why
  failed_entries (Serve f) h = unopened_tables files options.setup.now options.reindex read f all h
  failed_entries Unread h = absurd h
  failed_entries (UnrecoveredJournal path) h = absurd h
  failed_entries (NoJournal path) h = absurd h
  failed_entries (CutJournal path) h = absurd h
  failed_entries (OtherReindex of_run) h = absurd h
  failed_entries (OtherFile path) h = absurd h
  failed_entries (Audit (fault.NoEntry n)) h = refuted_entries (fault.NoEntry n) h.0 h.1 h.2 h.3
  failed_entries (Audit (fault.Differs d)) h = refuted_entries (fault.Differs d) h.0 h.1 h.2 h.3
  failed_entries (Audit fault.TooLong) h = refuted_entries fault.TooLong h.0 h.1 h.2 h.3
  failed_entries (Audit fault.NoMemory) h = absurd h
