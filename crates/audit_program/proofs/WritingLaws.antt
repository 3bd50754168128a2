-- The tables that are written after an audit, and why they are not.
use Rattle.std.proofs.Common.{◌≡◌, ℕ, arith, List, [], Option, Result, Err, length, refl, sym, ◌∙◌, subst}
use Rattle.std.specs.Prelude.{IfErr, bytes_eq}
use Rattle.std.specs.List.{IsDistinct}
use Rattle.dbf_fields.specs.declared.day.Day.{Day}
use Rattle.catalogue_core.specs.Replay.{History}
use Rattle.journal_file.specs.declared.sum.FileSum.{FileSum}
use Rattle.journal_file.specs.WholeText.{wrote_word}
use Rattle.office_run.specs.declared.close_fault.CloseFault.TheVariants as close
use Rattle.office_run.specs.declared.closed.ClosedTable.{ClosedTable}
use Rattle.folders.specs.declared.named.NamedFile.{NamedFile}
use Rattle.folders.specs.Placed.{names_of, IsListedAfter}
use Rattle.office_run.specs.declared.fault.ServeFault.{ServeFault}
use Rattle.office_run.specs.declared.fault.ServeFault.TheVariants as serve
use Rattle.office_run.specs.HandedOver.{AreHandedOver}
use Rattle.office_run.proofs.RunNames.{names_differ}
use Rattle.office_run.specs.TablesWritten.{AreTablesWritten, IsCutTables, IsTablesFault, dated_files}
use Rattle.audit_program.specs.declared.audited.Audited.{Audited}
use Rattle.audit_program.specs.declared.failure.AuditFailure.{AuditFailure}
use Rattle.audit_program.specs.declared.failure.AuditFailure.TheVariants.{Serve, Unread, UnrecoveredJournal, NoJournal, CutJournal, OtherReindex, OtherFile, Audit}
use Rattle.audit_program.specs.declared.options.Options.{Options}
use Rattle.audit_program.specs.Comparing.{AreLinesOf}
use Rattle.audit_program.specs.Program.{IsAsked, IsAuditedTo, IsFailedBy, IsLoadFailure}
use Rattle.audit_program.specs.Writing.{IsWrittenBy, IsCutAudit, IsUnwritten}

-- the names of the files of the tables at a journal's end differ
tables_differ : (files : Option (List NamedFile)) (options : Options) (today : Day) (h : History) (audited : Audited) (tables : List ClosedTable) → IsAuditedTo files options h audited → AreHandedOver h tables → IsDistinct bytes_eq (names_of (dated_files today tables))
tables_differ files options today h audited tables all handed =
    let opened = all.asked.tables in
    names_differ options.reindex (length opened.read.scripts) opened.read.tables h opened.from.opening tables handed today [] (omega arith)

-- what is said of an audit that has written files
with_files : (files : Option (List NamedFile)) (options : Options) (h : History) (audited said : Audited) → said.count ≡ audited.count → said.read.items ≡ audited.read.items → said.wrote ≡ audited.wrote → IsAuditedTo files options h audited
    → IsAuditedTo files options h said
with_files files options h audited said count read wrote all = record {
  journal = all.journal;
  asked = subst (λ (sums : List FileSum). IsAsked files options h.opened all.journal sums) (sym read) all.asked;
  holds = all.holds;
  counted = count ∙ all.counted;
  wrote = subst (λ (lines : List ℕ). AreLinesOf wrote_word lines all.journal.wrote) (sym wrote) all.wrote;
}

pub written_by : (files : Option (List NamedFile)) (options : Options) (today : Day) (h : History) (old new : Option (List ℕ)) (audited said : Audited) → said.count ≡ audited.count → said.read.items ≡ audited.read.items → said.wrote ≡ audited.wrote
    → IsAuditedTo files options h audited → AreTablesWritten h today old new said.written.items → IsListedAfter (λ written. IsWrittenBy files options today written said) old new
written_by files options today h old new audited said count read lines all wrote = record {
  files = dated_files today wrote.tables;
  such = record {
    history = h;
    tables = wrote.tables;
    all = with_files files options h audited said count read lines all;
    handed = wrote.handed;
    few_blocks = wrote.few_blocks;
    summed = wrote.summed;
    written_is = refl;
  };
  written = wrote.written;
  bytes = wrote.bytes;
  told = wrote.told;
  distinct = tables_differ files options today h audited wrote.tables all wrote.handed;
}

pub unwritten_audit : (files : Option (List NamedFile)) (options : Options) (year : ℕ) (why : AuditFailure) → IsFailedBy files options why → IsUnwritten files options year why
unwritten_audit files options year (Serve (serve.Setup bad)) h = h
unwritten_audit files options year (Serve (serve.File p f)) h = h
unwritten_audit files options year (Serve (serve.Refused f)) h = h
unwritten_audit files options year (Serve (serve.Run f)) h = h
unwritten_audit files options year (Serve (serve.Close f)) h = absurd h
unwritten_audit files options year (Serve serve.NoMemory) h = h
unwritten_audit files options year Unread h = h
unwritten_audit files options year (UnrecoveredJournal path) h = h
unwritten_audit files options year (NoJournal path) h = h
unwritten_audit files options year (CutJournal path) h = h
unwritten_audit files options year (OtherReindex of_run) h = h
unwritten_audit files options year (OtherFile path) h = h
unwritten_audit files options year (Audit f) h = h

pub unwritten_tables : (files : Option (List NamedFile)) (options : Options) (year : ℕ) (h : History) (said : Audited) (why : ServeFault) → IsAuditedTo files options h said → IsTablesFault h year why → IsUnwritten files options year (Serve why)
unwritten_tables files options year h said (serve.Setup bad) audited t = absurd t
unwritten_tables files options year h said (serve.File p f) audited t = absurd t
unwritten_tables files options year h said (serve.Refused f) audited t = absurd t
unwritten_tables files options year h said (serve.Run f) audited t = absurd t
unwritten_tables files options year h said (serve.Close f) audited t = (h, said, audited, t)
unwritten_tables files options year h said serve.NoMemory audited t = tt

-- before an audit's end no file was begun
pub no_close : (files : Option (List NamedFile)) (options : Options) (r : Result Audited AuditFailure) (name : List ℕ) → IfErr r (IsFailedBy files options) → r ≡ Err (Serve (serve.Close (close.Write name))) → ⊥
no_close files options r name h e = subst (λ (x : Result Audited AuditFailure). IfErr x (IsFailedBy files options)) e h

-- no load has failed where the tables' files can't be written
pub loaded_tables : (files : Option (List NamedFile)) (options : Options) (year : ℕ) (h : History) (said : Audited) (before after : Option ℕ) (why : ServeFault) → IsAuditedTo files options h said → after ≡ before → IsTablesFault h year why
    → IsLoadFailure files options before after (Serve why)
loaded_tables files options year h said before after (serve.Setup bad) audited same t = absurd t
loaded_tables files options year h said before after (serve.File p f) audited same t = absurd t
loaded_tables files options year h said before after (serve.Refused f) audited same t = absurd t
loaded_tables files options year h said before after (serve.Run f) audited same t = absurd t
loaded_tables files options year h said before after (serve.Close f) audited same t = same
loaded_tables files options year h said before after serve.NoMemory audited same t = tt

-- an audit that failed cut no file
pub uncut_audit : (files : Option (List NamedFile)) (options : Options) (today : Day) (old new : Option (List ℕ)) (why : AuditFailure) → IsFailedBy files options why → IsCutAudit files options today old new why
uncut_audit files options today old new (Serve (serve.Setup bad)) h = tt
uncut_audit files options today old new (Serve (serve.File p f)) h = tt
uncut_audit files options today old new (Serve (serve.Refused f)) h = tt
uncut_audit files options today old new (Serve (serve.Run f)) h = tt
uncut_audit files options today old new (Serve (serve.Close f)) h = absurd h
uncut_audit files options today old new (Serve serve.NoMemory) h = tt
uncut_audit files options today old new Unread h = tt
uncut_audit files options today old new (UnrecoveredJournal path) h = tt
uncut_audit files options today old new (NoJournal path) h = tt
uncut_audit files options today old new (CutJournal path) h = tt
uncut_audit files options today old new (OtherReindex of_run) h = tt
uncut_audit files options today old new (OtherFile path) h = tt
uncut_audit files options today old new (Audit f) h = tt

pub cut_audit : (files : Option (List NamedFile)) (options : Options) (today : Day) (h : History) (said : Audited) (old new : Option (List ℕ)) (why : ServeFault) → IsAuditedTo files options h said → IsCutTables h today old new why
    → IsCutAudit files options today old new (Serve why)
cut_audit files options today h said old new (serve.Setup bad) audited cut = tt
cut_audit files options today h said old new (serve.File p f) audited cut = tt
cut_audit files options today h said old new (serve.Refused f) audited cut = tt
cut_audit files options today h said old new (serve.Run f) audited cut = tt
cut_audit files options today h said old new serve.NoMemory audited cut = tt
cut_audit files options today h said old new (serve.Close close.DateOutside) audited cut = tt
cut_audit files options today h said old new (serve.Close (close.TooManyBlocks n)) audited cut = tt
cut_audit files options today h said old new (serve.Close close.NoMemory) audited cut = tt
cut_audit files options today h said old new (serve.Close (close.Write name)) audited cut = (h, said, audited, cut)
