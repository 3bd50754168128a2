-- Why an audit of a run's journal on the run's files fails.
use Rattle.std.proofs.Common.{◌≡◌, ◌≤◌, ℕ, true, List, length, Option, Some, refl, sym, ap, ◌∙◌, inl, inr, arith}
use Rattle.dbf_fields.specs.declared.day.Day.{Day}
use Rattle.folders.specs.declared.named.NamedFile.{NamedFile}
use Rattle.folders.specs.declared.source.TheConstants.{MAX_FILE_BYTES}
use Rattle.folders.specs.Files.{IsFileOf, IsTooLong}
use Rattle.office_run.specs.declared.counts.CommandCounts.{CommandCounts}
use Rattle.office_run.specs.declared.fault.FileFault.TheVariants as file
use Rattle.office_run.specs.declared.fault.ServeFault.{ServeFault}
use Rattle.office_run.specs.declared.fault.ServeFault.TheVariants as serve
use Rattle.office_run.specs.OpenedSetup.{HaveStill, IsOfLoads, IsOpenedBy, IsUnopened}
use Rattle.office_run.specs.Served.{IsServed}
use Rattle.office_run.proofs.NeverRefused.{never_refused, never_unrecovered}
use Rattle.office_run.proofs.OneOpening.{opens_as_before}
use Rattle.audit_program.specs.declared.failure.AuditFailure.{AuditFailure}
use Rattle.audit_program.specs.declared.failure.AuditFailure.TheVariants.{Serve, Unread, UnrecoveredJournal, NoJournal, CutJournal, OtherReindex, OtherFile, Audit}
use Rattle.audit_program.specs.declared.options.Options.{Options}
use Rattle.audit_program.specs.Laws.{IsOfMemoryOrLoads}
use Rattle.audit_program.specs.Program.{IsFailedBy, IsLoadFailure}
use Rattle.audit_program.proofs.RunJournals.{never_refuted, opened_by}

-- a file that a load may give, and is not over the limit, is not known to be over it
not_too_long : (files : List NamedFile) (path text : List ℕ) → IsFileOf (Some files) path text → length text ≤ MAX_FILE_BYTES → IsTooLong (Some files) path → ⊥
not_too_long files path text found short long =
    let same : Some text ≡ Some long.0 = sym found.has ∙ long.1 in
    let bytes : text ≡ long.0 = cc in
    omega (arith, short, long.2, ap length bytes)

module _ (files later : List NamedFile) (options : Options) (today : Day) (written : List NamedFile) (counts : CommandCounts) (served : IsServed (Some files) options.setup.now options.reindex today true written counts)
    (still : HaveStill files later) (there : IsFileOf (Some later) options.journal.now served.text) where
  -- the tables open as the run opened them
  once_more : IsOpenedBy (Some later) options.setup.now options.reindex served.run.history.opened
  once_more =
      let first = opened_by (Some files) options.setup.now options.reindex served.tables served.answers counts.all served.run in
      opens_as_before files later options.setup.now still options.reindex served.run.history.opened first

  not_opened : (why : ServeFault) → IsUnopened (Some later) options.setup.now options.reindex why → IsOfLoads why
  not_opened why un = never_refused later options.setup.now options.reindex served.run.history.opened once_more why un

  pub fails_for_loads : (before after : Option ℕ) (why : AuditFailure) → IsFailedBy (Some later) options why → IsLoadFailure (Some later) options before after why → IsOfMemoryOrLoads (Some later) before after why
  fails_for_loads before after (Serve serve.NoMemory) failed failure = tt
  fails_for_loads before after (Serve (serve.Setup bad)) failed failure = absurd (not_opened (serve.Setup bad) failed)
  fails_for_loads before after (Serve (serve.File path file.CannotRead)) failed failure = failure
  fails_for_loads before after (Serve (serve.File path file.Unrecovered)) failed failure = absurd (not_opened (serve.File path file.Unrecovered) failed)
  fails_for_loads before after (Serve (serve.File path (file.Image why))) failed failure = absurd (not_opened (serve.File path (file.Image why)) failed)
  fails_for_loads before after (Serve (serve.File path (file.Ndx why))) failed failure = absurd (not_opened (serve.File path (file.Ndx why)) failed)
  fails_for_loads before after (Serve (serve.Refused why)) failed failure = absurd (not_opened (serve.Refused why) failed)
  fails_for_loads before after (Serve (serve.Run why)) failed failure = absurd failed
  fails_for_loads before after (Serve (serve.Close why)) failed failure = absurd failed
  fails_for_loads before after Unread failed (inl rises) = rises
  fails_for_loads before after Unread failed (inr long) = absurd (not_too_long later options.journal.now served.text there (served.told_text refl).2 long)
  fails_for_loads before after (UnrecoveredJournal path) failed failure = absurd (never_unrecovered later options.journal.now served.text there failed.1)
  fails_for_loads before after (NoJournal path) failed failure = absurd (never_refuted files later options today written counts served still there (NoJournal path) tt failed)
  fails_for_loads before after (CutJournal path) failed failure = absurd (never_refuted files later options today written counts served still there (CutJournal path) tt failed)
  fails_for_loads before after (OtherReindex of_run) failed failure = absurd (never_refuted files later options today written counts served still there (OtherReindex of_run) tt failed)
  fails_for_loads before after (OtherFile path) failed failure = absurd (never_refuted files later options today written counts served still there (OtherFile path) tt failed)
  fails_for_loads before after (Audit why) failed failure = absurd (never_refuted files later options today written counts served still there (Audit why) tt failed)
