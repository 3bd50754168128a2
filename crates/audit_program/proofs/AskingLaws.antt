-- An audit that is refused for a day in a folder from which it reads.
use Rattle.std.proofs.Common.{◌≡◌, ◌⊎◌, ℕ, List, Option, Some, Result, Ok, Err, IfOk, true, false, inl, inr, sym, subst, ap, ◌∙◌}
use Rattle.std.specs.Prelude.{IfErr, IsErrOf, OnOk}
use Rattle.files_in_place.specs.Disk.{DiskMeaning}
use Rattle.folders.specs.declared.named.NamedFile.{NamedFile}
use Rattle.office_run.specs.Loading.{IsFailure}
use Rattle.office_run.specs.OpenedSetup.{IsUnopened}
use Rattle.office_run.specs.WholeRun.{IsReadFault}
use Rattle.office_run.specs.declared.fault.ServeFault.{ServeFault}
use Rattle.office_run.specs.declared.fault.ServeFault.TheVariants.{File, NoMemory, Setup}
use Rattle.program_frame.proofs.InputDays.{unknown_log}
use Rattle.program_frame.specs.InputDays.{FileAnswers, HasInputDay, HasNoInputDay, IsClosedBeside, IsInputRefusal, IsWorkRefusal}
use Rattle.program_frame.specs.Jobs.{IsLoadFailure as IsLoadFailureOf}
use Rattle.program_frame.specs.declared.ending.Failure.{Failure}
use Rattle.program_frame.specs.declared.ending.Failure.TheVariants.{BadDate, Work, Folder}
use Rattle.program_frame.specs.declared.folder.FolderFault.TheVariants.{DayOpen, UnknownDay}
use Rattle.program_frame.specs.BesideDay.{HasOpenDayIn, IsWithoutDay}
use Rattle.program_frame.specs.Placing.{HasPutInto}
use Rattle.audit_program.specs.Asked.{IsAuditedFor, IsForOpenDay}
use Rattle.audit_program.specs.Asking.{of_serving, IsAuditDay}
use Rattle.audit_program.specs.Writing.{IsWrittenBy}
use Rattle.audit_program.specs.declared.audited.Audited.{Audited}
use Rattle.audit_program.specs.Endings.{no_memory}
use Rattle.audit_program.specs.Program.{IsFailedBy, IsLoadFailure}
use Rattle.audit_program.specs.declared.failure.AuditFailure.{AuditFailure}
use Rattle.audit_program.specs.declared.failure.AuditFailure.TheVariants.{Serve}
use Rattle.audit_program.specs.declared.options.Options.{Options}
use Rattle.audit_program.specs.declared.options.Written.{Written}

module _ (answers : FileAnswers) (files : Option (List NamedFile)) (options : Options) where
  day_of : (why : Failure ServeFault) → IsInputRefusal answers files options.setup.now why → of_serving why ≡ Folder DayOpen
      → HasInputDay answers files options.setup.now
  day_of (Folder DayOpen) refused told = refused
  day_of BadDate refused told = absurd refused
  day_of (Work fault) refused told = absurd cc
  day_of (Folder why) refused told = absurd cc

  -- that a day is open is said only where it is
  pub audit_day : {T : Type 0} (why : Failure ServeFault) (failure : Failure AuditFailure) → failure ≡ of_serving why
      → IsInputRefusal answers files options.setup.now why → IsErrOf {T = T} (Err failure) (Folder DayOpen)
      → HasInputDay answers files options.setup.now
  audit_day why failure is refused told = let same : failure ≡ Folder DayOpen = cc in day_of why refused (sym is ∙ same)

  -- no day is open in these folders
  pub no_audit_day : {T E : Type 0} (result : Result T E) → IsClosedBeside answers options.journal.now
      → OnOk result (HasNoInputDay answers files options.setup.now) → OnOk result (IsAuditDay answers files options false)
  no_audit_day (Ok x) journal setup = record { journal = journal; setup = setup }
  no_audit_day (Err y) journal setup = tt

  unopened : (fault : ServeFault) → IsReadFault files options.setup.now fault → IsUnopened files options.setup.now options.reindex fault
  unopened NoMemory unread = tt
  unopened (Setup bad) unread = unread
  unopened (File path why) unread = unread
  unopened fault unread = absurd unread

  refusal_of : (why : Failure ServeFault) → IsInputRefusal answers files options.setup.now why
      → IsWorkRefusal answers (IsFailedBy files options) no_memory (of_serving why)
  refusal_of BadDate refused = refused
  refusal_of (Work fault) refused = inr (unopened fault refused)
  refusal_of (Folder DayOpen) refused = tt
  refusal_of (Folder (UnknownDay log said)) refused = unknown_log answers files options.setup.now log said refused
  refusal_of (Folder why) refused = absurd refused

  -- it is why an audit is refused
  pub audit_refusal : (why : Failure ServeFault) (failure : Failure AuditFailure) → failure ≡ of_serving why
      → IsInputRefusal answers files options.setup.now why → IsWorkRefusal answers (IsFailedBy files options) no_memory failure
  audit_refusal why failure is refused = subst (IsWorkRefusal answers (IsFailedBy files options) no_memory) (sym is) (refusal_of why refused)

module _ (files : Option (List NamedFile)) (options : Options) (before after : Option ℕ) where
  load_of : (why : Failure ServeFault) → IsLoadFailureOf (IsFailure files before after) NoMemory (after ≡ before) why
      → IsLoadFailureOf (IsLoadFailure files options before after) no_memory (after ≡ before) (of_serving why)
  load_of BadDate load = load
  load_of (Work fault) (inl memory) = inl (ap (λ (f : ServeFault). Serve f) memory)
  load_of (Work fault) (inr other) = inr other
  load_of (Folder why) load = load

  -- and what it says of the loads that failed
  pub audit_load : (why : Failure ServeFault) (failure : Failure AuditFailure) → failure ≡ of_serving why
      → IsLoadFailureOf (IsFailure files before after) NoMemory (after ≡ before) why
      → IsLoadFailureOf (IsLoadFailure files options before after) no_memory (after ≡ before) failure
  audit_load why failure is load = subst (IsLoadFailureOf (IsLoadFailure files options before after) no_memory (after ≡ before)) (sym is) (load_of why load)

written_why : (answers : FileAnswers) (fails wider : AuditFailure → Type 0) (none : AuditFailure) (failure : Failure AuditFailure)
    → ((fault : AuditFailure) → fails fault → wider fault) → IsWorkRefusal answers fails none failure
    → IsWorkRefusal answers wider none failure
written_why answers fails wider none BadDate on refused = refused
written_why answers fails wider none (Work fault) on (inl memory) = inl memory
written_why answers fails wider none (Work fault) on (inr other) = inr (on fault other)
written_why answers fails wider none (Folder DayOpen) on refused = tt
written_why answers fails wider none (Folder (UnknownDay log said)) on refused = refused
written_why answers fails wider none (Folder why) on refused = absurd refused

-- why an audit is not begun is why its tables are not written
pub written_refusal : {T : Type 0} (answers : FileAnswers) (fails wider : AuditFailure → Type 0) (none : AuditFailure)
    (result : Result T (Failure AuditFailure)) → ((fault : AuditFailure) → fails fault → wider fault)
    → IfErr result (IsWorkRefusal answers fails none) → IfErr result (IsWorkRefusal answers wider none)
written_refusal answers fails wider none (Ok report) on refused = tt
written_refusal answers fails wider none (Err failure) on refused = written_why answers fails wider none failure on refused

-- ---- an audit whose tables are in their folder

pub with_no_day : {E D : Type 0} (m : DiskMeaning D) (is_folder : List ℕ → D → Type 0) (answers : FileAnswers) (files : Option (List NamedFile))
    (options : Options) (written : Option Written) (out : Written)
    (result : Result Audited E) → written ≡ Some out → OnOk result (IsAuditDay answers files options false)
    → IfOk result (λ audited. HasPutInto m (IsWithoutDay m answers (is_folder out.out.now)) (λ made. IsWrittenBy files options out.today made audited))
    → IfOk result (IsAuditedFor m is_folder answers files options written)
with_no_day m is_folder answers files options written out (Ok audited) is closed put =
    subst (λ (w : Option Written). IsAuditedFor m is_folder answers files options w audited) (sym is) (closed, put)
with_no_day m is_folder answers files options written out (Err why) is closed put = tt

pub for_open_day : {D : Type 0} (m : DiskMeaning D) (is_folder : List ℕ → D → Type 0) (answers : FileAnswers) (files : Option (List NamedFile))
    (options : Options) (out : Written) → options.written ≡ Some out
    → HasOpenDayIn m answers (is_folder out.out.now) ⊎ IsAuditDay answers files options true → IsForOpenDay m is_folder answers files options
for_open_day m is_folder answers files options out is day = (out, is, day)
