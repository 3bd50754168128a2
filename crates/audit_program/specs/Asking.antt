-- Live days in the folders from which an audit reads.
use Rattle.std.specs.Prelude.{◌⊎◌, Bool, true, false, List, Option}
use Rattle.folders.specs.declared.named.NamedFile.{NamedFile}
use Rattle.office_run.specs.declared.fault.ServeFault.{ServeFault}
use Rattle.program_frame.specs.InputDays.{FileAnswers, HasInputDay, HasNoInputDay, IsClosedBeside, IsOpenBeside}
use Rattle.program_frame.specs.declared.ending.Failure.{Failure}
use Rattle.program_frame.specs.declared.ending.Failure.TheVariants as failure
use Rattle.audit_program.specs.declared.failure.AuditFailure.{AuditFailure}
use Rattle.audit_program.specs.declared.failure.AuditFailure.TheVariants.{Serve}
use Rattle.audit_program.specs.declared.options.Options.{Options}

-- no day is open in the folder of the journal, nor where the files of the setup lie
pub record HasNoAuditDay (answers : FileAnswers) (files : Option (List NamedFile)) (options : Options) : Type 0 where
  pub journal : IsClosedBeside answers options.journal.now
  pub setup : HasNoInputDay answers files options.setup.now

-- or a day is open in one of these folders
abbrev pub IsAuditDay : FileAnswers → Option (List NamedFile) → Options → Bool → Type 0
IsAuditDay answers files options true = IsOpenBeside answers options.journal.now ⊎ HasInputDay answers files options.setup.now
IsAuditDay answers files options false = HasNoAuditDay answers files options

-- what is said of an audit where the setup's files are not read for this
abbrev pub of_serving : Failure ServeFault → Failure AuditFailure
of_serving failure.BadDate = failure.BadDate
of_serving (failure.Work fault) = failure.Work (Serve fault)
of_serving (failure.Folder why) = failure.Folder why
