-- What the command line asks for, and what a call of the program does.
use Rattle.std.specs.Prelude.{◌≡◌, ◌⊎◌, ℕ, List, codes, true, false, Option, Some, None, IsSome}
use Rattle.clap.specs.Words.{App, Row, Rule, Text, first_of, kind_of, matches_of, takes, with_rule}
use Rattle.clap.specs.declared.error.kind.ErrorKind.TheVariants.{OutOfMemory}
use Rattle.files_in_place.specs.Disk.{DiskMeaning}
use Rattle.program_frame.specs.declared.ending.Ending.{Ending}
use Rattle.program_frame.specs.declared.ending.Ending.TheVariants as ended
use Rattle.program_frame.specs.declared.ending.Failure.{Failure}
use Rattle.program_frame.specs.declared.ending.Failure.TheVariants as failure
use Rattle.program_frame.specs.BesideDay.{HasOpenDayIn, IsWithoutDay}
use Rattle.program_frame.specs.CommandLine.{flag_rule, option_rule, program_app, required_rule, GivesDay, HasBadDate, IsFlag}
use Rattle.program_frame.specs.InputDays.{FileAnswers}
use Rattle.program_frame.specs.Jobs.{ComesToItsEnd, IsRunFailure}
use Rattle.program_frame.specs.Placing.{HasPutInto}
use Rattle.folders.specs.declared.named.NamedFile.{NamedFile}
use Rattle.audit_program.specs.declared.audited.Audited.{Audited}
use Rattle.audit_program.specs.declared.failure.AuditFailure.{AuditFailure}
use Rattle.audit_program.specs.declared.options.Options.{Options}
use Rattle.audit_program.specs.declared.options.Written.{Written}
use Rattle.audit_program.specs.Asking.{IsAuditDay}
use Rattle.audit_program.specs.Endings.{no_memory}
use Rattle.audit_program.specs.Program.{IsAuditedBy, IsFailedBy}
use Rattle.audit_program.specs.Writing.{IsUnwritten, IsWrittenBy}

-- ---- the command line

-- an option that needs another one, as it is declared
abbrev pub wanting_rule : Text → Rule
wanting_rule name = record (option_rule name) { is_free = false }

-- the program with those of its options that have to be given
abbrev pub paths_app : App
paths_app = with_rule (with_rule (program_app (codes "station_audit")) (required_rule (codes "setup"))) (required_rule (codes "journal"))

-- the program and all its options, as they are declared to `clap`
abbrev pub audit_app : App
audit_app = with_rule (with_rule (with_rule paths_app (wanting_rule (codes "out"))) (wanting_rule (codes "today"))) (flag_rule (codes "reindex"))

-- the paths of the setup and of the journal are given
pub record HasPaths (rows : List Row) : Type 0 where
  pub setup : IsSome (first_of (codes "setup") rows)
  pub journal : IsSome (first_of (codes "journal") rows)

-- a date is given that is not one of a run
abbrev pub GivesBadDate : List Row → Type 0
GivesBadDate rows = IsSome (first_of (codes "today") rows) × HasBadDate rows

-- what is said of the written tables: nothing, where there is not both the folder and the day
abbrev pub SaysWritten : List Row → Option Written → Type 0
SaysWritten rows None = (first_of (codes "out") rows ≡ None) ⊎ (first_of (codes "today") rows ≡ None)
SaysWritten rows (Some written) =
    (first_of (codes "out") rows ≡ Some written.out.now) × GivesDay rows written.today

-- what the options ask for
pub record IsAskedBy (rows : List Row) (options : Options) : Type 0 where
  pub setup : first_of (codes "setup") rows ≡ Some options.setup.now
  pub journal : first_of (codes "journal") rows ≡ Some options.journal.now
  pub written : SaysWritten rows options.written
  pub reindex : IsFlag rows (codes "reindex") options.reindex

-- what the words of a command line ask for, of which the first is the program's name
abbrev pub IsAskedIn : List Text → Options → Type 0
IsAskedIn words options = IsAskedBy (matches_of audit_app words) options

-- why these words are not read as what they ask for: they are not taken, the date is bad, or memory was refused
abbrev pub IsWhyNotRead : List Text → Ending (Failure AuditFailure) → Type 0
IsWhyNotRead words ended.NoText = ⊥
IsWhyNotRead words (ended.CommandLine error) = takes audit_app words ≡ true → kind_of error ≡ OutOfMemory
IsWhyNotRead words (ended.Failed failure.BadDate) = HasPaths (matches_of audit_app words) → GivesBadDate (matches_of audit_app words)
IsWhyNotRead words (ended.Failed (failure.Work why)) = why ≡ no_memory
IsWhyNotRead words (ended.Failed why) = ⊥

-- ---- the audit

-- All entries hold, as the options ask. Where they name a folder, the files of the tables at their end are in it; no day was open there, nor
-- in a folder from which the audit read.
abbrev pub IsAuditedFor : {D : Type 0} → DiskMeaning D → (List ℕ → D → Type 0) → FileAnswers → Option (List NamedFile) → Options → Option Written → Audited
    → Type 0
IsAuditedFor {D} m is_folder answers files options None audited = IsAuditedBy files options audited
IsAuditedFor {D} m is_folder answers files options (Some written) audited =
    IsAuditDay answers files options false × HasPutInto m (IsWithoutDay m answers (is_folder written.out.now))
    (λ made. IsWrittenBy files options written.today made audited)

-- the words ask for an audit, and this is said of the journal
pub record IsAuditedAsAsked {D : Type 0} (m : DiskMeaning D) (is_folder : List ℕ → D → Type 0) (answers : FileAnswers) (files : Option (List NamedFile))
    (words : List Text) (said : Audited) : Type 0 where
  pub options : Options
  pub asked : IsAskedIn words options
  pub audited : IsAuditedFor m is_folder answers files options options.written said

-- the options name a folder in which a day is open, or a day is open in one from which the audit reads
abbrev pub IsForOpenDay : {D : Type 0} → DiskMeaning D → (List ℕ → D → Type 0) → FileAnswers → Option (List NamedFile) → Options → Type 0
IsForOpenDay {D} m is_folder answers files options =
    (written : Written) × (options.written ≡ Some written) × (HasOpenDayIn m answers (is_folder written.out.now) ⊎ IsAuditDay answers files options true)

-- and so do the words
abbrev pub AskForOpenDay : {D : Type 0} → DiskMeaning D → (List ℕ → D → Type 0) → FileAnswers → Option (List NamedFile) → List Text → Type 0
AskForOpenDay {D} m is_folder answers files words = (options : Options) × IsAskedIn words options × IsForOpenDay m is_folder answers files options

-- why it is not said that all entries hold, or where a folder is named, why the files are not in it
abbrev pub IsUnaudited : Option (List NamedFile) → Options → Option Written → Failure AuditFailure → Type 0
IsUnaudited files options (Some written) why =
    IsRunFailure (IsUnwritten files options written.today.year) no_memory (ComesToItsEnd (IsWrittenBy files options written.today)) why
IsUnaudited files options None (failure.Work why) = IsFailedBy files options why
IsUnaudited files options None why = ⊥

-- why that is not said of the journal of which the words speak: they are not read, or the audit failed
abbrev pub IsUnauditedAsAsked : Option (List NamedFile) → List Text → Ending (Failure AuditFailure) → Type 0
IsUnauditedAsAsked files words ending =
    IsWhyNotRead words ending
    ⊎ ((options : Options) × (why : Failure AuditFailure) × (ending ≡ ended.Failed why) × IsAskedIn words options × IsUnaudited files options options.written why)
