-- What the command line asks for, and what a call of the program does.
use Rattle.std.specs.Prelude.{◌≡◌, ◌⊎◌, ℕ, Bool, true, false, List, Option, Some, IsSome, codes}
use Rattle.clap.specs.Words.{App, Row, Text, first_of, kind_of, matches_of, takes, with_rule}
use Rattle.clap.specs.declared.error.kind.ErrorKind.TheVariants.{OutOfMemory}
use Rattle.files_in_place.specs.Disk.{DiskMeaning}
use Rattle.program_frame.specs.declared.ending.Ending.{Ending}
use Rattle.program_frame.specs.declared.ending.Ending.TheVariants as ended
use Rattle.program_frame.specs.declared.ending.Failure.{Failure}
use Rattle.program_frame.specs.declared.ending.Failure.TheVariants as failure
use Rattle.program_frame.specs.CommandLine.{flag_rule, program_app, required_rule, GivesDay, HasBadDate, IsFlag}
use Rattle.program_frame.specs.Jobs.{ComesToItsEnd, IsLoadFailure as IsLoadFailureOf, IsPlaceFailure as IsPlaceFailureOf, IsRunFailure}
use Rattle.program_frame.specs.Placing.{HasPutInto}
use Rattle.office_run.specs.declared.close_fault.CloseFault.TheVariants.{Write}
use Rattle.folders.specs.declared.named.NamedFile.{NamedFile}
use Rattle.program_frame.specs.BesideDay.{HasOpenDayIn, IsWithoutDay}
use Rattle.program_frame.specs.InputDays.{FileAnswers, HasInputDay, HasNoInputDay}
use Rattle.server_program.specs.declared.options.Options.{Options}
use Rattle.server_program.specs.declared.served.Served.{Served}
use Rattle.office_run.specs.declared.fault.ServeFault.{ServeFault}
use Rattle.office_run.specs.declared.fault.ServeFault.TheVariants.{Close, NoMemory}
use Rattle.office_run.specs.Loading.{IsFailure}
use Rattle.office_run.specs.Served.{IsServed}
use Rattle.office_run.specs.WholeRun.{IsServeFault}

-- ---- the command line

-- the program with those of its options that have to be given
abbrev pub paths_app : App
paths_app =
    with_rule (with_rule (with_rule (program_app (codes "station_server")) (required_rule (codes "setup"))) (required_rule (codes "out"))) (required_rule (codes "today"))

-- the program and all its options, as they are declared to `clap`
abbrev pub server_app : App
server_app = with_rule (with_rule paths_app (flag_rule (codes "reindex"))) (flag_rule (codes "journal"))

-- a command line names its files, the setup and the folder, and a date
pub record HasPaths (rows : List Row) : Type 0 where
  pub setup : IsSome (first_of (codes "setup") rows)
  pub out : IsSome (first_of (codes "out") rows)
  pub today : IsSome (first_of (codes "today") rows)

-- what the options ask for
pub record IsAskedBy (rows : List Row) (options : Options) : Type 0 where
  pub setup : first_of (codes "setup") rows ≡ Some options.setup.now
  pub out : first_of (codes "out") rows ≡ Some options.out.now
  pub today : GivesDay rows options.today
  pub reindex : IsFlag rows (codes "reindex") options.reindex
  pub journal : IsFlag rows (codes "journal") options.journal

-- what the words of a command line ask for, of which the first is the program's name
abbrev pub IsAskedIn : List Text → Options → Type 0
IsAskedIn words options = IsAskedBy (matches_of server_app words) options

-- why these words are not read as what they ask for: they are not taken, the date is bad, or memory was refused
abbrev pub IsWhyNotRead : List Text → Ending (Failure ServeFault) → Type 0
IsWhyNotRead words ended.NoText = ⊥
IsWhyNotRead words (ended.CommandLine error) = takes server_app words ≡ true → kind_of error ≡ OutOfMemory
IsWhyNotRead words (ended.Failed failure.BadDate) = HasPaths (matches_of server_app words) → HasBadDate (matches_of server_app words)
IsWhyNotRead words (ended.Failed (failure.Work NoMemory)) = Unit {0}
IsWhyNotRead words (ended.Failed why) = ⊥

-- ---- the run

-- a run failed since the folder has not taken a file
abbrev pub says_unwritten : ServeFault → Bool
says_unwritten (Close (Write name)) = true
says_unwritten why = false

-- the run that the options ask for came to its end over these files: a whole run at the values of the options, these are its files,
-- and this is said of it
abbrev pub IsServedBy : Option (List NamedFile) → Options → List NamedFile → Served → Type 0
IsServedBy files options written served = IsServed files options.setup.now options.reindex options.today options.journal written served.counts

-- the words ask for a run, it came to its end, and its files are in the folder that they name; no day was open there, nor in a folder from
-- which tables, memo files or indexes were read
pub record IsServedAsAsked {D : Type 0} (m : DiskMeaning D) (is_folder : List ℕ → D → Type 0) (answers : FileAnswers) (files : Option (List NamedFile))
    (words : List Text) (served : Served) : Type 0 where
  pub options : Options
  pub asked : IsAskedIn words options
  pub inputs : HasNoInputDay answers files options.setup.now
  pub put : HasPutInto m (IsWithoutDay m answers (is_folder options.out.now)) (λ written. IsServedBy files options written served)

-- the words ask for a run into a folder in which a day is open, or from such folders
pub record AskForOpenDay {D : Type 0} (m : DiskMeaning D) (is_folder : List ℕ → D → Type 0) (answers : FileAnswers) (files : Option (List NamedFile))
    (words : List Text) : Type 0 where
  pub options : Options
  pub asked : IsAskedIn words options
  pub day : HasOpenDayIn m answers (is_folder options.out.now) ⊎ HasInputDay answers files options.setup.now

-- why the files of the run that the options ask for are not in place in the folder of a disk
abbrev pub IsPlaceFailure : Option (List NamedFile) → Options → Failure ServeFault → Type 0
IsPlaceFailure files options why =
    IsPlaceFailureOf (IsServeFault files options.setup.now options.reindex options.today.year) NoMemory (ComesToItsEnd (IsServedBy files options)) why

-- what its failure says of the count of loads that failed
abbrev pub IsLoadFailure : Option (List NamedFile) → Option ℕ → Option ℕ → Failure ServeFault → Type 0
IsLoadFailure files before after why = IsLoadFailureOf (IsFailure files before after) NoMemory (after ≡ before) why

-- why the run that the options ask for has not written its files, also since the folder can't be had
abbrev pub IsUnserved : Option (List NamedFile) → Options → Failure ServeFault → Type 0
IsUnserved files options why =
    IsRunFailure (IsServeFault files options.setup.now options.reindex options.today.year) NoMemory (ComesToItsEnd (IsServedBy files options)) why

-- why the run that the words ask for has not: they are not read, or the run failed
abbrev pub IsUnservedAsAsked : Option (List NamedFile) → List Text → Ending (Failure ServeFault) → Type 0
IsUnservedAsAsked files words ending =
    IsWhyNotRead words ending
    ⊎ ((options : Options) × (why : Failure ServeFault) × (ending ≡ ended.Failed why) × IsAskedIn words options × IsUnserved files options why)
