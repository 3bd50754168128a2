-- What the command line asks for.
use Rattle.std.specs.Prelude.{◌≡◌, true, List, Some, IsSome, codes}
use Rattle.clap.specs.Words.{App, Row, Text, first_of, kind_of, matches_of, takes, with_rule}
use Rattle.clap.specs.declared.error.kind.ErrorKind.TheVariants.{OutOfMemory}
use Rattle.program_frame.specs.declared.ending.Ending.{Ending}
use Rattle.program_frame.specs.declared.ending.Ending.TheVariants as ended
use Rattle.program_frame.specs.declared.ending.Failure.{Failure}
use Rattle.program_frame.specs.declared.ending.Failure.TheVariants as failure
use Rattle.program_frame.specs.CommandLine.{flag_rule, program_app, required_rule, GivesDay, HasBadDate, IsFlag}
use Rattle.live_program.specs.declared.options.Options.{Options}
use Rattle.live_program.specs.declared.failure.LiveFailure.{LiveFailure}
use Rattle.live_program.specs.Endings.{no_memory}

-- the program with those of its options that have to be given
abbrev pub paths_app : App
paths_app =
    with_rule (with_rule (with_rule (program_app (codes "station_prompt")) (required_rule (codes "setup"))) (required_rule (codes "out")))
    (required_rule (codes "today"))

-- the program and all its options, as they are declared to `clap`
abbrev pub prompt_app : App
prompt_app = with_rule (with_rule paths_app (flag_rule (codes "reindex"))) (flag_rule (codes "live"))

-- the paths of the setup and of the folder are given, and a date
pub record HasPaths (rows : List Row) : Type 0 where
  pub setup : IsSome (first_of (codes "setup") rows)
  pub out : IsSome (first_of (codes "out") rows)
  pub today : IsSome (first_of (codes "today") rows)

-- what the options ask for
pub record IsAskedBy (rows : List Row) (options : Options) : Type 0 where
  pub setup : first_of (codes "setup") rows ≡ Some options.setup.now
  pub out : first_of (codes "out") rows ≡ Some options.out.now
  pub today : GivesDay rows options.today
  pub reindex : IsFlag rows (codes "reindex") options.reindex
  pub live : IsFlag rows (codes "live") options.live

-- what the words of a command line ask for, of which the first is the program's name
abbrev pub IsAskedIn : List Text → Options → Type 0
IsAskedIn words options = IsAskedBy (matches_of prompt_app words) options

-- the words have a bad date, where they have all options that have to be given
abbrev pub IsDateBadIn : List Text → Type 0
IsDateBadIn words = HasPaths (matches_of prompt_app words) → HasBadDate (matches_of prompt_app words)

-- why these words are not read as what they ask for: they are not taken, the date is bad, or memory was refused
abbrev pub IsWhyNotRead : List Text → Ending (Failure LiveFailure) → Type 0
IsWhyNotRead words ended.NoText = ⊥
IsWhyNotRead words (ended.CommandLine error) = takes prompt_app words ≡ true → kind_of error ≡ OutOfMemory
IsWhyNotRead words (ended.Failed failure.BadDate) = IsDateBadIn words
IsWhyNotRead words (ended.Failed (failure.Work why)) = why ≡ no_memory
IsWhyNotRead words (ended.Failed why) = ⊥
