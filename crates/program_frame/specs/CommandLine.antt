-- The options of a command line: as a program declares them to `clap`, and what `clap` has read of them, a row for each that is there.
use Rattle.std.specs.Prelude.{◌≡◌, ◌⊎◌, Bool, true, false, List, codes, Some, None, IfSome}
use Rattle.clap.specs.Words.{App, Row, Rule, Text, new_app, first_of, found_of, new_rule, one_of, rows_of}
use Rattle.clap.specs.declared.builder.action.ArgAction.TheVariants.{Set, SetTrue}
use Rattle.clap.specs.declared.builder.value_parser.ValueParser.TheVariants.{NonEmptyString}
use Rattle.clap.specs.declared.parser.matches.ArgMatches.{ArgMatches}
use Rattle.dbf_fields.specs.declared.day.Day.{Day}
use Rattle.dbf_fields.specs.Date.{SaysDay}
use Rattle.dbf_image.specs.Image.{IsOutside}
use Rattle.program_frame.specs.Dates.{IsRunDate}

-- ---- as they are declared

-- a program of a name that tells its version, with no option yet
abbrev pub program_app : Text → App
program_app name = record (new_app name) { top = record (new_app name).top { has_version = true } }

-- an option of a name, whose value is not empty
abbrev pub option_rule : Text → Rule
option_rule name = record (new_rule name) { long = Some name; action = Some Set; value_names = 1; parser = Some NonEmptyString }

-- an option that has to be given
abbrev pub required_rule : Text → Rule
required_rule name = record (option_rule name) { required = true }

-- a flag of a name
abbrev pub flag_rule : Text → Rule
flag_rule name = record (new_rule name) { long = Some name; action = Some SetTrue }

-- ---- as they are read

-- what `clap` has read: a row for each option that is there
abbrev pub option_rows : ArgMatches → List Row
option_rows matches = rows_of (found_of matches)

-- nothing is read of the flag of a name, or that it is not given
abbrev pub IsNotSet : List Row → Text → Type 0
IsNotSet rows name = (one_of name rows ≡ None) ⊎ (one_of name rows ≡ Some (codes "false"))

-- the answer is whether the flag of a name is given
pub record IsFlag (rows : List Row) (name : Text) (given : Bool) : Type 0 where
  pub set : one_of name rows ≡ Some (codes "true") → given ≡ true
  pub unset : IsNotSet rows name → given ≡ false

-- a date is given, and it is this day, of the years that a header can tell
pub record GivesDay (rows : List Row) (day : Day) : Type 0 where
  pub text : Text
  pub given : first_of (codes "today") rows ≡ Some text
  pub says : SaysDay text day
  pub years : ¬ IsOutside day.year

-- the date that is given is not one of a run
abbrev pub HasBadDate : List Row → Type 0
HasBadDate rows = IfSome (first_of (codes "today") rows) (λ text. ¬ IsRunDate text)
