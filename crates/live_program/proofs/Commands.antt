-- What the words of a command line ask for, as `clap` has read them.
use Rattle.std.proofs.Common.{◌≡◌, ◌∙◌, ap, refl, true, List, Result, IfErr, IsErrAnd}
use Rattle.clap.specs.Words.{App, HasMatchesOf, Row, Text, is_simple, kind_of, takes}
use Rattle.clap.specs.declared.error.Error.{Error}
use Rattle.clap.specs.declared.error.kind.ErrorKind.TheVariants.{OutOfMemory}
use Rattle.clap.specs.declared.parser.matches.ArgMatches.{ArgMatches}
use Rattle.clap.proofs.OnLiterals.{clap_on_literals}
use Rattle.program_frame.specs.CommandLine.{option_rows, HasBadDate}
use Rattle.program_frame.specs.Laws.CommandLines.{by_words, told_end}
use Rattle.program_frame.specs.declared.ending.Ending.{Ending}
use Rattle.program_frame.specs.declared.ending.Ending.TheVariants as ended
use Rattle.program_frame.specs.declared.ending.Failure.{Failure}
use Rattle.program_frame.specs.declared.ending.Failure.TheVariants as failure
use Rattle.program_frame.specs.declared.folder.FolderFault.TheVariants.{DayOpen}
use Rattle.live_program.specs.declared.options.Options.{Options}
use Rattle.live_program.specs.declared.failure.LiveFailure.{LiveFailure}
use Rattle.live_program.specs.Asked.{prompt_app, HasPaths, IsAskedBy, IsAskedIn, IsWhyNotRead}

prompt_is_simple : is_simple prompt_app ≡ true
unfolding clap_on_literals
prompt_is_simple = refl

pub asked_in : (app : App) (words : List Text) (matches : ArgMatches) (options : Options) → app ≡ prompt_app → HasMatchesOf app words matches → IsAskedBy (option_rows matches) options → IsAskedIn words options
asked_in app words matches options e h asked = by_words (λ (rows : List Row). IsAskedBy rows options) prompt_app app words matches prompt_is_simple e h asked

-- words that the command does not take are told of
pub not_taken : {T : Type 0} (told : Result T (Ending (Failure LiveFailure))) (app : App) (words : List Text) (error : Error) → IsErrAnd told (λ ending. ending ≡ ended.CommandLine error) → app ≡ prompt_app
    → (takes app words ≡ true → kind_of error ≡ OutOfMemory) → IfErr told (IsWhyNotRead words)
not_taken told app words error is e h = told_end (IsWhyNotRead words) told (ended.CommandLine error) is (λ taken. h (ap (λ (a : App). takes a words) e ∙ taken))

-- a date that is bad, as the words say it
pub bad_date : (app : App) (words : List Text) (matches : ArgMatches) → app ≡ prompt_app → HasMatchesOf app words matches → (HasPaths (option_rows matches) → HasBadDate (option_rows matches))
    → IsWhyNotRead words (ended.Failed failure.BadDate)
bad_date app words matches e h bad = by_words (λ (rows : List Row). HasPaths rows → HasBadDate rows) prompt_app app words matches prompt_is_simple e h bad

-- words that are not read are never told so for an open day
pub unread_not_open : (words : List Text) (why : Ending (Failure LiveFailure)) → IsWhyNotRead words why → why ≡ ended.Failed (failure.Folder DayOpen) → ⊥
unread_not_open words ended.NoText not_read told = not_read
unread_not_open words (ended.CommandLine error) not_read told = absurd cc
unread_not_open words (ended.Failed failure.BadDate) not_read told = absurd cc
unread_not_open words (ended.Failed (failure.Work fault)) not_read told = absurd cc
unread_not_open words (ended.Failed (failure.Folder why)) not_read told = not_read
