-- Options and sub-commands as `clap` is told them.
use Rattle.std.proofs.Common.{◌≡◌, ◌∙◌, ap, ap₂, refl, Bool, true, false, not, ◌&&◌, List, Option, Result, IfErr, IsErrAnd, subst, sym}
use Rattle.clap.specs.Walk.{is_empty}
use Rattle.clap.specs.Words.{App, AddsArg, AddsSubcommand, HasMatchesOf, Row, Rule, Text, app_of, is_simple, kind_of, rule_of, takes}
use Rattle.clap.specs.Words.{subcommand_of, subcommand_rows_of, with_rule, with_subcommand}
use Rattle.clap.specs.declared.builder.arg.Arg.{Arg}
use Rattle.clap.specs.declared.builder.command.Command.{Command}
use Rattle.clap.specs.declared.builder.command.Command.TheViews.{out-Command}
use Rattle.clap.specs.declared.parser.matches.ArgMatches.{ArgMatches}
use Rattle.clap.proofs.OnLiterals.{clap_on_literals}
use Rattle.tool_program.specs.Command.{tool_app, IsAskedIn, IsWhyNotRead}
use Rattle.tool_program.specs.Options.{AsksBadRange, HasPath, IsAskedOf}
use Rattle.clap.specs.declared.error.Error.{Error}
use Rattle.clap.specs.declared.error.kind.ErrorKind.TheVariants.{OutOfMemory}
use Rattle.program_frame.specs.Laws.CommandLines.{told_end}
use Rattle.program_frame.specs.declared.ending.Ending.{Ending}
use Rattle.program_frame.specs.declared.ending.Ending.TheVariants as ended
use Rattle.tool_program.specs.declared.fault.ToolFault.{ToolFault}
use Rattle.tool_program.specs.declared.fault.ToolFault.TheVariants as tool
use Rattle.tool_program.specs.declared.asked.Asked.{Asked}

no_globals : (a b g rest : Bool) → (a && (b && (not g && rest))) ≡ true → g ≡ false
no_globals a b false rest e = refl
no_globals true true true rest e = absurd cc
no_globals true false true rest e = absurd cc
no_globals false b true rest e = absurd cc

-- a plain command has no argument that its sub-commands have, too
is_local : (c : Command) → (app_of c).top.is_plain ≡ true → (out-Command c).has_globals ≡ false
is_local c e = no_globals (is_empty (out-Command c).groups.items) (not (out-Command c).allow_external_subcommands) (out-Command c).has_globals _ e

-- a sub-command that is plain is added
pub added : (old sub new : Command) (before a : App) → AddsSubcommand old sub new → app_of old ≡ before → app_of sub ≡ a → a.top.is_plain ≡ true
    → app_of new ≡ with_subcommand before a.top
added old sub new before a h was e p =
    h.shape (is_local sub (ap (λ (a : App). a.top.is_plain) e ∙ p)) ∙ ap₂ with_subcommand was (ap (λ (a : App). a.top) e)

-- two options are added, one after the other
pub two_rules : (old first new : Command) (a b : Arg) (r s : Rule) → AddsArg old a first → AddsArg first b new → a.global ≡ false → b.global ≡ false
    → rule_of a ≡ r → rule_of b ≡ s → app_of new ≡ with_rule (with_rule (app_of old) r) s
two_rules old first new a b r s h k la lb e f =
    k.shape lb ∙ ap₂ with_rule (h.shape la ∙ ap (λ (rule : Rule). with_rule (app_of old) rule) e) f

tool_is_simple : is_simple tool_app ≡ true
unfolding clap_on_literals
tool_is_simple = refl

-- what is read of a sub-command is what the words say of it
pub asked_in : (app : App) (words : List Text) (matches : ArgMatches) (asked : Asked) → app ≡ tool_app → HasMatchesOf app words matches
    → IsAskedOf (subcommand_rows_of matches) asked → IsAskedIn words asked
asked_in app words matches asked e h k =
    let rows = (h (ap is_simple e ∙ tool_is_simple)).1 ∙ ap (λ (a : App). subcommand_of a words) e in
    subst (λ (read : Option (Text × List Row)). IsAskedOf read asked) rows k

-- words that the command does not take are told of
pub not_taken : {T : Type 0} (told : Result T (Ending ToolFault)) (app : App) (words : List Text) (error : Error)
    → IsErrAnd told (λ ending. ending ≡ ended.CommandLine error) → app ≡ tool_app → (takes app words ≡ true → kind_of error ≡ OutOfMemory)
    → IfErr told (IsWhyNotRead words)
not_taken told app words error is e h = told_end (IsWhyNotRead words) told (ended.CommandLine error) is (λ taken. h (ap (λ (a : App). takes a words) e ∙ taken))

-- a range that is none, as the words say it
pub no_range : (app : App) (words : List Text) (matches : ArgMatches) → app ≡ tool_app → HasMatchesOf app words matches
    → (HasPath (subcommand_rows_of matches) → AsksBadRange (subcommand_rows_of matches)) → IsWhyNotRead words (ended.Failed tool.BadRange)
no_range app words matches e h k =
    let rows = (h (ap is_simple e ∙ tool_is_simple)).1 ∙ ap (λ (a : App). subcommand_of a words) e in
    subst (λ (read : Option (Text × List Row)). HasPath read → AsksBadRange read) rows k

-- memory that was refused
pub refused_words : (words : List Text) (ending : Ending ToolFault) → ending ≡ ended.Failed tool.NoMemory → IsWhyNotRead words ending
refused_words words ending is = subst (λ (w : Ending ToolFault). IsWhyNotRead words w) (sym is) tt
