-- A sub-command, as `clap` has read it.
use Rattle.std.proofs.Common.{◌≡◌, refl, ℕ, List, Option, Some, None, option_map, box_value}
use Rattle.std.specs.Prelude.{Box}
use Rattle.std.specs.Borrow.{Bor}
use Rattle.clap.specs.Matches.{found_of}
use Rattle.clap.specs.Simple.{subcommand_rows}
use Rattle.clap.specs.Walk.{rows_of}
use Rattle.clap.specs.declared.parser.matches.ArgMatches.{ArgMatches}
use Rattle.clap.specs.declared.parser.matches.ArgMatches.TheViews.{out-SubCommand}
use Rattle.clap.specs.declared.parser.matches.SubCommand.{SubCommand}

-- a name and the rows of a sub-command, told one after the other
pub named_rows : {Z : Type 0} (o : Option (Box SubCommand Z)) (p : Option (Bor (List ℕ) × Bor ArgMatches))
    → option_map (λ p. p.0.now) p ≡ option_map (λ b. (out-SubCommand (box_value b)).name.now) o
    → option_map (λ p. rows_of (found_of p.1.now)) p ≡ option_map (λ p. p.1) (subcommand_rows o)
    → option_map (λ p. (p.0.now, rows_of (found_of p.1.now))) p ≡ subcommand_rows o
named_rows None None e h = refl
named_rows None (Some p) e h = absurd cc
named_rows (Some b) None e h = absurd cc
named_rows (Some b) (Some p) e h = cc
