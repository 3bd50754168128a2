use Rattle.std.proofs.Common.{◌∙◌}
use Rattle.clap.specs.Words.{found_of}
use Rattle.program_frame.proofs.Options.{first_row}
use Rattle.program_frame.proofs.command_line.value_of.Goals as goal

pub returns : goal.returns
returns c = record { value = c.get_str.ensures ∙ first_row (found_of c.args.matches.now) c.args.name.now }
