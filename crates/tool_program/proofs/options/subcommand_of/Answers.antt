use Rattle.tool_program.proofs.Reading.{named_rows}
use Rattle.tool_program.proofs.options.subcommand_of.Goals as goal

pub returns : goal.returns
returns c = record { value = named_rows _ _ c.subcommand.ensures.name c.subcommand.ensures.rows }
