use Rattle.std.proofs.Common.{rules}
use Rattle.station_lines.proofs.CommandLaws.OneLineLaws.{text_one_line}
use Rattle.station_lines.proofs.command_lines.command_line.Goals as goal

pub returns-clause-one_line : goal.returns-clause-one_line
returns-clause-one_line c = text_one_line c.args.command.now c.from_vec.result (search rules)
