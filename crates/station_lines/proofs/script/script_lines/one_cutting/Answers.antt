use Rattle.station_lines.proofs.ScriptLaws.CuttingLaws.{some_lines, one_cutting}
use Rattle.station_lines.proofs.script.script_lines.one_cutting.Goals as goal

pub returns-clause-some : goal.returns-clause-some
returns-clause-some c = some_lines

pub returns-clause-one : goal.returns-clause-one
returns-clause-one c = one_cutting
