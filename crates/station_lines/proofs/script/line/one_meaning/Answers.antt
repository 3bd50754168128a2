use Rattle.station_lines.proofs.ScriptLaws.MeaningLaws.{read_means, one_meaning}
use Rattle.station_lines.proofs.script.line.one_meaning.Goals as goal

pub returns-clause-some : goal.returns-clause-some
returns-clause-some c = read_means

pub returns-clause-one : goal.returns-clause-one
returns-clause-one c = one_meaning
