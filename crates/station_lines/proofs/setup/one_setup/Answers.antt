use Rattle.station_lines.proofs.SetupLaws.TextLaws.{one_setup, some_setup}
use Rattle.station_lines.proofs.setup.one_setup.Goals as goal

pub returns-clause-some : goal.returns-clause-some
returns-clause-some c = some_setup

pub returns-clause-one : goal.returns-clause-one
returns-clause-one c = one_setup
