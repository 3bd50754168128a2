use Rattle.live_stations.proofs.SeatLaws.{opened_for_live}
use Rattle.live_stations.proofs.law.tables_are_opened_for_live_stations.Goals as goal

pub returns : goal.returns
returns c = record { seats = opened_for_live }
