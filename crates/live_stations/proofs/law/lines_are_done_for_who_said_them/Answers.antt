use Rattle.live_stations.proofs.SeatLaws.{done_of_seated}
use Rattle.live_stations.proofs.law.lines_are_done_for_who_said_them.Goals as goal

pub returns : goal.returns
returns c = record { done = done_of_seated }
