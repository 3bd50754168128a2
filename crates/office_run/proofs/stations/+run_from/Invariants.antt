use Rattle.std.proofs.Common.{vec_len}
use Rattle.office_run.proofs.stations.+run_from.Given as goal

abbrev pub decreases-run_from : goal.decreases-run_from
decreases-run_from g l = vec_len l.seats
