use Rattle.std.proofs.Common.{◌≡◌, drop}
use Rattle.office_run.specs.Reports.{first_stop}
use Rattle.office_run.proofs.stations.lowest_stopped.Given as goal

abbrev pub invariant-loop-end : goal.invariant-loop-end
invariant-loop-end g l = first_stop l.ends ≡ first_stop (drop l.end-index l.ends)
