use Rattle.live_stations.specs.Hearings.{IsHeardAgain}
use Rattle.live_stations.proofs.heard_lines.find_line.Given as goal

abbrev pub invariant-loop : goal.invariant-loop
invariant-loop l = IsHeardAgain l.initial.hearings.items l.hearings.items
