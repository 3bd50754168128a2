use Rattle.office_run.proofs.CountLaws.{IsCounted}
use Rattle.office_run.proofs.counts.command_counts.Given as goal

abbrev pub invariant-loop-index : goal.invariant-loop-index
invariant-loop-index l = IsCounted l.stations l.closed.journal l.index l.refused l.refused_by_station.items
