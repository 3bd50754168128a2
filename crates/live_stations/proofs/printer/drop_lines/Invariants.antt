use Rattle.std.proofs.Common.{◌≡◌, true, ℕ, List, ◌++◌}
use Rattle.rtrb.specs.Ring.{received, SameConsumer}
use Rattle.live_stations.proofs.printer.drop_lines.Given as goal

abbrev pub invariant-loop : goal.invariant-loop
invariant-loop g l = record {
  ring : SameConsumer l.initial.answers l.answers;
  more : (lines : List (List ℕ)) × (received l.answers ≡ received l.initial.answers ++ lines);
  none : l.was_none ≡ true → received l.answers ≡ received l.initial.answers;
}
