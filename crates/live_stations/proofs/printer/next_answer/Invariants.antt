use Rattle.std.proofs.Common.{◌≡◌}
use Rattle.rtrb.specs.Ring.{received, SameConsumer}
use Rattle.live_stations.proofs.printer.next_answer.Given as goal

abbrev pub invariant-loop : goal.invariant-loop
invariant-loop g l = record { ring : SameConsumer l.initial.answers l.answers; received_is : received l.answers ≡ received l.initial.answers }
