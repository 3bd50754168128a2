use Rattle.std.proofs.Common.{◌≡◌}
use Rattle.rtrb.specs.Ring.{sent, SameProducer}
use Rattle.live_stations.proofs.sending.send_waiting.Given as goal

abbrev pub invariant-loop : goal.invariant-loop
invariant-loop g l = record { ring : SameProducer l.initial.items l.items; sent_is : sent l.items ≡ sent l.initial.items; item_is : l.item ≡ l.initial.item }
