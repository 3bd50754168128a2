use Rattle.std.proofs.Common.{◌≡◌, ◌↔◌, drop}
use Rattle.shared_catalogue.specs.OwnCalls.{of_station}
use Rattle.shared_catalogue.proofs.receipt.are_receipts_of.Given as goal

abbrev pub invariant-loop-entry : goal.invariant-loop-entry
invariant-loop-entry l = (of_station l.journal l.station ≡ l.receipts) ↔ (of_station (drop l.entry-index l.journal) l.station ≡ l.remaining)
