use Rattle.std.proofs.Common.{◌≡◌, take}
use Rattle.shared_catalogue.proofs.receipt.Receipts.copy.Given as goal

abbrev pub invariant-loop-receipt : goal.invariant-loop-receipt
invariant-loop-receipt l = l.copy ≡ take l.receipt-index l.self
