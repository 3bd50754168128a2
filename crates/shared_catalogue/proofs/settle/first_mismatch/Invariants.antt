use Rattle.shared_catalogue.specs.OwnCalls.{AreOwn}
use Rattle.shared_catalogue.proofs.settle.first_mismatch.Given as goal

abbrev pub invariant-loop-index : goal.invariant-loop-index
invariant-loop-index l = AreOwn l.journal l.receipts l.index
