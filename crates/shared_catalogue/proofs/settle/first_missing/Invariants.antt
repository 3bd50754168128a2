use Rattle.std.proofs.Common.{ℕ, ◌≤◌}
use Rattle.shared_catalogue.specs.Seats.{HasSeat}
use Rattle.shared_catalogue.proofs.settle.first_missing.Given as goal

abbrev pub invariant-loop-index : goal.invariant-loop-index
invariant-loop-index g l = (s : ℕ) → 1 ≤ s → s ≤ l.index → HasSeat l.seats s
