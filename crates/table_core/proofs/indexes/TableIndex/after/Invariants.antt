use Rattle.std.proofs.Common.{◌≡◌, ℕ, ◌+◌, ◌<◌, length, get_or}
use Rattle.std.specs.List.{slice_get}
use Rattle.table_core.proofs.indexes.TableIndex.after.Given as goal

abbrev pub invariant-loop : goal.invariant-loop
invariant-loop l = (i : ℕ) → i < length l.self.order.pairs → get_or l.self.order.pairs i l.fn.pair ≡ l.fn.pair → l.here ≡ slice_get l.self.order.pairs (i + l.counter)
