use Rattle.std.proofs.Common.{◌≡◌, ℕ, ◌<◌, length, get_or}
use Rattle.ndx_index.specs.Places.{back_from}
use Rattle.table_core.proofs.indexes.TableIndex.back.Given as goal

abbrev pub invariant-loop : goal.invariant-loop
invariant-loop l = (i : ℕ) → i < length l.self.order.pairs → get_or l.self.order.pairs i l.fn.pair ≡ l.fn.pair → l.here ≡ back_from l.self.order.pairs i l.counter
