use Rattle.std.proofs.Common.{◌≡◌, map}
use Rattle.table_core.specs.Indexes.{HasRoom, seen_index}
use Rattle.table_core.proofs.Turned.{Turned}
use Rattle.table_core.proofs.indexes.all.reserve_all.Given as goal

abbrev pub invariant-loop-index : goal.invariant-loop-index
invariant-loop-index l = record {
  room : Turned (λ _. Unit {0}) HasRoom l.index-index l.index-items;
  same : map seen_index l.index-items ≡ map seen_index l.fn.indexes.items;
}
