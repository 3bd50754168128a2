use Rattle.std.proofs.Common.{◌≡◌, map}
use Rattle.table_core.specs.Indexes.{Follows, FollowsAside, HasRoom, indexed}
use Rattle.table_core.proofs.Turned.{Turned}
use Rattle.table_core.proofs.indexes.all.put_in_named.Given as goal

abbrev pub invariant-loop-index : goal.invariant-loop-index
invariant-loop-index l = record {
  turned : Turned (λ ix. FollowsAside l.target l.records.table ix × HasRoom ix) (Follows l.records.table) l.index-index l.index-items;
  same : map indexed l.index-items ≡ map indexed l.fn.indexes.items;
}
