use Rattle.std.proofs.Common.{take}
use Rattle.std.specs.List.{AllByRecursion}
use Rattle.table_order.specs.TableOrder.{IsRecordPair}
use Rattle.table_core.proofs.indexes.kept.are_record_pairs.Given as goal

abbrev pub invariant-loop-at : goal.invariant-loop-at
invariant-loop-at l = AllByRecursion (IsRecordPair l.records.table l.expr.expr) (take l.at l.pairs.pairs)
