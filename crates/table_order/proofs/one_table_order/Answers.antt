use Rattle.ndx_index.specs.Laws.Sorting.{IsPermutation-in_order}
use Rattle.table_order.specs.Laws.RecordOrders.{table_in_order}
use Rattle.table_order.specs.TableOrder.{pairs_of}
use Rattle.table_order.proofs.one_table_order.Goals as goal

pub returns : goal.returns
returns c = record {
  in_order = table_in_order;
  whole = λ table e. IsPermutation-in_order (pairs_of table e);
}
