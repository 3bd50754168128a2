use Rattle.ndx_index.specs.Laws.Sorting.{in_order_from_sort, IsPermutation-in_order, IsSorted-in_order}
use Rattle.ndx_index.proofs.one_order.Goals as goal

pub returns : goal.returns
returns c = record {
  permutation = IsPermutation-in_order;
  sorted = IsSorted-in_order;
  only = in_order_from_sort;
}
