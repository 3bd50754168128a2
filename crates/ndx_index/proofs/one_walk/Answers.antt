use Rattle.ndx_index.proofs.Laws.{tree_from_visits, visits_from_tree, one_walk}
use Rattle.ndx_index.proofs.one_walk.Goals as goal

pub returns : goal.returns
returns c = record {
  tree = λ s bytes root pages pairs. (tree_from_visits s bytes root pages pairs, visits_from_tree s bytes root pages pairs);
  only = λ s bytes root pages others pairs rest r t v w. one_walk s bytes v w;
}
