use Rattle.ndx_index.proofs.pages.search.+last_leaf.Given as goal

abbrev pub decreases-last_leaf : goal.decreases-last_leaf
decreases-last_leaf l = l.level
