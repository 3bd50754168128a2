use Rattle.ndx_index.proofs.pages.search.+first_leaf.Given as goal

abbrev pub decreases-first_leaf : goal.decreases-first_leaf
decreases-first_leaf l = l.level
