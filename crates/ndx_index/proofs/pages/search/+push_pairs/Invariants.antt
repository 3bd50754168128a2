use Rattle.std.proofs.Common.{◌≡◌, ◌-◌, ◌++◌, map, take}
use Rattle.ndx_index.specs.PageStore.{page_in}
use Rattle.ndx_index.specs.IndexTree.{joined, pairs_under}
use Rattle.ndx_index.proofs.pages.search.+push_pairs.Given as goal

abbrev pub decreases-push_pairs : goal.decreases-push_pairs
decreases-push_pairs l = l.level

abbrev pub invariant-loop-at : goal.invariant-loop-at
invariant-loop-at l = record {
  pairs : l.pairs.pairs ≡ l.fn.pairs.pairs ++ joined (map (λ c. pairs_under (l.level - 1) l.store.pages c) (take l.at (page_in l.store.pages l.page).links));
  key_len : l.pairs.key_len ≡ l.fn.pairs.key_len;
}
