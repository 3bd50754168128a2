use Rattle.std.proofs.Common.{◌≡◌, ◌+◌, ◌≤◌, [], replicate}
use Rattle.ndx_index.proofs.pages.pair_pages.PairPages.empty.Given as goal

abbrev pub invariant-loop-page : goal.invariant-loop-page
invariant-loop-page l = record {
  pages : l.pages.pages ≡ replicate l.page [];
  room : l.count ≤ l.page + l.pages.spare;
  key_len : l.pages.key_len ≡ l.key_len;
}
