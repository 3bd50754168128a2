use Rattle.std.proofs.Common.{◌≡◌, List, [], length, ap, ◌∙◌, arith}
use Rattle.std.proofs.lemmas.List.{length-replicate}
use Rattle.ndx_index.specs.declared.pair.Pair.{Pair}
use Rattle.ndx_index.specs.IndexTree.{joined}
use Rattle.ndx_index.proofs.Filled.{zipped_pairs, zipped_some}
use Rattle.ndx_index.proofs.pages.store.PageStore.of_leaves.Goals as goal

pub returns-clause-pairs : goal.returns-clause-pairs
returns-clause-pairs c =
    let none : List Pair = [] in
    let ps = c.in_ok-pair_pages.pair_pages.pages in
    let ls = c.in_ok-link_pages.link_pages.pages in
    let same : length ps ≡ length ls = omega (arith, c.page_count.ensures.value, ap length c.in_ok-link_pages.ensures.pages, length-replicate c.page_count.result none) in
    ap joined (zipped_pairs ps ls same) ∙ c.in_ok-pair_pages.ensures.pairs

pub returns-clause-some : goal.returns-clause-some
returns-clause-some c =
    let none : List Pair = [] in
    let ps = c.in_ok-pair_pages.pair_pages.pages in
    let ls = c.in_ok-link_pages.link_pages.pages in
    let same : length ps ≡ length ls = omega (arith, c.page_count.ensures.value, ap length c.in_ok-link_pages.ensures.pages, length-replicate c.page_count.result none) in
    zipped_some ps ls same c.in_ok-pair_pages.ensures.some
