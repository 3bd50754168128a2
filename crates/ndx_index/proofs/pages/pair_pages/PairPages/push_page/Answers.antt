use Rattle.std.proofs.Common.{List, [], ◌∷◌, ◌++◌, ap, ◌∙◌, replicate}
use Rattle.ndx_index.specs.declared.pair.Pair.{Pair}
use Rattle.ndx_index.specs.Slots.{blank}
use Rattle.ndx_index.specs.PairPages.{Pages}
use Rattle.ndx_index.proofs.PageLaws.{page_pushed}
use Rattle.ndx_index.proofs.pages.pair_pages.PairPages.push_page.Goals as goal

pub returns-clause-pages : goal.returns-clause-pages
returns-clause-pages c =
    let inside = c.self.inside in
    let none : List Pair = [] in
    let blanks = replicate 16 (blank inside.slots.key_len) in
    rw (c.push_reserved.ensures.items, c.push_blank.ensures.pairs)
    (page_pushed inside.counts.items inside.slots.pairs none blanks c.self.invariant.bounded c.self.invariant.fit
    ∙ ap (λ (s : Pages). s.pages ++ none ∷ []) c.self.view_is)
