use Rattle.std.proofs.Common.{ap, set, [], refl, ◌∙◌, arith}
use Rattle.ndx_index.specs.PairPages.{Pages}
use Rattle.ndx_index.proofs.PageLaws.{is_there, page_changed}
use Rattle.ndx_index.proofs.pages.pair_pages.PairPages.clear.Goals as goal

pub index_mut-requires : goal.index_mut-requires
index_mut-requires c = omega (arith, (is_there c.self.view_is c.self.invariant c.requires.page).index, c.self.inside.counts.ok.0)

pub returns-clause-pages : goal.returns-clause-pages
returns-clause-pages c =
    let ps = c.self.inside.slots.pairs in
    page_changed c.self.inside.counts.items ps ps c.args.page 0 c.self.invariant.bounded (is_there c.self.view_is c.self.invariant c.requires.page).index refl refl
    ∙ ap (λ (s : Pages). set s.pages c.args.page []) c.self.view_is
