use Rattle.std.proofs.Common.{List, [], set, ap, ◌∙◌}
use Rattle.ndx_index.specs.declared.pair.Pair.{Pair}
use Rattle.ndx_index.specs.PageStore.{Store, no_page, zipped}
use Rattle.ndx_index.proofs.TwinLaws.{is_twin, zip_cleared}
use Rattle.ndx_index.proofs.pages.store.PageStore.clear.Goals as goal

pub clear-requires : goal.clear-requires
clear-requires c = record { page = (is_twin c.self.view_is c.self.invariant c.requires.page).pairs_index }

pub clear-requires-2 : goal.clear-requires-2
clear-requires-2 c = record { page = (is_twin c.self.view_is c.self.invariant c.requires.page).links_index }

pub returns-clause-pages : goal.returns-clause-pages
returns-clause-pages c =
    let x = c.self.inside in
    let p = c.args.page in
    ap (λ (l : List (List Pair)). zipped l c.clear-2.new.self.pages) c.clear.ensures.pages
    ∙ ap (zipped (set x.pair_pages.pages p [])) c.clear-2.ensures.pages
    ∙ zip_cleared x.pair_pages.pages x.link_pages.pages p c.self.invariant.same
    ∙ ap (λ (s : Store). set s.pages p no_page) c.self.view_is
