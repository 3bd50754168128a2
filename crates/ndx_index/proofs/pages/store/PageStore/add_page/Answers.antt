use Rattle.std.proofs.Common.{◌≡◌, ◌+◌, List, [], ◌∷◌, ◌++◌, length, ap, sym, ◌∙◌, arith}
use Rattle.std.proofs.lemmas.List.{length-append}
use Rattle.ndx_index.specs.declared.pair.Pair.{Pair}
use Rattle.ndx_index.specs.PageStore.{Store, no_page, zipped}
use Rattle.ndx_index.proofs.TwinLaws.{length-zipped, store_count, zip_pushed}
use Rattle.ndx_index.proofs.pages.store.PageStore.add_page.Goals as goal

pub returns-clause-pages : goal.returns-clause-pages
returns-clause-pages c =
    let x = c.self.inside in
    let none : List Pair = [] in
    let pairs : c.push_page.new.self.pages ≡ x.pair_pages.pages ++ none ∷ [] = c.push_page.ensures.pages ∙ ap (λ (l : List (List Pair)). l ++ none ∷ []) c.reserve.ensures.pages in
    let links : c.push_page-2.new.self.pages ≡ x.link_pages.pages ++ none ∷ [] = c.push_page-2.ensures.pages ∙ ap (λ (l : List (List Pair)). l ++ none ∷ []) c.reserve-2.ensures.pages in
    ap (λ (l : List (List Pair)). zipped l c.push_page-2.new.self.pages) pairs
    ∙ ap (zipped (x.pair_pages.pages ++ none ∷ [])) links
    ∙ zip_pushed x.pair_pages.pages x.link_pages.pages none c.self.invariant.same
    ∙ ap (λ (s : Store). s.pages ++ no_page ∷ []) c.self.view_is

pub returns-clause-number : goal.returns-clause-number
returns-clause-number c = c.page_count-page.ensures.value ∙ ap length c.reserve.ensures.pages ∙ sym (store_count c.self.view_is c.self.invariant)

pub returns-clause-count_bounded : goal.returns-clause-count_bounded
returns-clause-count_bounded c =
    let none : List Pair = [] in
    let pairs : length c.push_page.new.self.pages ≡ length c.reserve.new.self.pages + 1 = ap length c.push_page.ensures.pages ∙ length-append c.reserve.new.self.pages (none ∷ []) in
    let links : length c.push_page-2.new.self.pages ≡ length c.reserve-2.new.self.pages + 1 = ap length c.push_page-2.ensures.pages ∙ length-append c.reserve-2.new.self.pages (none ∷ []) in
    let same : length c.push_page.new.self.pages ≡ length c.push_page-2.new.self.pages =
    omega (arith, pairs, links, ap length c.reserve.ensures.pages, ap length c.reserve-2.ensures.pages, c.self.invariant.same) in
    omega (arith, length-zipped c.push_page.new.self.pages c.push_page-2.new.self.pages same, pairs, c.page_count-page.ensures.count_bounded, c.in_ok-reserve.ensures.ok)
