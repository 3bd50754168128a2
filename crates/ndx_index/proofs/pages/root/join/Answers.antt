use Rattle.std.proofs.Common.{◌≡◌, ◌++◌, [], ◌∷◌, length, length-append, ap, refl, arith}
use Rattle.std.specs.List.{insert}
use Rattle.ndx_index.specs.PageStore.{Page, no_page, with_pairs, with_links}
use Rattle.ndx_index.proofs.Appending.{new_page_set}
use Rattle.ndx_index.proofs.pages.root.join.Goals as goal

pub returns-clause-top : goal.returns-clause-top
returns-clause-top c =
    let a = c.args.store.now.pages in
    let q = c.in_ok-page.page in
    let grew = c.in_ok-page.ensures.pages in
    let n = c.in_ok-page.ensures.number in
    let one : Page = record { pairs = []; links = c.args.root.page ∷ [] } in
    let two : Page = record { pairs = []; links = c.args.root.page ∷ c.args.beside ∷ [] } in
    let top : Page = record { pairs = c.args.pair.now ∷ []; links = c.args.root.page ∷ c.args.beside ∷ [] } in
    let first : c.put_link.new.self.pages ≡ a ++ one ∷ [] =
    new_page_set a c.add_page.new.self.pages c.put_link.new.self.pages no_page q (λ (g : Page). with_links (insert g.links 0 c.args.root.page) g) grew n c.put_link.ensures.pages in
    let second : c.put_link-2.new.self.pages ≡ a ++ two ∷ [] =
    new_page_set a c.put_link.new.self.pages c.put_link-2.new.self.pages one q (λ (g : Page). with_links (insert g.links 1 c.args.beside) g) first n c.put_link-2.ensures.pages in
    let third : c.put_pair.new.self.pages ≡ a ++ top ∷ [] =
    new_page_set a c.put_link-2.new.self.pages c.put_pair.new.self.pages two q (λ (g : Page). with_pairs (insert g.pairs 0 c.args.pair.now) g) second n c.put_pair.ensures.pages in
    record {
      levels = refl;
      page = n;
      count_bounded = omega (arith, c.in_ok-page.ensures.count_bounded, ap length grew, ap length third, length-append a (no_page ∷ []), length-append a (top ∷ []));
      pages = third;
    }
