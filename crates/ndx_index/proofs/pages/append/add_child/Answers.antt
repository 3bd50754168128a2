use Rattle.std.proofs.Common.{◌-◌, [], ◌∷◌, length, length-append, ap, arith}
use Rattle.std.specs.List.{insert}
use Rattle.ndx_index.specs.PageStore.{Page, no_page, with_links}
use Rattle.ndx_index.proofs.Appending.{adds_link, new_page_set}
use Rattle.ndx_index.proofs.pages.append.add_child.Goals as goal

pub returns-then-count-lt-PLACES-clause-added : goal.returns-then-count-lt-PLACES-clause-added
returns-then-count-lt-PLACES-clause-added c =
    adds_link c.args.store.now.pages c.put_pair.new.self.pages c.put_link.new.self.pages c.args.page c.link_count-count.result (c.link_count-count.result - 1) c.args.pair.now c.args.child
    c.requires.there c.link_count-count.ensures.count (omega (arith, c.link_count-count.ensures.count, c.requires.keys)) c.put_pair.ensures.pages c.put_link.ensures.pages

pub returns-clause-added : goal.returns-clause-added
returns-clause-added c =
    let a = c.args.store.now.pages in
    let a1 = c.add_page.new.self.pages in
    let q = c.in_ok-beside.beside in
    let grew = c.in_ok-beside.ensures.pages in
    let done = new_page_set a a1 c.put_link-2.new.self.pages no_page q (λ (g : Page). with_links (insert g.links 0 c.args.child) g) grew c.in_ok-beside.ensures.number c.put_link-2.ensures.pages in (
      c.in_ok-beside.ensures.number,
      omega (arith, c.in_ok-beside.ensures.count_bounded, ap length grew, ap length done, length-append a (no_page ∷ []), length-append a (record { pairs = []; links = c.args.child ∷ [] } ∷ [])),
      done,
    )
