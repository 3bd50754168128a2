use Rattle.std.proofs.Common.{◌≡◌, ap}
use Rattle.std.specs.List.{insert}
use Rattle.std.proofs.lemmas.List.{get_or-set_same}
use Rattle.ndx_index.specs.PageStore.{Page, page_in, no_page, with_links}
use Rattle.ndx_index.proofs.RootInsert.{raised}
use Rattle.ndx_index.proofs.pages.insert.raise.Goals as goal

pub returns-clause-raised : goal.returns-clause-raised
returns-clause-raised c =
    let a = c.args.store.now.pages in
    let b1 = c.take_free-top.new.store.pages in
    let q = c.take_free-top.result in
    let t = c.take_free-top.ensures in
    let empty : page_in b1 q ≡ no_page = rw t.pages (get_or-set_same a q no_page no_page t.there) in
    raised a b1 c.put_link.new.self.pages c.args.free.now c.take_free-top.new.free c.args.root.now q (with_links (insert (page_in b1 q).links 0 c.args.root.now.page) (page_in b1 q)) c.requires.can (t.there, t.pages, t.list, t.uses) t.count c.put_link.ensures.pages (ap (λ (h : Page). h.pairs) empty) (ap (λ (h : Page). insert h.links 0 c.args.root.now.page) empty)
