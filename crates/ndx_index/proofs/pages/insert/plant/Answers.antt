use Rattle.std.proofs.Common.{◌≡◌, ap}
use Rattle.std.specs.List.{insert}
use Rattle.std.proofs.lemmas.List.{get_or-set_same}
use Rattle.ndx_index.specs.PageStore.{Page, page_in, no_page, with_pairs}
use Rattle.ndx_index.proofs.RootInsert.{planted}
use Rattle.ndx_index.proofs.pages.insert.plant.Goals as goal

pub returns-clause-inserted : goal.returns-clause-inserted
returns-clause-inserted c =
    let a = c.args.store.now.pages in
    let b1 = c.take_free-root.new.store.pages in
    let q = c.take_free-root.result in
    let t = c.take_free-root.ensures in
    let empty : page_in b1 q ≡ no_page = rw t.pages (get_or-set_same a q no_page no_page t.there) in
    planted a b1 c.put_pair.new.self.pages c.args.free.now c.take_free-root.new.free c.args.root.now c.args.pair.now q (with_pairs (insert (page_in b1 q).pairs 0 c.args.pair.now) (page_in b1 q)) c.requires.none c.requires.can (t.there, t.pages, t.list, t.uses) c.put_pair.ensures.pages (ap (λ (h : Page). insert h.pairs 0 c.args.pair.now) empty)
