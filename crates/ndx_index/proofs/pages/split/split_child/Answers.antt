use Rattle.std.proofs.Common.{◌≡◌, ◌<◌, length, ap, sym, rules, arith}
use Rattle.std.proofs.lemmas.List.{length-set}
use Rattle.ndx_index.specs.PageStore.{Page, page_in}
use Rattle.ndx_index.proofs.TreeLists.{links_length}
use Rattle.ndx_index.proofs.SplitChild.{can_halve, parent_at, parent_links, split_written}
use Rattle.ndx_index.proofs.pages.split.split_child.Goals as goal

pub halve-key-requires : goal.halve-key-requires
halve-key-requires c =
    let t = c.take_free-upper.ensures in
    record { can = can_halve c.args.level c.args.store.now.pages c.take_free-upper.new.store.pages c.args.free.now c.take_free-upper.new.free c.args.page c.args.at c.take_free-upper.result c.link-lower.result c.requires.can (t.there, t.pages, t.list, t.uses) (sym c.link-lower.ensures.link) }

pub put_pair-requires : goal.put_pair-requires
put_pair-requires c =
    let t = c.take_free-upper.ensures in
    let can = c.requires.can in
    let page = page_in c.halve-key.new.store.pages c.args.page in
    let same : page ≡ page_in c.args.store.now.pages c.args.page =
    parent_at c.args.level c.args.store.now.pages c.take_free-upper.new.store.pages c.halve-key.new.store.pages c.args.free.now c.take_free-upper.new.free c.args.page c.args.at c.take_free-upper.result c.link-lower.result c.halve-key.result can (t.there, t.pages, t.list, t.uses) (sym c.link-lower.ensures.link) c.halve-key.ensures.halved in
    let long = links_length c.args.level c.args.store.now.pages c.args.page can.whole.tree in
    record {
      page = omega (arith, can.whole.tree.0, c.halve-key.ensures.halved.same_length, ap length t.pages, length-set {A = Page});
      room = omega (arith, ap (λ (h : Page). length h.pairs) same, can.room, long);
      place = omega (arith, ap (λ (h : Page). length h.pairs) same, can.in_range, long);
      key = search rules;
    }

pub put_link-requires : goal.put_link-requires
put_link-requires c =
    let t = c.take_free-upper.ensures in
    let can = c.requires.can in
    let page = page_in c.halve-key.new.store.pages c.args.page in
    let same : page ≡ page_in c.args.store.now.pages c.args.page =
    parent_at c.args.level c.args.store.now.pages c.take_free-upper.new.store.pages c.halve-key.new.store.pages c.args.free.now c.take_free-upper.new.free c.args.page c.args.at c.take_free-upper.result c.link-lower.result c.halve-key.result can (t.there, t.pages, t.list, t.uses) (sym c.link-lower.ensures.link) c.halve-key.ensures.halved in
    let there : c.args.page < length c.halve-key.new.store.pages = omega (arith, can.whole.tree.0, c.halve-key.ensures.halved.same_length, ap length t.pages, length-set {A = Page}) in
    let links = ap length (parent_links c.halve-key.new.store.pages c.put_pair.new.self.pages c.args.page c.args.at c.halve-key.result there c.put_pair.ensures.pages) in
    record {
      page = omega (arith, there, ap length c.put_pair.ensures.pages, length-set {A = Page});
      room = omega (arith, can.room, links, ap (λ (h : Page). length h.links) same);
      place = omega (arith, can.in_range, links, ap (λ (h : Page). length h.links) same);
    }

pub returns-clause-split : goal.returns-clause-split
returns-clause-split c =
    let t = c.take_free-upper.ensures in
    split_written c.args.level c.args.store.now.pages c.take_free-upper.new.store.pages c.halve-key.new.store.pages c.put_pair.new.self.pages c.put_link.new.self.pages c.args.free.now c.take_free-upper.new.free c.args.page c.args.at c.take_free-upper.result c.link-lower.result c.halve-key.result c.requires.can (t.there, t.pages, t.list, t.uses) t.count (sym c.link-lower.ensures.link) c.halve-key.ensures.halved c.put_pair.ensures.pages c.put_link.ensures.pages
