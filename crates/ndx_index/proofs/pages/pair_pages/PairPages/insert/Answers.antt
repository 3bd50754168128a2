use Rattle.std.proofs.Common.{◌≡◌, ◌+◌, length, set, ◌∙◌, rules, arith}
use Rattle.std.specs.List.{insert}
use Rattle.std.proofs.lemmas.List.{length-set}
use Rattle.ndx_index.specs.PairPages.{page_at}
use Rattle.ndx_index.proofs.PageLaws.{is_there, count_read, page_inserted, page_edited, small_set}
use Rattle.ndx_index.proofs.pages.pair_pages.PairPages.insert.Goals as goal

pub copy_within-requires : goal.copy_within-requires
copy_within-requires c =
    let there = is_there c.self.view_is c.self.invariant c.requires.page in
    record { order = omega arith; inside = omega (arith, there.slots); room = omega (arith, there.slots) }

pub set-requires : goal.set-requires
set-requires c = record { place = omega (arith, (is_there c.self.view_is c.self.invariant c.requires.page).slots); key = search rules }

pub index_mut-requires : goal.index_mut-requires
index_mut-requires c = omega (arith, (is_there c.self.view_is c.self.invariant c.requires.page).index, c.self.inside.counts.ok.0)

pub overflow_add-index_mut : goal.overflow_add-index_mut
overflow_add-index_mut c = omega (arith, count_read (is_there c.self.view_is c.self.invariant c.requires.page) c.index_mut.ensures.value)

pub invariant_of-self : goal.invariant_of-self
invariant_of-self c =
    let pages = c.self.invariant in
    let n = c.index_mut.result.now in
    let same : length (set c.self.inside.counts.items c.args.page (n + 1)) ≡ length c.self.inside.counts.items = length-set c.self.inside.counts.items c.args.page (n + 1) in
    record {
      fit = rw same (c.set.ensures.len ∙ c.copy_within.ensures.len ∙ pages.fit);
      bounded = small_set c.self.inside.counts.items c.args.page (n + 1) pages.bounded (omega (arith, count_read (is_there c.self.view_is c.self.invariant c.requires.page) c.index_mut.ensures.value));
      slots_room = rw (c.set.ensures.spare, c.copy_within.ensures.spare) pages.slots_room;
      count_bounded = rw same pages.count_bounded;
      counts_room = rw same pages.counts_room;
    }

pub returns-clause-pages : goal.returns-clause-pages
returns-clause-pages c =
    let there = is_there c.self.view_is c.self.invariant c.requires.page in
    let n = length (page_at c.args.self.now.pages c.args.page) in
    rw (c.set.ensures.pairs, c.copy_within.ensures.pairs, c.slots_of-slots.ensures.start, c.slots_of-slots.ensures.end, count_read there c.index_mut.ensures.value)
    (page_inserted c.self.inside.counts.items c.self.inside.slots.pairs c.args.page c.args.at n c.args.pair.now c.self.invariant.bounded there.index c.self.invariant.fit c.requires.place c.requires.room
    ∙ page_edited (λ l. insert l c.args.at c.args.pair.now) c.self.view_is there)
