use Rattle.std.proofs.Common.{length, ◌∙◌, arith}
use Rattle.std.specs.List.{remove}
use Rattle.ndx_index.specs.PairPages.{page_at}
use Rattle.ndx_index.proofs.PageLaws.{is_there, count_read, page_removed, page_edited}
use Rattle.ndx_index.proofs.pages.pair_pages.PairPages.remove.Goals as goal

pub copy_within-requires : goal.copy_within-requires
copy_within-requires c =
    let there = is_there c.self.view_is c.self.invariant c.requires.page in
    record { order = omega arith; inside = omega (arith, there.slots); room = omega (arith, there.slots) }

pub index_mut-requires : goal.index_mut-requires
index_mut-requires c = omega (arith, (is_there c.self.view_is c.self.invariant c.requires.page).index, c.self.inside.counts.ok.0)

pub overflow_sub-index_mut : goal.overflow_sub-index_mut
overflow_sub-index_mut c = omega (arith, count_read (is_there c.self.view_is c.self.invariant c.requires.page) c.index_mut.ensures.value)

pub returns-clause-pages : goal.returns-clause-pages
returns-clause-pages c =
    let there = is_there c.self.view_is c.self.invariant c.requires.page in
    let n = length (page_at c.args.self.now.pages c.args.page) in
    rw (c.copy_within.ensures.pairs, c.slots_of-slots.ensures.start, c.slots_of-slots.ensures.end, count_read there c.index_mut.ensures.value)
    (page_removed c.self.inside.counts.items c.self.inside.slots.pairs c.args.page c.args.at n c.self.invariant.bounded there.index c.self.invariant.fit c.requires.place c.slots_of-slots.ensures.bounded
    ∙ page_edited (λ l. remove l c.args.at) c.self.view_is there)
