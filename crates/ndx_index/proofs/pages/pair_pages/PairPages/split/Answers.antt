use Rattle.std.proofs.Common.{◌≡◌, ◌-◌, ◌*◌, List, length, set, take, drop, ap, sym, ◌∙◌, arith}
use Rattle.std.proofs.lemmas.List.{length-set}
use Rattle.ndx_index.specs.declared.pair.Pair.{Pair}
use Rattle.ndx_index.specs.PairPages.{Pages, page_at}
use Rattle.ndx_index.proofs.PageLaws.{is_there, count_read, page_split, page_slots, small_set}
use Rattle.ndx_index.proofs.pages.pair_pages.PairPages.split.Goals as goal

pub index-count-requires : goal.index-count-requires
index-count-requires c = omega (arith, (is_there c.self.view_is c.self.invariant c.requires.page).index, c.self.inside.counts.ok.0)

pub copy_within-requires : goal.copy_within-requires
copy_within-requires c =
    let there = is_there c.self.view_is c.self.invariant c.requires.page in
    record { order = omega arith; inside = omega (arith, there.slots); room = omega (arith, (is_there c.self.view_is c.self.invariant c.requires.to).slots) }

pub overflow_sub-count : goal.overflow_sub-count
overflow_sub-count c = omega (arith, count_read (is_there c.self.view_is c.self.invariant c.requires.page) c.index-count.ensures)

pub index_mut-requires : goal.index_mut-requires
index_mut-requires c = omega (arith, (is_there c.self.view_is c.self.invariant c.requires.to).index, c.self.inside.counts.ok.0)

pub index_mut-requires-2 : goal.index_mut-requires-2
index_mut-requires-2 c = omega (arith, (is_there c.self.view_is c.self.invariant c.requires.page).index, c.self.inside.counts.ok.0)

pub invariant_of-self : goal.invariant_of-self
invariant_of-self c =
    let there = is_there c.self.view_is c.self.invariant c.requires.page in
    let pages = c.self.invariant in
    let cs = c.self.inside.counts.items in
    let n = c.index-count.result.now in
    let first = set cs c.args.to (n - c.args.at) in
    let same : length (set first c.args.page c.args.at) ≡ length cs = length-set first c.args.page c.args.at ∙ length-set cs c.args.to (n - c.args.at) in
    let smaller = small_set cs c.args.to (n - c.args.at) pages.bounded (omega (arith, count_read there c.index-count.ensures)) in
    record {
      fit = rw same (c.copy_within.ensures.len ∙ pages.fit);
      bounded = small_set first c.args.page c.args.at smaller (omega arith);
      slots_room = rw c.copy_within.ensures.spare pages.slots_room;
      count_bounded = rw same pages.count_bounded;
      counts_room = rw same pages.counts_room;
    }

pub returns-clause-pages : goal.returns-clause-pages
returns-clause-pages c =
    let there = is_there c.self.view_is c.self.invariant c.requires.page in
    let other = is_there c.self.view_is c.self.invariant c.requires.to in
    let now = c.args.self.now.pages in
    let n = length (page_at now c.args.page) in
    let at = c.args.at in
    let own = take n (drop (c.args.page * 16) c.self.inside.slots.pairs) in
    rw (c.copy_within.ensures.pairs, c.slots_of-slots.ensures.start, c.slots_of-slots.ensures.end, c.slots_of-dest.ensures.start, c.from.ensures, count_read there c.index-count.ensures)
    (page_split c.self.inside.counts.items c.self.inside.slots.pairs c.args.page c.args.to at n c.self.invariant.bounded there.index other.index c.requires.apart c.self.invariant.fit (sym there.count) c.requires.place c.slots_of-slots.ensures.bounded
    ∙ ap (λ (s : Pages). set (set s.pages c.args.to (drop at own)) c.args.page (take at own)) c.self.view_is
    ∙ ap (λ (g : List Pair). set (set now c.args.to (drop at g)) c.args.page (take at g)) (page_slots there))
