use Rattle.std.proofs.Common.{◌∙◌, arith}
use Rattle.ndx_index.proofs.PageLaws.{is_there, count_read}
use Rattle.ndx_index.proofs.pages.pair_pages.PairPages.count.Goals as goal

pub index-requires : goal.index-requires
index-requires c = omega (arith, (is_there c.self.view_is c.self.invariant c.requires.page).index, c.self.inside.counts.ok.0)

pub returns : goal.returns
returns c =
    let there = is_there c.self.view_is c.self.invariant c.requires.page in
    let count = count_read there c.index.ensures in
    record { count = c.from.ensures ∙ count; bounded = omega (arith, there.bounded, there.count, count) }
