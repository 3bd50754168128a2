use Rattle.std.proofs.Common.{arith}
use Rattle.ndx_index.proofs.PageLaws.{is_there, count_read}
use Rattle.ndx_index.proofs.pages.pair_pages.PairPages.slots_of.Goals as goal

pub overflow_mul-start : goal.overflow_mul-start
overflow_mul-start c = omega (arith, (is_there c.self.view_is c.self.invariant c.requires.page).near)

pub index-requires : goal.index-requires
index-requires c = omega (arith, (is_there c.self.view_is c.self.invariant c.requires.page).index, c.self.inside.counts.ok.0)

pub overflow_add-result : goal.overflow_add-result
overflow_add-result c =
    let there = is_there c.self.view_is c.self.invariant c.requires.page in
    omega (arith, there.near, there.bounded, there.count, count_read there c.index.ensures)

pub returns : goal.returns
returns c =
    let there = is_there c.self.view_is c.self.invariant c.requires.page in
    record {
      start = omega arith;
      end = omega (arith, c.from-count.ensures, count_read there c.index.ensures);
      bounded = omega (arith, there.bounded, there.count);
      fits = there.near;
    }
