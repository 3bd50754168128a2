use Rattle.std.proofs.Common.{◌+◌, ◌-◌, ◌/◌, sym, ◌∙◌, arith}
use Rattle.ndx_index.specs.Bounds.{passes}
use Rattle.ndx_index.specs.PairPages.{page_at}
use Rattle.ndx_index.proofs.BoundLaws.{passes_up}
use Rattle.ndx_index.proofs.Bisection.{below_mid, above_mid}
use Rattle.ndx_index.proofs.pages.pair_pages.PairPages.place.Goals as goal

pub halves-preserved-then-passes : goal.halves-preserved-then-passes
halves-preserved-then-passes c =
    let here = page_at c.args.self.now.pages c.args.page in
    let mid = c.halves.low + (c.halves.high - c.halves.low) / 2 in
    record {
      order = omega (arith, c.halves-test.true);
      within = omega (arith, c.halves-test.true, c.halves.invariant.within);
      below = c.halves.invariant.below;
      above = above_mid (passes c.args.bound.now) here mid (passes_up c.args.bound.now here c.requires.order) (sym c.passes.ensures.value ∙ c.if-passes.true);
    }

pub halves-preserved : goal.halves-preserved
halves-preserved c =
    let here = page_at c.args.self.now.pages c.args.page in
    let mid = c.halves.low + (c.halves.high - c.halves.low) / 2 in
    record {
      order = omega (arith, c.halves-test.true);
      within = c.halves.invariant.within;
      below = below_mid (passes c.args.bound.now) here mid (passes_up c.args.bound.now here c.requires.order) (omega (arith, c.halves-test.true, c.halves.invariant.within)) (sym c.passes.ensures.value ∙ c.if-passes.false);
      above = c.halves.invariant.above;
    }
