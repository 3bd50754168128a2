use Rattle.std.proofs.Common.{◌≡◌, ◌+◌, Some, sym, ap, ◌∙◌, arith}
use Rattle.std.specs.List.{slice_get}
use Rattle.ndx_index.specs.Laws.Steps.{step_after}
use Rattle.table_core.proofs.indexes.TableIndex.after.Goals as goal

pub loop-preserved : goal.loop-preserved
loop-preserved c = λ i lt at.
    let ps = c.args.self.now.order.pairs in
    let k = c.loop.counter in
    let here : Some c.in-Some.at ≡ slice_get ps (i + k) = sym c.in-Some.is ∙ c.loop.invariant i lt at in
    let m : i + k + 1 ≡ i + (k + 1) = omega arith in
    c.next-here.ensures.pair ∙ step_after ps (i + k) c.in-Some.at c.requires.sorted here ∙ ap (slice_get ps) m
