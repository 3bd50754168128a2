use Rattle.std.proofs.Common.{◌≡◌, Some, sym, ◌∙◌}
use Rattle.ndx_index.specs.Places.{back_from}
use Rattle.ndx_index.specs.Laws.Steps.{step_before}
use Rattle.table_core.proofs.indexes.TableIndex.back.Goals as goal

pub loop-preserved : goal.loop-preserved
loop-preserved c = λ i lt at.
    let ps = c.args.self.now.order.pairs in
    let k = c.loop.counter in
    let here : Some c.in-Some.at ≡ back_from ps i k = sym c.in-Some.is ∙ c.loop.invariant i lt at in
    c.previous-here.ensures.pair ∙ step_before ps i k c.in-Some.at c.requires.sorted lt here
