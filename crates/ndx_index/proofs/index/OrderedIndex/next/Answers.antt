use Rattle.std.proofs.Common.{find, ap, ◌∙◌}
use Rattle.ndx_index.proofs.index.OrderedIndex.next.Goals as goal

pub returns : goal.returns
returns c = record { pair = c.first_passing.ensures.pair ∙ ap (λ test. find test c.args.self.now.pairs) c.above.ensures.test }
