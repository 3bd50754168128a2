use Rattle.std.proofs.Common.{find, reverse, ap, ◌∙◌}
use Rattle.ndx_index.proofs.BoundLaws.{failing_least}
use Rattle.ndx_index.proofs.index.OrderedIndex.previous.Goals as goal

pub returns : goal.returns
returns c = record { pair = c.last_failing.ensures.pair ∙ ap (λ test. find test (reverse c.args.self.now.pairs)) (failing_least c.at_least.result c.args.pair c.at_least.ensures.test) }
