use Rattle.std.proofs.Common.{Contains, ◌∙◌, subst}
use Rattle.ndx_index.specs.Laws.Sorting.{absent_without}
use Rattle.index_tests.proofs.tests.sample.put.Goals as goal

pub insert-requires-clause-absent : goal.insert-requires-clause-absent
insert-requires-clause-absent c = λ h.
    absent_without c.args.pair.now c.args.index.now.pairs (subst (λ ps. Contains ps c.args.pair.now) (c.in_ok-reserve.ensures.pairs ∙ c.remove.ensures.pairs) h)
