use Rattle.journal_file.proofs.TextLaws.{sums_left, all_pushed}
use Rattle.journal_file.proofs.writing.push_sums.Goals as goal

pub loop-sum-preserved : goal.loop-sum-preserved
loop-sum-preserved c =
    sums_left c.args.word.now _ _ c.args.sums.now c.loop-sum.sum-index c.sum-item.result _ c.loop-sum-test.true c.sum-item.is c.in_ok-push_sum.ensures.pushed c.loop-sum.invariant

pub returns : goal.returns
returns c = record { pushed = all_pushed c.args.word.now _ c.args.sums.now c.loop-sum.sum-index _ c.loop-sum-test.false c.loop-sum.invariant }
