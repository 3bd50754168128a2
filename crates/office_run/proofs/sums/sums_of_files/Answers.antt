use Rattle.office_run.proofs.NotedLaws.{sums_more, sums_small}
use Rattle.office_run.proofs.sums.sums_of_files.Goals as goal

pub loop-index-preserved : goal.loop-index-preserved
loop-index-preserved c = (
  sums_more c.args.files.now c.loop-index.index _ _ c.in_ok-sum.field-0 c.in_ok-sum.ensures.value c.in_ok-push.ensures.items c.loop-index.invariant.0,
  sums_small _ c.in_ok-sum.field-0 _ c.in_ok-push.ensures.items c.loop-index.invariant.1 c.in_ok-sum.ensures.small,
)
