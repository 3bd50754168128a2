use Rattle.std.proofs.Common.{arith}
use Rattle.journal_file.proofs.ReadLaws.{more_read}
use Rattle.journal_file.proofs.reads.after_files.Goals as goal

pub loop-sum-preserved : goal.loop-sum-preserved
loop-sum-preserved c = record {
  read = more_read c.args.text.now c.loop-sum.rest.now c.in-Some.after.now c.args.read.now c.loop-sum.sum-index c.sum-item.result
      c.loop-sum-test.true c.sum-item.is c.loop-sum.invariant.read (rw c.in-Some.is at c.in_ok-after.ensures.found);
  place = omega (arith, c.loop-sum.invariant.place);
}
