use Rattle.std.proofs.Common.{arith}
use Rattle.setup_check.proofs.ScriptTextLaws.{still_more, still_end, counting_more, counted_few, counts_end}
use Rattle.setup_check.proofs.scripts.counts_of.Goals as goal

pub loop-line-preserved : goal.loop-line-preserved
loop-line-preserved c = record {
  read = still_more _ _ _ _ _ _ c.loop-line.invariant.read c.in-Some.ensures.joined
      (counting_more c.loop-line.number c.loop-line.bad c.counted-bad.result c.in-Some.line.now c.is_bad_line.result c.is_bad_line.ensures.value c.counted-bad.ensures.value);
  room = omega (arith, c.loop-line.invariant.room, c.in-Some.ensures.shorter);
  few = counted_few c.is_bad_line.result c.loop-line.bad c.counted-bad.result c.loop-line.number c.counted-bad.ensures.value c.loop-line.invariant.few;
}

pub returns : goal.returns
returns c = record { counts = λ all are. counts_end _ all (still_end _ _ _ c.loop-line.invariant.read c.in_default.ensures.none all are) }
