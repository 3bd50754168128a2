use Rattle.journal_file.proofs.TextLaws.{one_taken, sums_taken}
use Rattle.journal_file.proofs.cutting.cut_sums.Goals as goal

pub loop-cut-preserved : goal.loop-cut-preserved
loop-cut-preserved c = one_taken c.args.word.now c.args.text.now _ _ _ c.loop-cut.invariant c.in-Some.ensures.found

pub returns : goal.returns
returns c = record {
  found = sums_taken c.args.word.now c.args.text.now c.loop-cut.rest.now c.split_at.result.0.now c.loop-cut.invariant c.in_default.ensures.none c.split_at.ensures.front;
}
