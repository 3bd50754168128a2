use Rattle.live_program.proofs.FileLaws.{answers_more}
use Rattle.live_program.proofs.answers.answers_of.Goals as goal

pub loop-entry-preserved : goal.loop-entry-preserved
loop-entry-preserved c =
    answers_more c.args.station c.args.journal.now c.loop-entry.entry-index c.entry-item.result _ _ c.loop-entry-test.true c.entry-item.is c.in_ok-add_own.ensures.added c.loop-entry.invariant
