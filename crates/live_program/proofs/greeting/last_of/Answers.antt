use Rattle.live_program.proofs.GreetingLaws.{last_more}
use Rattle.live_program.proofs.greeting.last_of.Goals as goal

pub loop-entry-preserved : goal.loop-entry-preserved
loop-entry-preserved c =
    last_more c.args.station c.args.journal.now c.loop-entry.entry-index c.entry-item.result _ _ c.loop-entry-test.true c.entry-item.is c.own_or-last.ensures.value
    c.loop-entry.invariant
