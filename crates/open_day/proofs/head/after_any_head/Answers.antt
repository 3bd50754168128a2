use Rattle.open_day.proofs.HeadLaws.{no_head_earlier}
use Rattle.open_day.proofs.head.after_any_head.Goals as goal

pub returns-in-None-clause-none : goal.returns-in-None-clause-none
returns-in-None-clause-none c = no_head_earlier c.args.log.now c.in-Some.counted.now c.in-Some.ensures.found c.in-None.ensures.none
