use Rattle.live_program.proofs.OtherDayLaws.{other_day, other_refusal}
use Rattle.live_program.proofs.marking.refuse_other_days.Goals as goal

pub returns-in-Err-clause-open : goal.returns-in-Err-clause-open
returns-in-Err-clause-open g c told = other_day _ (g.S.Source.files c.args.source.now) c.args.options.now c.in-Err.why c.refused.result c.refused.ensures.value c.in-Err.ensures.refused told

pub returns-in-Err-clause-refused : goal.returns-in-Err-clause-refused
returns-in-Err-clause-refused g c = other_refusal _ (g.S.Source.files c.args.source.now) c.args.options.now c.in-Err.why c.refused.result c.refused.ensures.value c.in-Err.ensures.refused
